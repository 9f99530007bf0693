-- A slice that has ended without a failure has written all rows of its part of the source, as its first search found them.
use Rattle.std.proofs.Common.{◌≡◌, ◌⊎◌, inl, inr, ◌-◌, ◌%◌, ◌≤◌, ◌<◌, ℕ, zero, suc, Bool, true, false, cond, not, ◌&&◌, List, [], ◌∷◌, length, Option, Some, None, refl, sym, ap, subst, ◌∙◌, arith}
use Rattle.std.specs.List.{flat_map, list_all, list_any}
use Rattle.std.specs.Option.{option_map_or}
use Rattle.std.specs.Prelude.{◌==◌, option_and_then}
use Rattle.std.proofs.lemmas.Bool.{cases_lt, or_right}
use Rattle.std.proofs.lemmas.Bool.Decides.{nat_tests}
use Rattle.std.proofs.lemmas.List.{nil_from_length}
use Rattle.std.proofs.lemmas.List.Folds.{list_any-append}
use Rattle.task_ids.specs.declared.cluster.Cluster.{Cluster}
use Rattle.task_ids.specs.declared.corpus.Corpus.{Corpus}
use Rattle.task_ids.specs.declared.task_id.TaskId.{TaskId}
use Rattle.task_events.specs.declared.event.Event.{Event}
use Rattle.task_events.specs.declared.reply.FailedShard.{FailedShard}
use Rattle.task_events.specs.declared.reply.Hit.{Hit}
use Rattle.task_events.specs.declared.reply.Reply.{Reply}
use Rattle.task_events.specs.declared.reply.Reply.TheVariants as replies
use Rattle.task_events.specs.declared.reply.SearchReply.{SearchReply}
use Rattle.task_events.specs.declared.reply.ShardCount.{ShardCount}
use Rattle.task_events.specs.declared.request.ReindexAsk.{ReindexAsk}
use Rattle.task_events.specs.declared.request.Request.{Request}
use Rattle.task_events.specs.declared.request.SearchAsk.{SearchAsk}
use Rattle.task_events.specs.declared.step.Asked.{Asked}
use Rattle.task_events.specs.Answers.{has_failed}
use Rattle.task_events.specs.Asks.{answer_of, answer_or, last_ask, rejection_of, up_to}
use Rattle.task_events.specs.Contexts.{opened}
use Rattle.task_events.specs.Counting.{failures_of}
use Rattle.task_events.specs.Documents.{writes_of}
use Rattle.task_events.specs.Kind.{Progress}
use Rattle.task_events.specs.Kinds.{kind_of}
use Rattle.task_events.specs.Requests.{Scripted, request_of}
use Rattle.task_events.specs.SliceTask.{answer_at, docs_on, first_page, is_clean, slice_step}
use Rattle.task_events.specs.Steps.{asked_by}
use Rattle.task_events.specs.Tasks.{child_of, parent_of, reply_of}
use Rattle.script_lang.specs.declared.command.Script.{Script}
use Rattle.command_roots.specs.Roots.{scripted}
use Rattle.task_laws.proofs.Asks.{ask_facts}
use Rattle.task_laws.proofs.Content.{answer_facts}
use Rattle.task_laws.proofs.Same.{same_tests}
use Rattle.world_moves.specs.Good.{so_far}
use Rattle.world_steps.specs.PagesFollow.{all_given, first_context, gave_all, joined, listed, pages, shown_by, shows_none}
use Rattle.world_steps.proofs.PagesInOrder.{all_of_run}
use Rattle.write_laws.specs.Copied.{HasWritten, docs_shown, is_end}
use Rattle.write_laws.specs.CopiedRows.{CopiesRows, docs_in}
use Rattle.write_laws.specs.KindsAsked.{is_part}
use Rattle.write_laws.proofs.AllGiven.{EachGives, given_by_each}
use Rattle.write_laws.proofs.AskedInOrder.{answer_come}
use Rattle.write_laws.proofs.ChildAsks.{asks_made, child_request}
use Rattle.write_laws.proofs.FirstContexts.{first_opened}
use Rattle.write_laws.proofs.FlatLists.{flat_last, flats_agree}
use Rattle.write_laws.proofs.GoodAnswers.{IsGoodAnswer, all_come, good_answer}
use Rattle.write_laws.proofs.LastPages.{bulk_clean, is_page, reading_shows, slices_read}
use Rattle.write_laws.proofs.OneAtATime.{one_at_a_time}
use Rattle.write_laws.proofs.OwnSearches.{bulk_asked, search_asked}
use Rattle.write_laws.proofs.PagesAsked.{page_search}
use Rattle.write_laws.proofs.PagesByAsks.{page_at, pages_by_asks, reply_at}
use Rattle.write_laws.proofs.PagesShown.{child_or_not, child_within, others_show_none}
use Rattle.write_laws.proofs.Pasts.{IsPast}
use Rattle.write_laws.proofs.ShownDocs.{docs_by_asks, docs_joined, page_docs}
use Rattle.write_laws.proofs.SliceAsks.{asks_said, newest_answer}
use Rattle.write_laws.proofs.SlicesWritten.{bulk_shows_none, slices_written}
use Rattle.write_laws.proofs.UnfailedAnswers.{no_failures}
use Rattle.write_laws.proofs.WholeContexts.{keeps_whole}

-- what was shown without a failure shows all that is kept
none_failed : (failed : List FailedShard) (kept : List ShardCount) → failed ≡ [] → list_all (λ n. not (has_failed failed n.shard)) kept ≡ true
none_failed failed kept none = ap (λ xs. list_all (λ n. not (has_failed xs n.shard)) kept) none ∙ all_kept kept
  where
    all_kept : (kept : List ShardCount) → list_all (λ (n : ShardCount). not (has_failed [] n.shard)) kept ≡ true
    all_kept [] = refl
    all_kept (n ∷ kept) = all_kept kept

unfailing_gives : (kept : List ShardCount) (reply : Reply) → failures_of reply ≡ 0 → gave_all kept reply ≡ true
unfailing_gives kept (replies.Search found) good = none_failed found.failed kept (nil_from_length found.failed good)
unfailing_gives kept (replies.Top top) good = refl
unfailing_gives kept (replies.Hits hits) good = refl
unfailing_gives kept (replies.AllFailed failed) good = refl
unfailing_gives kept (replies.Wrote counts) good = refl
unfailing_gives kept (replies.Cancelled t c counts) good = refl
unfailing_gives kept (replies.Rejected n) good = refl

-- a last page shows nothing, so it is an empty page among those that are shown
end_shows_none : (reply : Reply) → is_end reply ≡ true → list_any shows_none (shown_by reply) ≡ true
end_shows_none (replies.Search page) e = by_hits page.hits (length page.failed) e
  where
    by_hits : (hits : List Hit) (failed : ℕ) → ((failed == 0) && (length hits == 0)) ≡ true → list_any shows_none (hits ∷ []) ≡ true
    by_hits [] failed e = refl
    by_hits (hit ∷ hits) failed e = absurd (grind (arith, nat_tests))
end_shows_none (replies.Top top) e = absurd (cc)
end_shows_none (replies.Hits hits) e = absurd (cc)
end_shows_none (replies.AllFailed failed) e = absurd (cc)
end_shows_none (replies.Wrote counts) e = absurd (cc)
end_shows_none (replies.Cancelled t c counts) e = absurd (cc)
end_shows_none (replies.Rejected n) e = absurd (cc)

-- it is no reply of a bulk
end_unclean : (reply : Reply) → is_end reply ≡ true → is_clean reply ≡ false
end_unclean (replies.Search page) e = refl
end_unclean (replies.Top top) e = refl
end_unclean (replies.Hits hits) e = refl
end_unclean (replies.AllFailed failed) e = refl
end_unclean (replies.Wrote counts) e = absurd (cc)
end_unclean (replies.Cancelled t c counts) e = refl
end_unclean (replies.Rejected n) e = refl

shown_page : (reply : Reply) → is_page reply ≡ true → (found : SearchReply) × (reply ≡ replies.Search found)
shown_page (replies.Search found) e = (found, refl)
shown_page (replies.Top top) e = absurd (cc)
shown_page (replies.Hits hits) e = absurd (cc)
shown_page (replies.AllFailed failed) e = absurd (cc)
shown_page (replies.Wrote counts) e = absurd (cc)
shown_page (replies.Cancelled t c counts) e = absurd (cc)
shown_page (replies.Rejected n) e = absurd (cc)

module _ (cluster : Cluster) (corpus : Corpus) (script : Script) (request : Request) (ask : ReindexAsk) (slice : ℕ)
    (does : (t : TaskId) (made : Corpus) (q : Progress) (now : ℕ) → (kind_of request).step cluster made t q now ≡ slice_step t ask slice cluster.shards q.asked q.came now) (apart : is_part request ≡ false)
    (h : List Event) (past : IsPast cluster corpus script h) (t : TaskId) (reply : Reply) (good : failures_of reply ≡ 0) (told : reply_of t h ≡ Some reply) (asked : request_of (scripted script) t h ≡ Some request) where
  abbrev said : Scripted
  said = scripted script

  answered_well : (k : ℕ) (answer : Reply) → 1 ≤ k → k ≤ last_ask t h → answer_of t k h ≡ Some answer → IsGoodAnswer t h k answer
  answered_well = good_answer cluster h past.lawful t reply told (no_failures cluster corpus said request ask slice does h past.lawful past.keeps past.planned t reply good told asked)

  -- ---- the last answer

  record LastAnswer : Type 0 where
    answer : Reply
    some : 1 ≤ last_ask t h
    last : answer_of t (last_ask t h) h ≡ Some answer
    ends : is_end answer ≡ true

  last_answer : LastAnswer
  last_answer = by_answer (answer_at (asked_by t h) (length (asked_by t h) - 1)) refl (slices_read cluster corpus said request ask slice does apart h past.lawful past.keeps past.planned t reply good told asked)
    where
      none_made : (xs : List Asked) (answer : Reply) → answer_at xs (length xs - 1) ≡ Some answer → 1 ≤ length xs
      none_made [] answer e = absurd (cc)
      none_made (x ∷ xs) answer e = omega arith

      by_answer : (o : Option Reply) → answer_at (asked_by t h) (length (asked_by t h) - 1) ≡ o → option_map_or is_end o false ≡ true → LastAnswer
      by_answer None e read = absurd (cc)
      by_answer (Some answer) e read =
          let made = asks_made cluster t h past.lawful in
          let some = none_made (asked_by t h) answer e in
          record { answer = answer; some = omega (arith, made, some); last = newest_answer cluster t h past.lawful answer e; ends = read }

  -- ---- the first answer

  record FirstAnswer : Type 0 where
    search : TaskId
    page : SearchReply
    put : child_of t 1 h ≡ Some search
    replied : reply_of search h ≡ Some (replies.Search page)
    fine : failures_of (replies.Search page) ≡ 0
    is_search : request_of said search h ≡ Some (first_page t ask slice cluster.shards)

  first_answer : FirstAnswer
  first_answer = of_answer (first_told (cases_lt 1 (last_ask t h)))
    where
      first_told : (1 < last_ask t h) ⊎ (last_ask t h ≤ 1) → (answer : Reply) × (answer_of t 1 h ≡ Some answer)
      first_told (inl more) = (asks_said cluster corpus said t request ask slice (does t) h past.lawful past.planned asked 2 (omega arith) (omega (arith, more))).answered (omega arith)
      first_told (inr one) = let some = last_answer.some in (last_answer.answer, ap (λ k. answer_of t k h) (let e : 1 ≡ last_ask t h = omega (arith, one, some) in e) ∙ last_answer.last)

      of_answer : (answer : Reply) × (answer_of t 1 h ≡ Some answer) → FirstAnswer
      of_answer (answer, e) =
          let first = answered_well 1 answer (omega arith) last_answer.some e in
          let search = search_asked cluster corpus script h past t request ask slice (does t) asked first.child first.put last_answer.some in
          let page = shown_page answer (reading_shows cluster corpus said h past.lawful past.keeps past.planned first.child answer (first_page t ask slice cluster.shards) refl first.fine first.replied search) in
          record { search = first.child; page = page.0; put = first.put; replied = first.replied ∙ ap Some page.1; fine = ap failures_of (sym page.1) ∙ first.fine; is_search = search }

  abbrev id : TaskId
  id = first_answer.search

  -- ---- its pages

  by_asks : pages said id h ≡ flat_map (page_at t h) (up_to (last_ask t h))
  by_asks = pages_by_asks cluster corpus script t id request ask slice (does t) h past asked first_answer.put

  -- no shard has failed in them
  each_gives : (kept : List ShardCount) → EachGives cluster said id kept h
  each_gives kept u answer replied own = by_child (child_or_not h (ask_facts cluster h past.lawful) t u)
    where
      by_answer : (k : ℕ) → child_of t k h ≡ Some u → (rejected : Option ℕ) → rejection_of t k h ≡ rejected → answer_or rejected (option_and_then (λ c. reply_of c h) (child_of t k h)) ≡ answer_of t k h → gave_all kept answer ≡ true
      by_answer k put (Some n) e same = absurd (let none : None ≡ Some u = sym ((answer_facts cluster h past.lawful).rejected_put t k n e).1 ∙ put in cc)
      by_answer k put None e same =
          let within = child_within cluster h past.lawful t k u put in
          let fine = answered_well k answer within.0 within.1 (sym same ∙ ap (option_and_then (λ c. reply_of c h)) put ∙ replied) in
          unfailing_gives kept answer fine.fine

      by_child : ((k : ℕ) × (child_of t k h ≡ Some u)) ⊎ ((k : ℕ) → child_of t k h ≡ Some u → ⊥) → gave_all kept answer ≡ true
      by_child (inl (k, put)) = by_answer k put (rejection_of t k h) refl (ap (λ o. answer_or o (option_and_then (λ c. reply_of c h) (child_of t k h))) refl)
      by_child (inr other) = absurd (let no : true ≡ false = sym own ∙ others_show_none cluster corpus script t id request ask slice (does t) h past asked first_answer.put u other in cc)

  all_are_given : (kept : List ShardCount) → all_given kept said id h ≡ true
  all_are_given kept = given_by_each cluster said id kept h past.lawful (each_gives kept)

  -- the last of them shows nothing
  last_shown : list_any shows_none (pages said id h) ≡ true
  last_shown = ap (list_any shows_none) by_asks ∙ by_number (last_ask t h) refl
    where
      last : IsGoodAnswer t h (last_ask t h) last_answer.answer
      last = answered_well (last_ask t h) last_answer.answer last_answer.some (omega arith) last_answer.last

      odd : (b : Bool) → (last_ask t h % 2 == 1) ≡ b → b ≡ true
      odd true e = refl
      odd false e =
          let bulk = bulk_asked cluster corpus script h past t request ask slice (does t) asked (last_ask t h) last_answer.some (omega arith) (grind (arith, nat_tests)) in
          let made = child_request cluster corpus said h past.lawful t (last_ask t h) last.child last.put ∙ bulk.1 in
          let clean = bulk_clean cluster corpus said h past.lawful past.keeps past.planned last.child last_answer.answer (record { dest = ask.dest; docs = docs_on bulk.0 }) last.fine last.replied made in
          absurd (let no : true ≡ false = sym clean ∙ end_unclean last_answer.answer last_answer.ends in cc)

      page : page_at t h (last_ask t h) ≡ shown_by last_answer.answer
      page = (λ i. cond (odd (last_ask t h % 2 == 1) refl i) (option_map_or shown_by (option_and_then (λ c. reply_of c h) (last.put i)) []) []) ∙ ap (λ o. option_map_or shown_by o []) last.replied

      by_number : (n : ℕ) → last_ask t h ≡ n → list_any shows_none (flat_map (page_at t h) (up_to n)) ≡ true
      by_number zero e = absurd (let some = last_answer.some in omega (arith, e, some))
      by_number (suc m) e =
          ap (list_any shows_none) (flat_last (page_at t h) m) ∙ list_any-append shows_none (flat_map (page_at t h) (up_to m)) (page_at t h (suc m))
          ∙ or_right (list_any shows_none (flat_map (page_at t h) (up_to m))) (list_any shows_none (page_at t h (suc m)))
          (ap (list_any shows_none) (ap (page_at t h) (sym e) ∙ page) ∙ end_shows_none last_answer.answer last_answer.ends)

  -- ---- its documents

  page_of_ask : (k : ℕ) → 1 ≤ k → k ≤ last_ask t h → docs_in (joined (page_at t h k)) ≡ option_map_or docs_on (answer_come t h k) []
  page_of_ask k low high = by_parity (k % 2 == 1) refl (answer_of t k h) refl ∙ ap (λ o. option_map_or docs_on o []) (sym (all_come cluster h past.lawful t reply told k))
    where
      of_child : (b : Bool) → (k % 2 == 1) ≡ b → (answer : Reply) → IsGoodAnswer t h k answer → docs_in (joined (cond b (shown_by answer) [])) ≡ docs_on answer
      of_child true e answer is = page_docs answer
      of_child false e answer is =
          let bulk = bulk_asked cluster corpus script h past t request ask slice (does t) asked k low high (grind (arith, nat_tests)) in
          let made = child_request cluster corpus said h past.lawful t k is.child is.put ∙ bulk.1 in
          sym (bulk_shows_none cluster corpus said h past.lawful past.keeps past.planned is.child answer (record { dest = ask.dest; docs = docs_on bulk.0 }) is.fine is.replied made)

      silent : (b : Bool) → reply_at t h k ≡ None → docs_in (joined (cond b (option_map_or shown_by (reply_at t h k) []) [])) ≡ []
      silent true none = ap (λ o. docs_in (joined (option_map_or shown_by o []))) none
      silent false none = refl

      unanswered : (rejected : Option ℕ) → answer_or rejected (reply_at t h k) ≡ None → reply_at t h k ≡ None
      unanswered None e = e
      unanswered (Some n) e = absurd (cc)

      by_parity : (b : Bool) → (k % 2 == 1) ≡ b → (o : Option Reply) → answer_of t k h ≡ o → docs_in (joined (cond b (option_map_or shown_by (reply_at t h k) []) [])) ≡ option_map_or docs_on (answer_of t k h) []
      by_parity b e None none = silent b (unanswered (rejection_of t k h) none) ∙ ap (λ o. option_map_or docs_on o []) (sym none)
      by_parity b e (Some answer) told_so =
          let is = answered_well k answer low high told_so in
          (λ i. docs_in (joined (cond b (option_map_or shown_by ((ap (option_and_then (λ c. reply_of c h)) is.put ∙ is.replied) i) []) []))) ∙ of_child b e answer is ∙ ap (λ o. option_map_or docs_on o []) (sym told_so)

  shown_docs : docs_in (joined (pages said id h)) ≡ docs_shown (asked_by t h)
  shown_docs =
      ap (λ xs. docs_in (joined xs)) by_asks ∙ docs_joined (page_at t h) (up_to (last_ask t h))
      ∙ flats_agree (λ k. docs_in (joined (page_at t h k))) (λ k. option_map_or docs_on (answer_come t h k) []) (last_ask t h) page_of_ask
      ∙ sym (docs_by_asks cluster t h past.lawful)

  -- ---- all rows

  abbrev search_ask : SearchAsk
  search_ask = page_search t ask slice cluster.shards

  context : (now : ℕ) × (first_context said id h ≡ Some (opened id search_ask first_answer.page now))
  context = first_opened cluster said id search_ask first_answer.page refl h past.lawful first_answer.replied first_answer.is_search

  all_shown : joined (pages said id h) ≡ listed (writes_of (so_far corpus script h) cluster.shards ask.source) (opened id search_ask first_answer.page context.0)
  all_shown = all_of_run cluster corpus script id h (one_at_a_time cluster corpus script h past) past.lawful past.plain (opened id search_ask first_answer.page context.0) context.1 (all_are_given first_answer.page.shards) last_shown

  its_parent : parent_of id h ≡ Some t
  its_parent = let f = ask_facts cluster h past.lawful in grind (arith, same_tests, f.child_knows t 1 id, first_answer.put)

  pub rows_copied : CopiesRows cluster corpus script t ask slice h
  rows_copied = record {
    search = id;
    parent = its_parent;
    asked = first_answer.is_search;
    context = opened id search_ask first_answer.page context.0;
    opened = context.1;
    reads = refl;
    whole = keeps_whole cluster corpus script h past.lawful past.plain id search_ask first_answer.page first_answer.replied first_answer.is_search (nil_from_length first_answer.page.failed first_answer.fine);
    written = subst (HasWritten said t h) (sym shown_docs ∙ ap docs_in all_shown) (slices_written cluster corpus said request ask slice does apart h past.lawful past.keeps past.planned t reply good told asked);
  }
