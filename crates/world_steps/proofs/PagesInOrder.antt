-- The pages of a context are the first cuts of its list, in every past.
use Rattle.std.proofs.Common.{◌≡◌, ◌⊎◌, ℕ, ◌+◌, ◌*◌, Bool, true, false, cond, List, [], ◌∷◌, ◌++◌, length, Option, Some, None, refl, sym, ap, subst, ◌∙◌, inl, inr, arith}
use Rattle.std.specs.Prelude.{◌&&◌, not, map, take, drop, option_map}
use Rattle.std.specs.List.{last_or, list_all, list_any}
use Rattle.std.specs.Option.{option_or}
use Rattle.std.proofs.lemmas.List.{append-nil}
use Rattle.task_ids.specs.declared.cluster.Cluster.{Cluster}
use Rattle.task_ids.specs.declared.corpus.Corpus.{Corpus}
use Rattle.task_ids.specs.declared.doc.Doc.{Doc}
use Rattle.task_ids.specs.declared.task_id.TaskId.{TaskId}
use Rattle.task_events.specs.declared.context.Context.{Context}
use Rattle.task_events.specs.declared.event.Event.{Event}
use Rattle.task_events.specs.declared.event.Event.TheVariants.{Pass, Write, Begin, Root, Ask, Refuse, End, Tick}
use Rattle.task_events.specs.declared.reply.FailedShard.{FailedShard}
use Rattle.task_events.specs.declared.reply.Hit.{Hit}
use Rattle.task_events.specs.declared.reply.Reply.{Reply}
use Rattle.task_events.specs.declared.reply.Reply.TheVariants.{Search, Top, Hits, AllFailed, Wrote, Cancelled, Rejected}
use Rattle.task_events.specs.declared.reply.SearchReply.{SearchReply}
use Rattle.task_events.specs.declared.reply.ShardCount.{ShardCount}
use Rattle.task_events.specs.declared.request.HitKey.{HitKey}
use Rattle.task_events.specs.declared.request.Request.{Request}
use Rattle.task_events.specs.declared.request.Request.TheVariants as asks
use Rattle.task_events.specs.declared.request.ScrollAsk.{ScrollAsk}
use Rattle.task_events.specs.declared.request.SearchAsk.{SearchAsk}
use Rattle.task_events.specs.Answers.{found_keys, has_failed, read_at, plain_answer}
use Rattle.task_events.specs.Bans.{mark_of}
use Rattle.task_events.specs.Clock.{clock}
use Rattle.task_events.specs.declared.reply.Counts.{Counts}
use Rattle.task_events.specs.Steps.{counted}
use Rattle.task_events.specs.Written.{line_of, next_doc}
use Rattle.task_events.specs.Contexts.{opens_context, opened, with_use, given_back, cursor_in, after_taking, after_end, context_at, page_of}
use Rattle.task_events.specs.Documents.{writes_of}
use Rattle.task_events.specs.Lawful.{Lawful}
use Rattle.task_events.specs.Readings.{Reading, search_reading, page_reading}
use Rattle.task_events.specs.Requests.{Scripted, request_of}
use Rattle.task_events.specs.Same.{same_task}
use Rattle.task_events.specs.ShardOutcomes.{answered_shards, failed_shards}
use Rattle.task_events.specs.Tasks.{is_live, is_new, has_ended}
use Rattle.task_laws.proofs.Asks.{ask_facts}
use Rattle.script_lang.specs.declared.command.Script.{Script}
use Rattle.command_roots.specs.Roots.{scripted}
use Rattle.search_phase.specs.Growth.{HaveGrown, AreWithin}
use Rattle.search_phase.proofs.Growth.{AreWithin-grow, found_keys-grow, listed-grow, writes_of-grow}
use Rattle.search_phase.proofs.Sorting.{by_test}
use Rattle.world_moves.specs.Good.{so_far}
use Rattle.world_moves.specs.Owning.{OneAtATime}
use Rattle.world_moves.specs.Plain.{AnswersPlainly, EndsPlainly, IsPlainReply}
use Rattle.world_moves.proofs.ContextsPast.{begun_there, left_owned, unexpired_there, stands_ended}
use Rattle.world_steps.specs.PagesFollow.{listed, cuts, shows_none, joined, is_of_context, shown_by, pages, gave_all, all_given, first_context}
use Rattle.world_steps.proofs.AllShown.{all_cut}
use Rattle.world_steps.proofs.FromFirst.{context_shown}
use Rattle.world_steps.proofs.ReadBefore.{counts_within}
use Rattle.world_steps.proofs.Cutting.{cuts_push, last_next, rows_next}
use Rattle.search_phase.proofs.KeysApart.{AreDifferent}
use Rattle.search_phase.proofs.NextCut.{good_parts, shows_cut}
use Rattle.world_steps.proofs.ShardsAnswered.{shards_of, search_different, page_answers}
use Rattle.world_steps.proofs.UsedAlone.{IsInUse, all_in_use, is_one, same_itself}

-- ---- where a context stands

abbrev listed_keys : (ℕ → List Doc) → Context → List HitKey
listed_keys writes c = found_keys c.ask writes (map read_at c.shards)

-- it looks through the same, and its cursor is the last of the first so many rows of the list
record StandsAt (writes : ℕ → List Doc) (first : Context) (rows : ℕ) (c : Context) : Type 0 where
  ask : c.ask ≡ first.ask
  shards : c.shards ≡ first.shards
  cursor : c.after ≡ last_or None (take rows (listed_keys writes first))

abbrev IfStands : (Context → Type 0) → Option Context → Type 0
IfStands P o = (c : Context) → o ≡ Some c → P c

module _ (writes : ℕ → List Doc) (first : Context) (rows : ℕ) where
  abbrev Here : Context → Type 0
  Here c = StandsAt writes first rows c

  same_context : (o : Option Context) (d : Context) → IfStands Here o → o ≡ Some d → (c : Context) → c.ask ≡ d.ask → c.shards ≡ d.shards → c.after ≡ d.after → Here c
  same_context o d before at c ask shards cursor =
      let b = before d at in
      record { ask = ask ∙ b.ask; shards = shards ∙ b.shards; cursor = cursor ∙ b.cursor }

  changed : (b : Bool) (f : Context → Context) → ((d : Context) → ((f d).ask ≡ d.ask) × ((f d).shards ≡ d.shards) × ((f d).after ≡ d.after)) → (o : Option Context) → IfStands Here o → IfStands Here (cond b (option_map f o) o)
  changed true f keeps None before c e = absurd (cc)
  changed true f keeps (Some d) before c e =
      let is : f d ≡ c = cc in
      same_context (Some d) d before refl c (ap (λ (x : Context). x.ask) (sym is) ∙ (keeps d).0) (ap (λ (x : Context). x.shards) (sym is) ∙ (keeps d).1) (ap (λ (x : Context). x.after) (sym is) ∙ (keeps d).2)
  changed false f keeps o before c e = before c e

  taken : (now : ℕ) (t : TaskId) (q : Option Request) (id : TaskId) (o : Option Context) → IfStands Here o → IfStands Here (after_taking now t q id o)
  taken now t None id o before = before
  taken now t (Some (asks.Search ask)) id o before = before
  taken now t (Some (asks.Query ask)) id o before = before
  taken now t (Some (asks.Fetch ask)) id o before = before
  taken now t (Some (asks.Reindex ask)) id o before = before
  taken now t (Some (asks.Slice ask)) id o before = before
  taken now t (Some (asks.Bulk ask)) id o before = before
  taken now t (Some (asks.BulkShard ask)) id o before = before
  taken now t (Some (asks.Scroll ask)) id o before = changed (same_task ask.id id) (with_use now ask.keep t) (λ d. (refl, refl, refl)) o before

  -- a page that shows nothing leaves the cursor
  returned : (now : ℕ) (t : TaskId) (ask : ScrollAsk) (reply : Reply) (id : TaskId) (o : Option Context) → cursor_in reply ≡ None → IfStands Here o → IfStands Here (after_end now t (Some (asks.Scroll ask)) reply id o)
  returned now t ask reply id o none before = changed (same_task ask.id id) (given_back (cursor_in reply) now) (λ d. (refl, refl, ap (λ after. option_or after d.after) none)) o before

-- ---- ends that show no page

-- a task that is not of the context leaves it
end_elsewhere : (now : ℕ) (t : TaskId) (q : Option Request) (reply : Reply) (id : TaskId) (o : Option Context) → is_of_context id t q ≡ false → after_end now t q reply id o ≡ o
end_elsewhere now t None reply id o e = refl
end_elsewhere now t (Some (asks.Query ask)) reply id o e = refl
end_elsewhere now t (Some (asks.Fetch ask)) reply id o e = refl
end_elsewhere now t (Some (asks.Reindex ask)) reply id o e = refl
end_elsewhere now t (Some (asks.Slice ask)) reply id o e = refl
end_elsewhere now t (Some (asks.Bulk ask)) reply id o e = refl
end_elsewhere now t (Some (asks.BulkShard ask)) reply id o e = refl
end_elsewhere now t (Some (asks.Scroll ask)) reply id o e = rw e refl
end_elsewhere now t (Some (asks.Search ask)) (Search found) id o e = rw e refl
end_elsewhere now t (Some (asks.Search ask)) (Top top) id o e = refl
end_elsewhere now t (Some (asks.Search ask)) (Hits hits) id o e = refl
end_elsewhere now t (Some (asks.Search ask)) (Wrote counts) id o e = refl
end_elsewhere now t (Some (asks.Search ask)) (AllFailed failed) id o e = refl
end_elsewhere now t (Some (asks.Search ask)) (Cancelled task cancel counts) id o e = refl
end_elsewhere now t (Some (asks.Search ask)) (Rejected node) id o e = refl

-- a reply shows a page, or nothing
shows_or_not : (reply : Reply) → ((found : SearchReply) × (reply ≡ Search found)) ⊎ ((shown_by reply ≡ []) × (cursor_in reply ≡ None) × ((now : ℕ) (t : TaskId) (ask : SearchAsk) (id : TaskId) (o : Option Context) → after_end now t (Some (asks.Search ask)) reply id o ≡ o))
shows_or_not (Search found) = inl (found, refl)
shows_or_not (Top top) = inr (refl, refl, λ now t ask id o. refl)
shows_or_not (Hits hits) = inr (refl, refl, λ now t ask id o. refl)
shows_or_not (Wrote counts) = inr (refl, refl, λ now t ask id o. refl)
shows_or_not (AllFailed failed) = inr (refl, refl, λ now t ask id o. refl)
shows_or_not (Cancelled task cancel counts) = inr (refl, refl, λ now t ask id o. refl)
shows_or_not (Rejected node) = inr (refl, refl, λ now t ask id o. refl)

both_given : (a b : Bool) → a && b ≡ true → (a ≡ true) × (b ≡ true)
both_given true true e = (refl, refl)
both_given true false e = absurd (cc)
both_given false b e = absurd (cc)

-- ---- before the search has ended

module _ (cluster : Cluster) (said : Scripted) (id : TaskId) where
  -- a task that is of the context is its search, or a page of one that stands
  of_search_or_page : (h : List Event) → Lawful cluster h → OneAtATime said h → (t : TaskId) → is_live t h ≡ true → is_new t h ≡ false → is_of_context id t (request_of said t h) ≡ true
      → (t ≡ id) ⊎ ((ask : ScrollAsk) × (request_of said t h ≡ Some (asks.Scroll ask)) × (ask.id ≡ id) × IsInUse said t ask h)
  of_search_or_page h lawful alone t live passed own = of_request (request_of said t h) refl own
    where
      of_request : (q : Option Request) → request_of said t h ≡ q → is_of_context id t q ≡ true → (t ≡ id) ⊎ ((ask : ScrollAsk) × (request_of said t h ≡ Some (asks.Scroll ask)) × (ask.id ≡ id) × IsInUse said t ask h)
      of_request None e is = absurd (cc)
      of_request (Some (asks.Query ask)) e is = absurd (cc)
      of_request (Some (asks.Fetch ask)) e is = absurd (cc)
      of_request (Some (asks.Reindex ask)) e is = absurd (cc)
      of_request (Some (asks.Slice ask)) e is = absurd (cc)
      of_request (Some (asks.Bulk ask)) e is = absurd (cc)
      of_request (Some (asks.BulkShard ask)) e is = absurd (cc)
      of_request (Some (asks.Search ask)) e is = inl (is_one t id is)
      of_request (Some (asks.Scroll ask)) e is = inr (ask, e, is_one ask.id id is, all_in_use cluster said h lawful alone t ask live passed e)

  page_has_search : (h : List Event) (t : TaskId) (ask : ScrollAsk) → ask.id ≡ id → IsInUse said t ask h → has_ended id h ≡ true
  page_has_search h t ask own b = stands_ended said id h b.context (sym (ap (λ i. context_at said i h) own) ∙ b.stands)

  -- nothing is shown, and no context opened
  unshown : (h : List Event) → Lawful cluster h → OneAtATime said h → has_ended id h ≡ false → (pages said id h ≡ []) × (first_context said id h ≡ None)
  unshown [] lawful alone not_yet = (refl, refl)
  unshown (End t reply ∷ h) lawful alone not_yet =
      by_test (same_task id t)
      (λ own. absurd (let f : true ≡ false = rw own at not_yet in cc))
      (λ other.
      let before : has_ended id h ≡ false = rw other at not_yet in
      let rest = unshown h lawful.1 alone before in
      by_test (is_of_context id t (request_of said t h))
      (λ is. of_task other before (of_search_or_page h lawful.1 alone t lawful.0.goes_on.live lawful.0.goes_on.passed is))
      (λ elsewhere.
      let same : after_end (clock h) t (request_of said t h) reply id None ≡ None = end_elsewhere (clock h) t (request_of said t h) reply id None elsewhere in
      rw (elsewhere, same, rest.0) (refl, rest.1)))
    where
      of_task : same_task id t ≡ false → has_ended id h ≡ false → (t ≡ id) ⊎ ((ask : ScrollAsk) × (request_of said t h ≡ Some (asks.Scroll ask)) × (ask.id ≡ id) × IsInUse said t ask h)
          → (pages said id (End t reply ∷ h) ≡ []) × (first_context said id (End t reply ∷ h) ≡ None)
      of_task other before (inl own) = absurd (let f : false ≡ true = sym other ∙ ap (same_task id) own ∙ same_itself id in cc)
      of_task other before (inr (ask, asked, own, b)) = absurd (let f : false ≡ true = sym before ∙ page_has_search h t ask own b in cc)
  unshown (Refuse t c ∷ h) lawful alone not_yet =
      by_test (same_task id t)
      (λ own. absurd (let f : true ≡ false = rw own at not_yet in cc))
      (λ other. unshown h lawful.1 alone (rw other at not_yet))
  unshown (Root k t ∷ h) lawful alone not_yet = unshown h lawful.1 alone.1 not_yet
  unshown (Ask p k n r ∷ h) lawful alone not_yet = unshown h lawful.1 alone.1 not_yet
  unshown (Pass t ∷ h) lawful alone not_yet = unshown h lawful.1 alone.1 not_yet
  unshown (e ∷ h) lawful alone not_yet = unshown h lawful.1 alone not_yet

-- ---- every past

module _ (cluster : Cluster) (corpus : Corpus) (script : Script) (id : TaskId) where
  abbrev said : Scripted
  said = scripted script

  -- what is written so far
  abbrev look : List Event → Corpus
  look h = so_far corpus script h

  abbrev writes : List Event → Context → ℕ → List Doc
  writes h c = writes_of (look h) cluster.shards c.ask.index

  -- how many rows so many pages take up
  abbrev rows : Context → List (List Hit) → ℕ
  rows c shown = length shown * c.ask.body.size

  record FollowsBy (w : ℕ → List Doc) (c : Context) (shown : List (List Hit)) (o : Option Context) : Type 0 where
    different : AreDifferent (shards_of c.shards)
    -- the versions that it keeps were written
    within : AreWithin w (map read_at c.shards)
    cut : shown ≡ cuts c.ask.body.size (length shown) (listed w c)
    stands : IfStands (StandsAt w c (rows c shown)) o

  abbrev Follows : Context → List Event → Type 0
  Follows c h = FollowsBy (writes h c) c (pages said id h) (context_at said id h)

  -- what is written later changes nothing of it
  follows_on : (w later : ℕ → List Doc) → HaveGrown w later → (c : Context) (shown : List (List Hit)) (o : Option Context) → FollowsBy w c shown o → FollowsBy later c shown o
  follows_on w later grown c shown o b = record {
    different = b.different;
    within = AreWithin-grow w later grown (map read_at c.shards) b.within;
    cut = b.cut ∙ ap (cuts c.ask.body.size (length shown)) (sym (listed-grow w later grown c.ask (map read_at c.shards) b.within));
    stands = λ d e.
        let at = b.stands d e in
        record { ask = at.ask; shards = at.shards; cursor = at.cursor ∙ ap (λ keys. last_or None (take (rows c shown) keys)) (sym (found_keys-grow w later grown c.ask (map read_at c.shards) b.within)) };
  }

  abbrev Law : List Event → Type 0
  Law h = (c : Context) → first_context said id h ≡ Some c → c.ask.body.from ≡ 0 → all_given c.shards said id h ≡ true → Follows c h

  -- what the end of a task makes of the context of the id
  abbrev ended : TaskId → Reply → List Event → Option Context
  ended t reply h = after_end (clock h) t (request_of said t h) reply id (context_at said id h)

  -- the law after an end, before what belongs to the task is gone
  abbrev EndLaw : TaskId → Reply → List Event → Type 0
  EndLaw t reply h = (c : Context) → first_context said id (End t reply ∷ h) ≡ Some c → c.ask.body.from ≡ 0 → all_given c.shards said id (End t reply ∷ h) ≡ true → FollowsBy (writes h c) c (pages said id (End t reply ∷ h)) (ended t reply h)

  gone_with : (t : TaskId) (reply : Reply) (h : List Event) → EndLaw t reply h → Law (End t reply ∷ h)
  gone_with t reply h law c first no_from given =
      let b = law c first no_from given in
      record { different = b.different; within = b.within; cut = b.cut; stands = λ d e. b.stands d (left_owned t (ended t reply h) d e) }

  -- a good reply of a task is plain
  search_plain : (t : TaskId) (page : Option Context) (mark : Option ℕ) (ask : SearchAsk) (h : List Event) (found : SearchReply) (counts : Counts) → EndsPlainly cluster look t page mark counts (Some (asks.Search ask)) h (Search found)
      → IsPlainReply cluster look t (search_reading t ask cluster.shards) h (Search found)
  search_plain t page (Some k) ask h found counts e = absurd (cc)
  search_plain t page None ask h found counts e = e

  page_plain : (t : TaskId) (c : Context) (mark : Option ℕ) (ask : ScrollAsk) (h : List Event) (found : SearchReply) (counts : Counts) → EndsPlainly cluster look t (Some c) mark counts (Some (asks.Scroll ask)) h (Search found)
      → IsPlainReply cluster look t (page_reading c) h (Search found)
  page_plain t c (Some k) ask h found counts e = absurd (cc)
  page_plain t c None ask h found counts e = e

  -- the first page
  opens : (t : TaskId) (ask : SearchAsk) (h : List Event) (found : SearchReply) (now : ℕ) → IsPlainReply cluster look t (search_reading t ask cluster.shards) h (Search found)
      → (c : Context) → c ≡ opened id ask found now → c.ask.body.from ≡ 0 → gave_all c.shards (Search found) ≡ true
      → AreDifferent (shards_of c.shards) × (found.hits ≡ take c.ask.body.size (listed (writes h c) c)) × (c.after ≡ last_or None (take c.ask.body.size (listed_keys (writes h c) c))) × AreWithin (writes h c) (map read_at c.shards)
  opens t ask h found now plain c is no_from given =
      subst (λ d. d.ask.body.from ≡ 0 → gave_all d.shards (Search found) ≡ true → AreDifferent (shards_of d.shards) × (found.hits ≡ take d.ask.body.size (listed (writes h d) d)) × (d.after ≡ last_or None (take d.ask.body.size (listed_keys (writes h d) d))) × AreWithin (writes h d) (map read_at d.shards))
      (sym is) of_opened no_from given
    where
      r : Reading
      r = search_reading t ask cluster.shards

      of_opened : ask.body.from ≡ 0 → list_all (λ n. not (has_failed found.failed n.shard)) found.shards ≡ true
          → let d : Context = opened id ask found now in AreDifferent (shards_of d.shards) × (found.hits ≡ take d.ask.body.size (listed (writes h d) d)) × (d.after ≡ last_or None (take d.ask.body.size (listed_keys (writes h d) d))) × AreWithin (writes h d) (map read_at d.shards)
      of_opened from whole =
          let w : ℕ → List Doc = writes_of (look h) cluster.shards ask.index in
          let answered : List ShardCount = answered_shards (search_reading t ask cluster.shards) w t h in
          let failed : List FailedShard = failed_shards (search_reading t ask cluster.shards) t h in
          let parts = good_parts (search_reading t ask cluster.shards) w answered failed found (sym plain.answer) in
          let different = search_different ask w t h cluster.shards in
          let all : list_all (λ n. not (has_failed failed n.shard)) answered ≡ true =
          ap (λ l. list_all (λ n. not (has_failed l n.shard)) answered) (sym parts.1) ∙ ap (list_all (λ n. not (has_failed found.failed n.shard))) (sym parts.0) ∙ whole in
          let cut = shows_cut (search_reading t ask cluster.shards) w answered failed different from 0 refl found (sym plain.answer) all in (
            subst (λ l. AreDifferent (shards_of l)) (sym parts.0) different,
            cut.hits ∙ ap (λ l. take ask.body.size (listed w (record (opened id ask found now) { shards = l }))) (sym parts.0),
            cut.last ∙ ap (λ l. last_or None (take ask.body.size (found_keys ask w (map read_at l)))) (sym parts.0),
            subst (λ l. AreWithin w (map read_at l)) (sym parts.0) (counts_within cluster corpus script t ask h (Search found) plain),
          )

  -- a later page
  pages_on : (t : TaskId) (start first : Context) (h : List Event) (found : SearchReply) (m : ℕ) → IsPlainReply cluster look t (page_reading start) h (Search found)
      → StandsAt (writes h first) first m start → AreDifferent (shards_of first.shards) → first.ask.body.from ≡ 0 → gave_all first.shards (Search found) ≡ true
      → (found.hits ≡ take first.ask.body.size (drop m (listed (writes h first) first))) × (found.last ≡ last_or None (take first.ask.body.size (drop m (listed_keys (writes h first) first))))
  pages_on t start first h found m plain at different no_from given =
      let w : ℕ → List Doc = writes h start in
      let answered : List ShardCount = answered_shards (page_reading start) w t h in
      let failed : List FailedShard = failed_shards (page_reading start) t h in
      let parts = good_parts (page_reading start) w answered failed found (sym plain.answer) in
      let whole : list_all (λ n. not (has_failed failed n.shard)) start.shards ≡ true =
      ap (λ l. list_all (λ n. not (has_failed l n.shard)) start.shards) (sym parts.1) ∙ ap (list_all (λ n. not (has_failed found.failed n.shard))) at.shards ∙ given in
      let all_kept : answered ≡ start.shards = page_answers start.ask w t h failed start.shards plain.failed whole in
      let answer : plain_answer (page_reading start) w start.shards failed ≡ Search found = ap (λ l. plain_answer (page_reading start) w l failed) (sym all_kept) ∙ sym plain.answer in
      let keys_same : listed_keys w start ≡ listed_keys (writes h first) first = λ i. found_keys (at.ask i) (writes_of (look h) cluster.shards (at.ask i).index) (map read_at (at.shards i)) in
      let same_keys : listed_keys (writes h first) first ≡ listed_keys w start = sym keys_same in
      let same_list : listed w start ≡ listed (writes h first) first = λ i. listed (writes_of (look h) cluster.shards (at.ask i).index) (record start { ask = at.ask i; shards = at.shards i }) in
      let cut = shows_cut (page_reading start) w start.shards failed (subst (λ l. AreDifferent (shards_of l)) (sym at.shards) different) (ap (λ (a : SearchAsk). a.body.from) at.ask ∙ no_from) m
      (at.cursor ∙ ap (λ l. last_or None (take m l)) same_keys) found answer whole in (
        cut.hits ∙ ap (λ (a : SearchAsk). take a.body.size (drop m (listed w start))) at.ask ∙ ap (λ l. take first.ask.body.size (drop m l)) same_list,
        cut.last ∙ ap (λ (a : SearchAsk). last_or None (take a.body.size (drop m (listed_keys w start)))) at.ask ∙ ap (λ l. last_or None (take first.ask.body.size (drop m l))) keys_same,
      )

  -- ---- one more end

  step_silent : (t : TaskId) (reply : Reply) (h : List Event) → cond (is_of_context id t (request_of said t h)) (shown_by reply) [] ≡ [] → after_end (clock h) t (request_of said t h) reply id None ≡ None
      → ((w : ℕ → List Doc) (c : Context) (n : ℕ) → IfStands (StandsAt w c n) (context_at said id h) → IfStands (StandsAt w c n) (ended t reply h)) → Law h → EndLaw t reply h
  step_silent t reply h silent none keeps rest c first no_from given =
      let before : first_context said id h ≡ Some c = ap (λ o. option_or o (first_context said id h)) (sym none) ∙ first in
      let b = rest c before no_from (both_given _ _ given).0 in
      let same : pages said id (End t reply ∷ h) ≡ pages said id h = ap (λ l. pages said id h ++ l) silent ∙ append-nil (pages said id h) in
      subst (λ shown. FollowsBy (writes h c) c shown (ended t reply h)) (sym same) (record { different = b.different; within = b.within; cut = b.cut; stands = keeps (writes h c) c (rows c (pages said id h)) b.stands })

  -- a task that is not of the context
  step_else : (t : TaskId) (reply : Reply) (h : List Event) → is_of_context id t (request_of said t h) ≡ false → Law h → EndLaw t reply h
  step_else t reply h elsewhere =
      let same : (o : Option Context) → after_end (clock h) t (request_of said t h) reply id o ≡ o = λ o. end_elsewhere (clock h) t (request_of said t h) reply id o elsewhere in
      step_silent t reply h (ap (λ b. cond b (shown_by reply) []) elsewhere) (same None) (λ w c n before. subst (IfStands (StandsAt w c n)) (sym (same (context_at said id h))) before)

  never : (b : Bool) (shown : List (List Hit)) → cond b shown shown ≡ shown
  never true shown = refl
  never false shown = refl

  no_context : (b : Bool) (f : Context → Context) → cond b (option_map f None) None ≡ None
  no_context true f = refl
  no_context false f = refl

  -- the search
  step_search : (t : TaskId) (ask : SearchAsk) (reply : Reply) (h : List Event) → Lawful cluster h → OneAtATime said h → is_live t h ≡ true → request_of said t h ≡ Some (asks.Search ask) → same_task t id ≡ true
      → EndsPlainly cluster look t (page_of said t h) (mark_of t h) (counted cluster corpus said t h) (Some (asks.Search ask)) h reply → Law h → EndLaw t reply h
  step_search t ask reply h lawful alone live asked own plain rest = of_reply (shows_or_not reply)
    where
      not_yet : has_ended id h ≡ false
      not_yet = ap (λ u. has_ended u h) (sym (is_one t id own)) ∙ (ask_facts cluster h lawful).live_or_ended t live

      opening : (found : SearchReply) → reply ≡ Search found → (b : Bool) → opens_context ask ≡ b → EndLaw t reply h
      opening found is false other c first no_from given =
          let none : after_end (clock h) t (request_of said t h) reply id None ≡ None = rw (asked, is, own, other) refl in
          let before : first_context said id h ≡ Some c = ap (λ o. option_or o (first_context said id h)) (sym none) ∙ first in
          let f : None ≡ Some c = sym (unshown cluster said id h lawful alone not_yet).1 ∙ before in
          absurd (cc)
      opening found is true opens_one c first no_from given =
          let context : (o : Option Context) → after_end (clock h) t (request_of said t h) reply id o ≡ Some (opened id ask found (clock h)) = λ o. rw (asked, is, own, opens_one) refl in
          let f : Some (opened id ask found (clock h)) ≡ Some c = ap (λ o. option_or o (first_context said id h)) (sym (context None)) ∙ first in
          let same : c ≡ opened id ask found (clock h) = sym (cc) in
          let shown : pages said id (End t reply ∷ h) ≡ found.hits ∷ [] = rw (asked, own, is, (unshown cluster said id h lawful alone not_yet).0) refl in
          let gave : cond (is_of_context id t (request_of said t h)) (gave_all c.shards reply) true ≡ true = (both_given (all_given c.shards said id h) (cond (is_of_context id t (request_of said t h)) (gave_all c.shards reply) true) given).1 in
          let fine : gave_all c.shards (Search found) ≡ true = rw (asked, own, is) at gave in
          let b = opens t ask h found (clock h) (search_plain t (page_of said t h) (mark_of t h) ask h found (counted cluster corpus said t h) (subst (EndsPlainly cluster look t (page_of said t h) (mark_of t h) (counted cluster corpus said t h) (Some (asks.Search ask)) h) is plain)) c same no_from fine in
          let one : c.ask.body.size ≡ 1 * c.ask.body.size = omega arith in
          subst (λ l. FollowsBy (writes h c) c l (ended t reply h)) (sym shown)
          (subst (FollowsBy (writes h c) c (found.hits ∷ [])) (sym (context (context_at said id h)))
          (record {
            different = b.0;
            within = b.3;
            cut = ap (λ (l : List Hit). l ∷ []) b.1;
            stands = λ d e.
                let is_first : d ≡ c = sym (let g : Some c ≡ Some d = ap Some same ∙ e in cc) in
                record {
                  ask = ap (λ (x : Context). x.ask) is_first;
                  shards = ap (λ (x : Context). x.shards) is_first;
                  cursor = ap (λ (x : Context). x.after) is_first ∙ b.2 ∙ ap (λ n. last_or None (take n (listed_keys (writes h c) c))) one;
                };
          }))

      of_reply : ((found : SearchReply) × (reply ≡ Search found)) ⊎ ((shown_by reply ≡ []) × (cursor_in reply ≡ None) × ((now : ℕ) (t : TaskId) (ask : SearchAsk) (id : TaskId) (o : Option Context) → after_end now t (Some (asks.Search ask)) reply id o ≡ o))
          → EndLaw t reply h
      of_reply (inl (found, is)) = opening found is (opens_context ask) refl
      of_reply (inr (silent, cursor, leaves)) =
          let same : (o : Option Context) → after_end (clock h) t (request_of said t h) reply id o ≡ o = λ o. ap (λ q. after_end (clock h) t q reply id o) asked ∙ leaves (clock h) t ask id o in
          step_silent t reply h (ap (λ l. cond (is_of_context id t (request_of said t h)) l []) silent ∙ never (is_of_context id t (request_of said t h)) []) (same None)
          (λ w c n before. subst (IfStands (StandsAt w c n)) (sym (same (context_at said id h))) before) rest

  -- a page
  step_page : (t : TaskId) (ask : ScrollAsk) (reply : Reply) (h : List Event) → IsInUse said t ask h → request_of said t h ≡ Some (asks.Scroll ask) → same_task ask.id id ≡ true
      → EndsPlainly cluster look t (page_of said t h) (mark_of t h) (counted cluster corpus said t h) (Some (asks.Scroll ask)) h reply → Law h → EndLaw t reply h
  step_page t ask reply h used asked own plain rest = of_reply (shows_or_not reply)
    where
      none : after_end (clock h) t (request_of said t h) reply id None ≡ None
      none = ap (λ q. after_end (clock h) t q reply id None) asked ∙ no_context (same_task ask.id id) (given_back (cursor_in reply) (clock h))

      showing : (found : SearchReply) → reply ≡ Search found → EndLaw t reply h
      showing found is c first no_from given =
          let before : first_context said id h ≡ Some c = ap (λ o. option_or o (first_context said id h)) (sym none) ∙ first in
          let b = rest c before no_from (both_given _ _ given).0 in
          let shown : List (List Hit) = pages said id h in
          let there : context_at said id h ≡ Some used.context = sym (ap (λ i. context_at said i h) (is_one ask.id id own)) ∙ used.stands in
          let at = b.stands used.context there in
          let start_at : StandsAt (writes h c) c (rows c shown) used.start = record { ask = sym used.same.ask ∙ at.ask; shards = sym used.same.shards ∙ at.shards; cursor = sym used.same.cursor ∙ at.cursor } in
          let gave : cond (is_of_context id t (request_of said t h)) (gave_all c.shards reply) true ≡ true = (both_given (all_given c.shards said id h) (cond (is_of_context id t (request_of said t h)) (gave_all c.shards reply) true) given).1 in
          let fine : gave_all c.shards (Search found) ≡ true = rw (asked, own, is) at gave in
          let ends : EndsPlainly cluster look t (Some used.start) (mark_of t h) (counted cluster corpus said t h) (Some (asks.Scroll ask)) h (Search found) =
          subst (EndsPlainly cluster look t (Some used.start) (mark_of t h) (counted cluster corpus said t h) (Some (asks.Scroll ask)) h) is (subst (λ page. EndsPlainly cluster look t page (mark_of t h) (counted cluster corpus said t h) (Some (asks.Scroll ask)) h reply) used.page plain) in
          let next = pages_on t used.start c h found (rows c shown) (page_plain t used.start (mark_of t h) ask h found (counted cluster corpus said t h) ends) start_at b.different no_from fine in
          let grown : pages said id (End t reply ∷ h) ≡ shown ++ found.hits ∷ [] = rw (asked, own, is) refl in
          let moved : ended t reply h ≡ Some (given_back found.last (clock h) used.context) = rw (asked, own, is, there) refl in
          let size : ℕ = c.ask.body.size in
          let keys : List HitKey = listed_keys (writes h c) c in
          subst (λ l. FollowsBy (writes h c) c l (ended t reply h)) (sym grown)
          (subst (FollowsBy (writes h c) c (shown ++ found.hits ∷ [])) (sym moved)
          (record {
            different = b.different;
            within = b.within;
            cut = ap (λ (l : List Hit). shown ++ l ∷ []) next.0 ∙ cuts_push size (listed (writes h c) c) shown b.cut ∙ ap (λ (l : List Hit). cuts size (length (shown ++ l ∷ [])) (listed (writes h c) c)) (sym next.0);
            stands = λ d e.
                let is_moved : d ≡ given_back found.last (clock h) used.context = sym (cc) in
                record {
                  ask = ap (λ (x : Context). x.ask) is_moved ∙ at.ask;
                  shards = ap (λ (x : Context). x.shards) is_moved ∙ at.shards;
                  cursor =
                      ap (λ (x : Context). x.after) is_moved
                      ∙ ap (λ o. option_or o used.context.after) next.1
                      ∙ ap (option_or (last_or None (take size (drop (rows c shown) keys)))) at.cursor
                      ∙ last_next (rows c shown) size keys
                      ∙ ap (λ n. last_or None (take n keys)) (rows_next size shown found.hits);
                };
          }))

      of_reply : ((found : SearchReply) × (reply ≡ Search found)) ⊎ ((shown_by reply ≡ []) × (cursor_in reply ≡ None) × ((now : ℕ) (t : TaskId) (ask : SearchAsk) (id : TaskId) (o : Option Context) → after_end now t (Some (asks.Search ask)) reply id o ≡ o))
          → EndLaw t reply h
      of_reply (inl (found, is)) = showing found is
      of_reply (inr (silent, cursor, leaves)) =
          step_silent t reply h (ap (λ l. cond (is_of_context id t (request_of said t h)) l []) silent ∙ never (is_of_context id t (request_of said t h)) []) none
          (λ w c n before. subst (λ q. IfStands (StandsAt w c n) (after_end (clock h) t q reply id (context_at said id h))) (sym asked) (returned w c n (clock h) t ask reply id (context_at said id h) cursor before)) rest

  step_end : (t : TaskId) (reply : Reply) (h : List Event) → Lawful cluster h → OneAtATime said h → is_live t h ≡ true → is_new t h ≡ false → EndsPlainly cluster look t (page_of said t h) (mark_of t h) (counted cluster corpus said t h) (request_of said t h) h reply → Law h → EndLaw t reply h
  step_end t reply h lawful alone live passed plain rest = by_test (is_of_context id t (request_of said t h)) (λ own. of_request (request_of said t h) refl own) (λ elsewhere. step_else t reply h elsewhere rest)
    where
      ends : (q : Option Request) → request_of said t h ≡ q → EndsPlainly cluster look t (page_of said t h) (mark_of t h) (counted cluster corpus said t h) q h reply
      ends q e = subst (λ x. EndsPlainly cluster look t (page_of said t h) (mark_of t h) (counted cluster corpus said t h) x h reply) e plain

      of_request : (q : Option Request) → request_of said t h ≡ q → is_of_context id t q ≡ true → EndLaw t reply h
      of_request None e is = absurd (cc)
      of_request (Some (asks.Query ask)) e is = absurd (cc)
      of_request (Some (asks.Fetch ask)) e is = absurd (cc)
      of_request (Some (asks.Reindex ask)) e is = absurd (cc)
      of_request (Some (asks.Slice ask)) e is = absurd (cc)
      of_request (Some (asks.Bulk ask)) e is = absurd (cc)
      of_request (Some (asks.BulkShard ask)) e is = absurd (cc)
      of_request (Some (asks.Search ask)) e is = step_search t ask reply h lawful alone live e is (ends (Some (asks.Search ask)) e) rest
      of_request (Some (asks.Scroll ask)) e is = step_page t ask reply h (all_in_use cluster said h lawful alone t ask live passed e) e is (ends (Some (asks.Scroll ask)) e) rest

  pages_cut : (h : List Event) → Lawful cluster h → AnswersPlainly cluster corpus script h → OneAtATime said h → Law h
  pages_cut [] lawful plain alone c first no_from given = absurd (cc)
  pages_cut (Begin k ∷ h) lawful plain alone c first no_from given =
      let b = pages_cut h lawful.1 plain alone c first no_from given in
      record { different = b.different; within = b.within; cut = b.cut; stands = λ d e. b.stands d (begun_there (said.clears k h) id (context_at said id h) d e) }
  pages_cut (Root k t ∷ h) lawful plain alone c first no_from given =
      let b = pages_cut h lawful.1 plain alone.1 c first no_from given in
      record { different = b.different; within = b.within; cut = b.cut; stands = taken (writes h c) c (rows c (pages said id h)) (clock h) t (said.root k h) id (context_at said id h) b.stands }
  pages_cut (Tick ms ∷ h) lawful plain alone c first no_from given =
      let b = pages_cut h lawful.1 plain alone c first no_from given in
      record { different = b.different; within = b.within; cut = b.cut; stands = λ d e. b.stands d (unexpired_there (clock h + ms) (context_at said id h) d e) }
  pages_cut (End t reply ∷ h) lawful plain alone c first no_from given =
      gone_with t reply h (step_end t reply h lawful.1 alone lawful.0.goes_on.live lawful.0.goes_on.passed plain.0 (pages_cut h lawful.1 plain.1 alone)) c first no_from given
  pages_cut (Pass t ∷ h) lawful plain alone c first no_from given =
      let b = pages_cut h lawful.1 plain alone.1 c first no_from given in
      record { different = b.different; within = b.within; cut = b.cut; stands = taken (writes h c) c (rows c (pages said id h)) (clock h) t (request_of said t h) id (context_at said id h) b.stands }
  pages_cut (Write index shard outcome doc ∷ h) lawful plain alone c first no_from given =
      follows_on (writes h c) (writes (Write index shard outcome doc ∷ h) c) (writes_of-grow (look h) (line_of index (next_doc said h)) cluster.shards c.ask.index) c (pages said id h) (context_at said id h)
      (pages_cut h lawful.1 plain alone c first no_from given)
  pages_cut (Ask p k n r ∷ h) lawful plain alone c first no_from given = pages_cut h lawful.1 plain alone.1 c first no_from given
  pages_cut (_ ∷ h) lawful plain alone c first no_from given = pages_cut h lawful.1 plain alone c first no_from given

  -- where each page found its context free
  module _ (h : List Event) (alone : OneAtATime said h) (lawful : Lawful cluster h) (plain : AnswersPlainly cluster corpus script h)
      (c : Context) (first : first_context said id h ≡ Some c) (given : all_given c.shards said id h ≡ true) where
    pub pages_of_run : pages said id h ≡ cuts c.ask.body.size (length (pages said id h)) (listed (writes h c) c)
    pages_of_run = (pages_cut h lawful plain alone c first (context_shown script id h alone c first).from given).cut

    pub all_of_run : list_any shows_none (pages said id h) ≡ true → joined (pages said id h) ≡ listed (writes h c) c
    all_of_run none =
        ap joined pages_of_run
        ∙ all_cut c.ask.body.size (length (pages said id h)) (listed (writes h c) c) (context_shown script id h alone c first).size (ap (list_any shows_none) (sym pages_of_run) ∙ none)
