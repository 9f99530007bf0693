-- A slice that has ended without a failure has read on up to a page that shows nothing.
use Rattle.std.proofs.Common.{◌≡◌, ◌-◌, ◌%◌, ◌≤◌, ℕ, Bool, true, false, cond, not, ◌&&◌, List, ◌∷◌, length, Option, Some, None, refl, sym, ap, ◌∙◌, arith}
use Rattle.std.specs.List.{sum_by}
use Rattle.std.specs.Option.{option_map_or}
use Rattle.std.specs.Prelude.{◌==◌, option_and_then}
use Rattle.std.proofs.lemmas.Bool.Decides.{nat_tests}
use Rattle.task_ids.specs.declared.cluster.Cluster.{Cluster}
use Rattle.task_ids.specs.declared.corpus.Corpus.{Corpus}
use Rattle.task_ids.specs.declared.task_id.TaskId.{TaskId}
use Rattle.task_events.specs.declared.context.Context.{Context}
use Rattle.task_events.specs.declared.event.Event.{Event}
use Rattle.task_events.specs.declared.event.Event.TheVariants.{End}
use Rattle.task_events.specs.declared.reply.Counts.{Counts}
use Rattle.task_events.specs.declared.reply.FailedShard.{FailedShard}
use Rattle.task_events.specs.declared.reply.Reply.{Reply}
use Rattle.task_events.specs.declared.reply.Reply.TheVariants.{AllFailed, Cancelled, Hits, Rejected, Search, Top, Wrote}
use Rattle.task_events.specs.declared.reply.SearchReply.{SearchReply}
use Rattle.task_events.specs.declared.request.BulkAsk.{BulkAsk}
use Rattle.task_events.specs.declared.request.ReindexAsk.{ReindexAsk}
use Rattle.task_events.specs.declared.request.Request.{Request}
use Rattle.task_events.specs.declared.request.Request.TheVariants as asks
use Rattle.task_events.specs.declared.step.Asked.{Asked}
use Rattle.task_events.specs.declared.step.Do.TheVariants.{Finish}
use Rattle.task_events.specs.Asks.{answer_of, answer_or, last_ask, rejection_of}
use Rattle.task_events.specs.Contexts.{page_of}
use Rattle.task_events.specs.Counting.{answers_in, failures_of, is_batch}
use Rattle.task_events.specs.Kind.{Progress}
use Rattle.task_events.specs.Kinds.{kind_of}
use Rattle.task_events.specs.Lawful.{Lawful}
use Rattle.task_events.specs.Readings.{Reading, page_reading, search_reading}
use Rattle.task_events.specs.Requests.{Scripted, request_of}
use Rattle.task_events.specs.ScrollTask.{scroll_step}
use Rattle.task_events.specs.Searches.{failed_in, search_reply}
use Rattle.task_events.specs.SearchTask.{search_step}
use Rattle.task_events.specs.SliceTask.{answer_at, is_clean, docs_on, slice_counts, slice_step}
use Rattle.task_events.specs.Steps.{asked_by, planned_step}
use Rattle.task_events.specs.Tasks.{child_of, reply_of}
use Rattle.write_laws.specs.Copied.{has_read_all, is_end}
use Rattle.write_laws.specs.KindsAsked.{KeepsToKinds, is_part}
use Rattle.write_laws.proofs.AskedInOrder.{asked_stays}
use Rattle.write_laws.proofs.ChildAsks.{asks_made, child_request, ends_none}
use Rattle.write_laws.proofs.EndedWritten.{ended_says}
use Rattle.write_laws.proofs.GoodAnswers.{good_alive}
use Rattle.write_laws.proofs.SliceAsks.{AskSaid, EndsAfter, asks_said, is_reading, newest_answer}
use Rattle.write_laws.proofs.SliceEnds.{none_failing, slice_ended}
use Rattle.write_laws.proofs.SlicesWritten.{unfailed}
use Rattle.write_laws.proofs.StepCases.{ends_by_plan}
use Rattle.write_laws.proofs.WholeTurns.{AllPlanned}

abbrev pub is_page : Reply → Bool
is_page (Search page) = true
is_page _ = false

search_shows : (r : Reading) (asked : List Asked) → failures_of (search_reply r asked) ≡ 0 → is_page (search_reply r asked) ≡ true
search_shows r asked good = by_failed (length (failed_in r asked) == length r.shards) _ _ good
  where
    by_failed : (b : Bool) (failed : List FailedShard) (page : SearchReply) → failures_of (cond b (AllFailed failed) (Search page)) ≡ 0 → is_page (cond b (AllFailed failed) (Search page)) ≡ true
    by_failed true failed page good = absurd (omega (arith, good))
    by_failed false failed page good = refl

search_ends : (r : Reading) (asked : List Asked) (last : Reply) → search_step r asked ≡ Finish last → failures_of last ≡ 0 → is_page last ≡ true
search_ends r asked last e good =
    let ends = ends_none _ _ _ last e in
    ap is_page (sym ends.2) ∙ search_shows r asked (ap failures_of ends.2 ∙ good)

page_ends : (page : Option Context) (asked : List Asked) (last : Reply) → scroll_step page asked ≡ Finish last → failures_of last ≡ 0 → is_page last ≡ true
page_ends None asked last e good = absurd (cc)
page_ends (Some context) asked last e good = search_ends (page_reading context) asked last e good

module _ (cluster : Cluster) (corpus : Corpus) (said : Scripted) where
  reading_ends : (request : Request) → is_reading request ≡ true → (past : List Event) (u : TaskId) (last : Reply) → planned_step cluster corpus said u request past ≡ Finish last → failures_of last ≡ 0 → is_page last ≡ true
  reading_ends (asks.Search ask) reads past u last e good = search_ends (search_reading u ask cluster.shards) (asked_by u past) last e good
  reading_ends (asks.Scroll ask) reads past u last e good = page_ends (page_of said u past) (asked_by u past) last e good
  reading_ends (asks.Query ask) reads past u last e good = absurd (cc)
  reading_ends (asks.Fetch ask) reads past u last e good = absurd (cc)
  reading_ends (asks.Reindex ask) reads past u last e good = absurd (cc)
  reading_ends (asks.Slice ask) reads past u last e good = absurd (cc)
  reading_ends (asks.Bulk ask) reads past u last e good = absurd (cc)
  reading_ends (asks.BulkShard ask) reads past u last e good = absurd (cc)

  module _ (h : List Event) (l : Lawful cluster h) (keeps : KeepsToKinds said h) (planned : AllPlanned cluster corpus said h) where
    -- what was asked for a page, and did not fail, has shown one
    pub reading_shows : (t : TaskId) (reply : Reply) (request : Request) → is_reading request ≡ true → failures_of reply ≡ 0 → reply_of t h ≡ Some reply → request_of said t h ≡ Some request → is_page reply ≡ true
    reading_shows t reply request reads good e asked =
        ended_says cluster corpus said request (λ last. (last ≡ reply) × (failures_of last ≡ 0)) (λ u c fits. absurd (omega (arith, fits.1))) (λ t h. is_page reply ≡ true) (λ e h t l ended says. says) (λ t last h says. says)
        (λ past u last lawful kept steps made fits.
        ap is_page (sym fits.0) ∙ reading_ends request reads past u last (ends_by_plan cluster corpus said past (End u last) steps.0.0 u last request refl (good_alive last fits.1) made) fits.1) h l keeps planned t reply (refl, good) e asked

    -- a bulk that did not fail is clean
    pub bulk_clean : (t : TaskId) (reply : Reply) (ask : BulkAsk) → failures_of reply ≡ 0 → reply_of t h ≡ Some reply → request_of said t h ≡ Some (asks.Bulk ask) → is_clean reply ≡ true
    bulk_clean t reply ask good e asked =
        ended_says cluster corpus said (asks.Bulk ask) (λ last. (last ≡ reply) × (failures_of last ≡ 0)) (λ u c fits. absurd (omega (arith, fits.1))) (λ t h. is_clean reply ≡ true) (λ e h t l ended says. says) (λ t last h says. says)
        (λ past u last lawful kept steps made fits.
        let ends = ends_none _ _ _ last (ends_by_plan cluster corpus said past (End u last) steps.0.0 u last (asks.Bulk ask) refl (good_alive last fits.1) made) in
        clean_of reply _ (ends.2 ∙ fits.0) (ap failures_of (ends.2) ∙ fits.1)) h l keeps planned t reply (refl, good) e asked
      where
        clean_of : (reply : Reply) (counts : Counts) → Wrote counts ≡ reply → counts.failures ≡ 0 → is_clean reply ≡ true
        clean_of reply counts e none = ap is_clean (sym e) ∙ (let b : (counts.failures == 0) ≡ true = grind (arith, nat_tests) in b)

end_of : (reply : Reply) → is_page reply ≡ true → failures_of reply ≡ 0 → is_batch reply ≡ false → is_end reply ≡ true
end_of (Search page) shows good none = by_lengths (length page.failed) (length page.hits) good none
  where
    by_lengths : (failed hits : ℕ) → failed ≡ 0 → ((failed == 0) && not (hits == 0)) ≡ false → ((failed == 0) && (hits == 0)) ≡ true
    by_lengths failed hits good none = grind (arith, nat_tests)
end_of (Top top) shows good none = absurd (cc)
end_of (Hits hits) shows good none = absurd (cc)
end_of (AllFailed failed) shows good none = absurd (cc)
end_of (Wrote counts) shows good none = absurd (cc)
end_of (Cancelled t c counts) shows good none = absurd (cc)
end_of (Rejected n) shows good none = absurd (cc)

module _ (cluster : Cluster) (corpus : Corpus) (said : Scripted) (request : Request) (ask : ReindexAsk) (slice : ℕ)
    (does : (t : TaskId) (made : Corpus) (q : Progress) (now : ℕ) → (kind_of request).step cluster made t q now ≡ slice_step t ask slice cluster.shards q.asked q.came now) (apart : is_part request ≡ false) where
  all_read : (h : List Event) (t : TaskId) (last : Reply) → Lawful cluster (End t last ∷ h) → KeepsToKinds said h → AllPlanned cluster corpus said (End t last ∷ h) → request_of said t h ≡ Some request → failures_of last ≡ 0 → has_read_all (asked_by t h) ≡ true
  all_read h t last l keeps p asked fits = ap (λ o. option_map_or is_end o false) ends.0.answered ∙ by_rejection (rejection_of t (last_ask t h) h) refl told good_one
    where
      ends : EndsAfter (length (asked_by t h)) (answer_at (asked_by t h) (length (asked_by t h) - 1)) × (Wrote (slice_counts (asked_by t h)) ≡ last)
      ends = slice_ended cluster corpus said t request ask slice (does t) h last p asked fits

      good : sum_by failures_of (answers_in (asked_by t h)) ≡ 0
      good = none_failing cluster corpus said t request ask slice (does t) h last p asked fits

      made : length (asked_by t h) ≡ last_ask t h
      made = asks_made cluster t h l.1

      some : 1 ≤ last_ask t h
      some = let one = ends.0.some in omega (arith, one, made)

      told : answer_of t (last_ask t h) h ≡ Some ends.0.reply
      told = newest_answer cluster t h l.1 ends.0.reply ends.0.answered

      good_one : failures_of ends.0.reply ≡ 0
      good_one = sym (ap (λ o. option_map_or failures_of o 0) told) ∙ unfailed cluster corpus said h l.1 keeps p.1 t request ask slice (does t) asked apart l.0.answered good ends.0 (last_ask t h) some (omega arith)

      for_what : AskSaid cluster corpus said t request ask slice (does t) h (last_ask t h)
      for_what = asks_said cluster corpus said t request ask slice (does t) h l.1 p.1 asked (last_ask t h) some (omega arith)

      by_reply : (c : TaskId) → child_of t (last_ask t h) h ≡ Some c → reply_of c h ≡ Some ends.0.reply → is_end ends.0.reply ≡ true
      by_reply c put replied = by_parity (last_ask t h % 2 == 1) refl
        where
          by_parity : (b : Bool) → (last_ask t h % 2 == 1) ≡ b → is_end ends.0.reply ≡ true
          by_parity true e =
              let odd : last_ask t h % 2 ≡ 1 = grind (arith, nat_tests) in
              let was = for_what.page odd in
              let shows = reading_shows cluster corpus said h l.1 keeps p.1 c ends.0.reply was.0 was.2 good_one replied (child_request cluster corpus said h l.1 t (last_ask t h) c put ∙ was.1) in
              end_of ends.0.reply shows good_one (ends.0.no_batch (omega (arith, odd, made)))
          by_parity false e =
              let even : last_ask t h % 2 ≡ 0 = grind (arith, nat_tests) in
              let was = for_what.bulk even in
              let clean = bulk_clean cluster corpus said h l.1 keeps p.1 c ends.0.reply (record { dest = ask.dest; docs = docs_on was.0 }) good_one replied (child_request cluster corpus said h l.1 t (last_ask t h) c put ∙ was.2) in
              let unclean = ends.0.unclean (omega (arith, even, made)) in
              absurd (let no : true ≡ false = sym clean ∙ unclean in cc)

      by_child : (o : Option TaskId) → child_of t (last_ask t h) h ≡ o → option_and_then (λ c. reply_of c h) o ≡ Some ends.0.reply → is_end ends.0.reply ≡ true
      by_child None put replied = absurd (cc)
      by_child (Some c) put replied = by_reply c put replied

      by_rejection : (n : Option ℕ) → rejection_of t (last_ask t h) h ≡ n → answer_of t (last_ask t h) h ≡ Some ends.0.reply → failures_of ends.0.reply ≡ 0 → is_end ends.0.reply ≡ true
      by_rejection None e come none = by_child (child_of t (last_ask t h) h) refl (sym (ap (λ n. answer_or n (option_and_then (λ c. reply_of c h) (child_of t (last_ask t h) h))) e) ∙ come)
      by_rejection (Some n) e come none = absurd
          (let is : Some (Rejected n) ≡ Some ends.0.reply = sym (ap (λ n. answer_or n (option_and_then (λ c. reply_of c h) (child_of t (last_ask t h) h))) e) ∙ come in
          let same : Rejected n ≡ ends.0.reply = cc in
          let one : 1 ≡ 0 = ap failures_of same ∙ none in
          omega (arith, one))

  pub slices_read : (h : List Event) → Lawful cluster h → KeepsToKinds said h → AllPlanned cluster corpus said h → (t : TaskId) (reply : Reply) → failures_of reply ≡ 0 → reply_of t h ≡ Some reply → request_of said t h ≡ Some request → has_read_all (asked_by t h) ≡ true
  slices_read =
      ended_says cluster corpus said request (λ last. failures_of last ≡ 0) (λ u c fits. absurd (omega (arith, fits))) (λ t h. has_read_all (asked_by t h) ≡ true)
      (λ e h t l ended read. ap has_read_all (asked_stays cluster e h t l ended) ∙ read) (λ t last h read. read) all_read
