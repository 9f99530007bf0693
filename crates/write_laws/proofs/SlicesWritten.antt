-- A slice that has ended without a failure has written each document of the pages that it was shown, once.
use Rattle.std.proofs.Common.{◌≡◌, ◌+◌, ◌-◌, ◌%◌, ◌≤◌, ◌<◌, ◌⊎◌, inl, inr, ℕ, suc, Bool, true, false, cond, not, ◌&&◌, List, [], ◌∷◌, length, map, Option, Some, None, refl, sym, ap, subst, ◌∙◌, arith}
use Rattle.std.specs.List.{list_any, sum_by}
use Rattle.std.specs.Option.{option_map_or}
use Rattle.std.specs.Prelude.{◌==◌, count_by, option_and_then}
use Rattle.std.proofs.lemmas.Bool.{cases_lt}
use Rattle.std.proofs.lemmas.Bool.Decides.{nat_tests}
use Rattle.task_ids.specs.declared.cluster.Cluster.{Cluster}
use Rattle.task_ids.specs.declared.corpus.Corpus.{Corpus}
use Rattle.task_ids.specs.declared.doc.Doc.{Doc}
use Rattle.task_ids.specs.declared.task_id.TaskId.{TaskId}
use Rattle.task_events.specs.declared.event.Event.{Event}
use Rattle.task_events.specs.declared.event.Event.TheVariants.{Write, End}
use Rattle.task_events.specs.declared.event.Outcome.{Outcome}
use Rattle.task_events.specs.declared.reply.Hit.{Hit}
use Rattle.task_events.specs.declared.reply.Reply.{Reply}
use Rattle.task_events.specs.declared.reply.Reply.TheVariants.{Search, Wrote}
use Rattle.task_events.specs.declared.request.BulkAsk.{BulkAsk}
use Rattle.task_events.specs.declared.request.ReindexAsk.{ReindexAsk}
use Rattle.task_events.specs.declared.request.Request.{Request}
use Rattle.task_events.specs.declared.request.Request.TheVariants as asks
use Rattle.task_events.specs.Asks.{answer_of, answer_or, is_unanswered, last_ask, rejection_of, request_of_ask, unanswered}
use Rattle.task_events.specs.Counting.{answers_in, failures_of, is_batch}
use Rattle.task_events.specs.Kind.{Progress}
use Rattle.task_events.specs.Kinds.{kind_of}
use Rattle.task_events.specs.Lawful.{Lawful}
use Rattle.task_events.specs.Requests.{Scripted, request_of}
use Rattle.task_events.specs.SliceTask.{answer_at, bulk_of, docs_on, slice_counts, slice_step}
use Rattle.task_events.specs.Steps.{asked_by}
use Rattle.task_events.specs.Tasks.{child_of, reply_of}
use Rattle.task_events.specs.Written.{next_doc}
use Rattle.task_laws.proofs.Pending.{is_pending}
use Rattle.write_laws.specs.Copied.{HasWritten, docs_shown}
use Rattle.write_laws.specs.KindsAsked.{KeepsToKinds, is_part}
use Rattle.write_laws.specs.TreeWrites.{is_to_write, tree_is_writing, tree_number, tree_writes}
use Rattle.write_laws.proofs.AnswersCount.{of_all}
use Rattle.write_laws.proofs.AskedForAll.{only_children}
use Rattle.write_laws.proofs.AskedInOrder.{answer_come, asked_at, asked_in_order, asked_stays}
use Rattle.write_laws.proofs.BulksWritten.{bulks_written, count_all}
use Rattle.write_laws.proofs.ByKind.{tree_none}
use Rattle.write_laws.proofs.ChildAsks.{asks_made, child_request, ends_none}
use Rattle.write_laws.proofs.EndedWritten.{ended_says, none_at_end, none_written}
use Rattle.write_laws.proofs.GoodAnswers.{good_alive, none_failed}
use Rattle.write_laws.proofs.JoinedDocs.{count_joined}
use Rattle.write_laws.proofs.SliceAsks.{AskSaid, EndsAfter, asks_said, is_reading, newest_answer}
use Rattle.write_laws.proofs.SliceEnds.{none_failing, slice_ended}
use Rattle.write_laws.proofs.StepCases.{ends_by_plan}
use Rattle.write_laws.proofs.Sums.{by_pairs, sum_to}
use Rattle.write_laws.proofs.Trees.{child_number, children_number}
use Rattle.write_laws.proofs.WholeTurns.{AllPlanned}

-- ---- replies

-- the last page has no documents
last_page : (reply : Reply) → is_batch reply ≡ false → failures_of reply ≡ 0 → docs_on reply ≡ []
last_page (Search page) none good = by_hits page.hits (length page.failed) good none
  where
    by_hits : (hits : List Hit) (failed : ℕ) → failed ≡ 0 → ((failed == 0) && not (length hits == 0)) ≡ false → map (λ hit. hit.doc) hits ≡ []
    by_hits [] failed good none = refl
    by_hits (hit ∷ hits) failed good none = absurd (grind (arith, nat_tests))
last_page _ none good = refl

reading_quiet : (child : Request) → is_reading child ≡ true → is_to_write child ≡ false
reading_quiet (asks.Search ask) e = refl
reading_quiet (asks.Scroll ask) e = refl
reading_quiet (asks.Query ask) e = absurd (cc)
reading_quiet (asks.Fetch ask) e = absurd (cc)
reading_quiet (asks.Reindex ask) e = absurd (cc)
reading_quiet (asks.Slice ask) e = absurd (cc)
reading_quiet (asks.Bulk ask) e = absurd (cc)
reading_quiet (asks.BulkShard ask) e = absurd (cc)

-- a tree writes no more of one sort than it writes
tree_least : (passes : Outcome → List Event → Bool) (t : TaskId) (h : List Event) → tree_number passes t h ≤ tree_writes (λ outcome. true) t h
tree_least passes t [] = omega arith
tree_least passes t (Write index shard outcome id ∷ h) = by_write (tree_is_writing t h) (passes outcome h) (tree_number passes t h) (tree_writes (λ outcome. true) t h) (tree_least passes t h)
  where
    by_write : (w b : Bool) (n m : ℕ) → n ≤ m → cond (w && b) (1 + n) n ≤ cond (w && true) (1 + m) m
    by_write true true n m less = omega (arith, less)
    by_write true false n m less = omega (arith, less)
    by_write false b n m less = less
tree_least passes t (_ ∷ h) = tree_least passes t h

-- a bulk shows no page
pub bulk_shows_none : (cluster : Cluster) (corpus : Corpus) (said : Scripted) (h : List Event) → Lawful cluster h → KeepsToKinds said h → AllPlanned cluster corpus said h → (t : TaskId) (reply : Reply) (ask : BulkAsk)
    → failures_of reply ≡ 0 → reply_of t h ≡ Some reply → request_of said t h ≡ Some (asks.Bulk ask) → docs_on reply ≡ []
bulk_shows_none cluster corpus said h l keeps p t reply ask good e asked =
    ended_says cluster corpus said (asks.Bulk ask) (λ last. (last ≡ reply) × (failures_of last ≡ 0)) (λ u c fits. absurd (omega (arith, fits.1))) (λ t h. docs_on reply ≡ []) (λ e h t l ended says. says) (λ t last h says. says)
    (λ past u last lawful kept planned made fits.
    let ends = ends_none _ _ _ last (ends_by_plan cluster corpus said past (End u last) planned.0.0 u last (asks.Bulk ask) refl (good_alive last fits.1) made) in
    ap docs_on (sym (ends.2 ∙ fits.0))) h l keeps p t reply (refl, good) e asked

module _ (cluster : Cluster) (corpus : Corpus) (said : Scripted) (h : List Event) (l : Lawful cluster h) (keeps : KeepsToKinds said h) (planned : AllPlanned cluster corpus said h) (t : TaskId) (request : Request) (ask : ReindexAsk) (slice : ℕ)
    (does : (made : Corpus) (q : Progress) (now : ℕ) → (kind_of request).step cluster made t q now ≡ slice_step t ask slice cluster.shards q.asked q.came now) (asked : request_of said t h ≡ Some request) (apart : is_part request ≡ false)
    (answered : unanswered t h ≡ []) (good : sum_by failures_of (answers_in (asked_by t h)) ≡ 0) (ends : EndsAfter (length (asked_by t h)) (answer_at (asked_by t h) (length (asked_by t h) - 1))) where
  none_open : (k : ℕ) → is_unanswered t k h ≡ false
  none_open k = is_pending t k h ∙ ap (list_any (λ a. a.ask == k)) answered

  come : (k : ℕ) → answer_come t h k ≡ answer_of t k h
  come k = rw (none_open k) refl

  pub unfailed : (k : ℕ) → 1 ≤ k → k ≤ last_ask t h → option_map_or failures_of (answer_of t k h) 0 ≡ 0
  unfailed k low high = ap (λ o. option_map_or failures_of o 0) (sym (come k)) ∙ none_failed cluster t h l good k low high

  for_what : (k : ℕ) → 1 ≤ k → k ≤ last_ask t h → AskSaid cluster corpus said t request ask slice does h k
  for_what k low high = asks_said cluster corpus said t request ask slice does h l planned asked k low high

  -- each ask has an answer: the next one waited for it, and so did the end
  has_answer : (k : ℕ) → 1 ≤ k → k ≤ last_ask t h → (reply : Reply) × (answer_of t k h ≡ Some reply)
  has_answer k low high = by_number (cases_lt k (last_ask t h))
    where
      by_number : (k < last_ask t h) ⊎ (last_ask t h ≤ k) → (reply : Reply) × (answer_of t k h ≡ Some reply)
      by_number (inl more) = let b = (for_what (suc k) (omega arith) (omega (arith, more))).answered (omega (arith, low)) in (b.0, ap (λ m. answer_of t m h) (let e : k ≡ suc k - 1 = omega arith in e) ∙ b.1)
      by_number (inr last) = (ends.reply, ap (λ m. answer_of t m h) (let e : k ≡ last_ask t h = omega (arith, high, last) in e) ∙ newest_answer cluster t h l ends.reply ends.answered)

  module _ (passes : Outcome → List Event → Bool) (test : Doc → Bool)
      (each : (c : TaskId) (reply : Reply) (bulk : BulkAsk) → failures_of reply ≡ 0 → reply_of c h ≡ Some reply → request_of said c h ≡ Some (asks.Bulk bulk) → tree_number passes c h ≡ count_by test bulk.docs) where
    abbrev shown : ℕ → ℕ
    shown k = option_map_or (λ reply. count_by test (docs_on reply)) (answer_come t h k) 0

    shows : (k : ℕ) (reply : Reply) → answer_of t k h ≡ Some reply → shown k ≡ count_by test (docs_on reply)
    shows k reply e = ap (λ o. option_map_or (λ r. count_by test (docs_on r)) o 0) (come k ∙ e)

    -- nothing is written for a page
    page_none : (k : ℕ) → 1 ≤ k → k ≤ last_ask t h → k % 2 ≡ 1 → child_number passes t h k ≡ 0
    page_none k low high odd = by_child (child_of t k h) refl
      where
        by_child : (o : Option TaskId) → child_of t k h ≡ o → option_map_or (λ c. tree_number passes c h) o 0 ≡ 0
        by_child None e = refl
        by_child (Some c) e =
            let was = (for_what k low high).page odd in
            let made : request_of said c h ≡ Some was.0 = child_request cluster corpus said h l t k c e ∙ was.1 in
            let none = tree_none cluster said (λ outcome. true) h l keeps c (rw made (reading_quiet was.0 was.2)) in
            let least = tree_least passes c h in
            omega (arith, none, least)

    -- a bulk has written the documents of the page before it, and shows none itself
    bulk_page : (k : ℕ) → 1 ≤ k → k ≤ last_ask t h → k % 2 ≡ 0 → (child_number passes t h k ≡ shown (k - 1)) × (shown k ≡ 0)
    bulk_page k low high even = by_rejection (rejection_of t k h) refl (has_answer k low high) (unfailed k low high)
      where
        was : (reply : Reply) × (answer_of t (k - 1) h ≡ Some reply) × (request_of_ask t k h ≡ Some (bulk_of ask (docs_on reply)))
        was = (for_what k low high).bulk even

        by_reply : (c : TaskId) → child_of t k h ≡ Some c → (reply : Reply) → reply_of c h ≡ Some reply → failures_of reply ≡ 0 → answer_of t k h ≡ Some reply → (tree_number passes c h ≡ shown (k - 1)) × (shown k ≡ 0)
        by_reply c put reply replied unfailing told =
            let made : request_of said c h ≡ Some (bulk_of ask (docs_on was.0)) = child_request cluster corpus said h l t k c put ∙ was.2 in (
              each c reply (record { dest = ask.dest; docs = docs_on was.0 }) unfailing replied made ∙ sym (shows (k - 1) was.0 was.1),
              shows k reply told ∙ ap (count_by test) (bulk_shows_none cluster corpus said h l keeps planned c reply (record { dest = ask.dest; docs = docs_on was.0 }) unfailing replied made),
            )

        by_child : (o : Option TaskId) → child_of t k h ≡ o → (reply : Reply) → option_and_then (λ c. reply_of c h) o ≡ Some reply → option_map_or failures_of (option_and_then (λ c. reply_of c h) o) 0 ≡ 0 → answer_of t k h ≡ Some reply
            → (option_map_or (λ c. tree_number passes c h) o 0 ≡ shown (k - 1)) × (shown k ≡ 0)
        by_child None put reply replied unfailing told = absurd (cc)
        by_child (Some c) put reply replied unfailing told = by_reply c put reply replied (sym (ap (λ o. option_map_or failures_of o 0) replied) ∙ unfailing) told

        by_rejection : (n : Option ℕ) → rejection_of t k h ≡ n → ((reply : Reply) × (answer_of t k h ≡ Some reply)) → option_map_or failures_of (answer_or n (option_and_then (λ c. reply_of c h) (child_of t k h))) 0 ≡ 0
            → (child_number passes t h k ≡ shown (k - 1)) × (shown k ≡ 0)
        by_rejection None e has unfailing = by_child (child_of t k h) refl has.0 (sym (ap (λ n. answer_or n (option_and_then (λ c. reply_of c h) (child_of t k h))) e) ∙ has.1) unfailing has.1
        by_rejection (Some n) e has unfailing = absurd (omega (arith, unfailing))

    last_none : cond (last_ask t h % 2 == 1) (shown (last_ask t h)) 0 ≡ 0
    last_none = by_parity (last_ask t h % 2 == 1) refl
      where
        by_parity : (b : Bool) → (last_ask t h % 2 == 1) ≡ b → cond b (shown (last_ask t h)) 0 ≡ 0
        by_parity false e = refl
        by_parity true e =
            let odd : last_ask t h % 2 ≡ 1 = grind (arith, nat_tests) in
            let made = asks_made cluster t h l in
            let told = newest_answer cluster t h l ends.reply ends.answered in
            let good_one = unfailed (last_ask t h) (omega (arith, odd)) (omega arith) in
            shows (last_ask t h) ends.reply told ∙ ap (count_by test) (last_page ends.reply (ends.no_batch (omega (arith, odd, made))) (sym (ap (λ o. option_map_or failures_of o 0) told) ∙ good_one))

    pub slice_number : tree_number passes t h ≡ count_by test (docs_shown (asked_by t h))
    slice_number =
        only_children cluster said passes h l keeps t request asked apart ∙ alone ∙ sym (of_all (λ reply. count_by test (docs_on reply)) (λ a. a.answer) (asked_at t h) (last_ask t h))
        ∙ ap (λ xs. sum_by (λ reply. count_by test (docs_on reply)) (answers_in xs)) (sym (asked_in_order cluster t h l)) ∙ count_joined docs_on test (answers_in (asked_by t h))
      where
        alone : children_number passes t h ≡ sum_to shown (last_ask t h)
        alone = let pairs = by_pairs (child_number passes t h) shown (last_ask t h) page_none bulk_page in omega (arith, pairs, last_none)

-- ---- by its end

module _ (cluster : Cluster) (corpus : Corpus) (said : Scripted) (request : Request) (ask : ReindexAsk) (slice : ℕ)
    (does : (t : TaskId) (made : Corpus) (q : Progress) (now : ℕ) → (kind_of request).step cluster made t q now ≡ slice_step t ask slice cluster.shards q.asked q.came now) (apart : is_part request ≡ false) where
  slice_end : (h : List Event) (t : TaskId) (last : Reply) → Lawful cluster (End t last ∷ h) → KeepsToKinds said h → AllPlanned cluster corpus said (End t last ∷ h) → request_of said t h ≡ Some request → failures_of last ≡ 0 → HasWritten said t h (docs_shown (asked_by t h))
  slice_end h t last l keeps p asked fits = record {
    each = λ test.
        slice_number cluster corpus said h l.1 keeps p.1 t request ask slice (does t) asked apart l.0.answered good ends.0 (λ outcome past. option_map_or test (next_doc said past) false) test (λ c reply bulk unfailing e made. (written c reply bulk unfailing e made).each test);
    no_more = slice_number cluster corpus said h l.1 keeps p.1 t request ask slice (does t) asked apart l.0.answered good ends.0 (λ outcome past. true) (λ doc. true)
        (λ c reply bulk unfailing e made. (written c reply bulk unfailing e made).no_more ∙ sym (count_all bulk.docs)) ∙ count_all (docs_shown (asked_by t h));
  }
    where
      written : (c : TaskId) (reply : Reply) (bulk : BulkAsk) → failures_of reply ≡ 0 → reply_of c h ≡ Some reply → request_of said c h ≡ Some (asks.Bulk bulk) → HasWritten said c h bulk.docs
      written c reply bulk unfailing e made = bulks_written cluster corpus said h l.1 keeps p.1 c reply bulk unfailing e made

      ends : EndsAfter (length (asked_by t h)) (answer_at (asked_by t h) (length (asked_by t h) - 1)) × (Wrote (slice_counts (asked_by t h)) ≡ last)
      ends = slice_ended cluster corpus said t request ask slice (does t) h last p asked fits

      good : sum_by failures_of (answers_in (asked_by t h)) ≡ 0
      good = none_failing cluster corpus said t request ask slice (does t) h last p asked fits

  pub slices_written : (h : List Event) → Lawful cluster h → KeepsToKinds said h → AllPlanned cluster corpus said h → (t : TaskId) (reply : Reply) → failures_of reply ≡ 0 → reply_of t h ≡ Some reply → request_of said t h ≡ Some request → HasWritten said t h (docs_shown (asked_by t h))
  slices_written =
      ended_says cluster corpus said request (λ last. failures_of last ≡ 0) (λ u c fits. absurd (omega (arith, fits))) (λ t h. HasWritten said t h (docs_shown (asked_by t h)))
      (λ e h t l ended w. subst (λ xs. HasWritten said t (e ∷ h) (docs_shown xs)) (sym (asked_stays cluster e h t l ended)) (none_written cluster corpus said e h t (docs_shown (asked_by t h)) l ended w))
      (λ t last h w. none_at_end cluster corpus said t last h (docs_shown (asked_by t h)) w) slice_end

-- a reindex with one slice does the work of it
pub one_slice : (cluster : Cluster) (t : TaskId) (ask : ReindexAsk) (q : Progress) (made : Corpus) (now : ℕ) → ask.slices ≡ 1 → (kind_of (asks.Reindex ask)).step cluster made t q now ≡ slice_step t ask 0 cluster.shards q.asked q.came now
one_slice cluster t ask q made now one = let is : (ask.slices == 1) ≡ true = grind (arith, nat_tests) in rw is refl
