-- A slice asks for a later page once the moment has come that is due after its newest bulk.
use Rattle.write_laws.proofs.AnswersInOrder.{answers_rise, last_answered}
use Rattle.task_events.specs.Written.{corpus_at}
use Rattle.task_events.specs.Lawful.{Lawful}
use Rattle.task_events.specs.Kinds.{kind_of}
use Rattle.task_events.specs.Kind.{Progress}
use Rattle.task_events.specs.Asks.{last_ask}
use Rattle.throttle.specs.Waits.{time_of, wait_at}
use Rattle.std.proofs.Common.{◌≡◌, ◌-◌, ◌%◌, ◌≤◌, ℕ, Bool, true, false, cond, List, [], ◌∷◌, length, Option, Some, None, refl, arith, ◌+◌, zero, suc, ap, sym, subst, ◌∙◌}
use Rattle.std.specs.Prelude.{◌==◌, IfSome, nat_le, nat_lt, option_and_then, option_map, get_or}
use Rattle.std.proofs.lemmas.Bool.Decides.{nat_tests}
use Rattle.task_ids.specs.declared.cluster.Cluster.{Cluster}
use Rattle.task_ids.specs.declared.corpus.Corpus.{Corpus}
use Rattle.task_ids.specs.declared.task_id.TaskId.{TaskId}
use Rattle.task_events.specs.declared.event.Event.{Event}
use Rattle.task_events.specs.declared.event.Event.TheVariants.{Ask}
use Rattle.task_events.specs.declared.reply.Reply.{Reply}
use Rattle.task_events.specs.declared.reply.Reply.TheVariants.{Wrote}
use Rattle.task_events.specs.declared.request.ReindexAsk.{ReindexAsk}
use Rattle.task_events.specs.declared.request.Request.{Request}
use Rattle.task_events.specs.declared.request.Request.TheVariants as asks
use Rattle.task_events.specs.declared.request.ScrollAsk.{ScrollAsk}
use Rattle.task_events.specs.declared.request.SliceAsk.{SliceAsk}
use Rattle.task_events.specs.declared.step.Asked.{Asked}
use Rattle.task_events.specs.declared.step.Do.TheVariants.{AskNext, Wait, Finish}
use Rattle.task_events.specs.Clock.{clock}
use Rattle.task_events.specs.Counting.{answers_in, is_batch, sums_of}
use Rattle.task_events.specs.ReindexTask.{cut_step, reindex_step}
use Rattle.task_events.specs.Requests.{Scripted, request_of}
use Rattle.task_events.specs.Searches.{are_answered}
use Rattle.task_events.specs.SliceTask.{after_bulk, after_page, answer_at, bulk_of, context_in, docs_on, due_after, first_page, is_clean, later_page, most_asks, page_from, slice_counts, slice_step}
use Rattle.task_events.specs.Slicing.{slice_at}
use Rattle.task_events.specs.Steps.{asked_by, came_by, progress_of}
use Rattle.write_laws.specs.Throttled.{KeepsToRates, reindex_in, IsInTime, number_shown}
use Rattle.write_laws.proofs.ChildAsks.{asks_next, asks_made}
use Rattle.write_laws.proofs.StepCases.{asks_by_plan}
use Rattle.write_laws.proofs.WholeTurns.{AllPlanned}

-- ---- one step

module _ (t : TaskId) (ask : ReindexAsk) (page : ScrollAsk) where
  after_page_none : (counts : Reply) (o : Option Reply) → after_page ask (Finish counts) o ≡ AskNext (asks.Scroll page) → ⊥
  after_page_none counts None e = cc
  after_page_none counts (Some reply) e = by_batch (is_batch reply) e
    where
      by_batch : (b : Bool) → cond b (AskNext (bulk_of ask (docs_on reply))) (Finish counts) ≡ AskNext (asks.Scroll page) → ⊥
      by_batch true e = cc
      by_batch false e = cc

  from_due : (more : Bool) (context : Option TaskId) (due now : ℕ) → cond more (page_from t context due now) (Wait None) ≡ AskNext (asks.Scroll page) → due ≤ now
  from_due false context due now e = absurd (cc)
  from_due true None due now e = absurd (cc)
  from_due true (Some context) due now e = by_time (nat_le due now) refl e
    where
      by_time : (b : Bool) → nat_le due now ≡ b → cond b (AskNext (later_page t context)) (Wait (Some due)) ≡ AskNext (asks.Scroll page) → due ≤ now
      by_time true come e = grind (arith, nat_tests)
      by_time false come e = absurd (cc)

  after_bulk_due : (more : Bool) (context : Option TaskId) (due now : ℕ) (counts : Reply) (o : Option Reply) → after_bulk (cond more (page_from t context due now) (Wait None)) (Finish counts) o ≡ AskNext (asks.Scroll page) → due ≤ now
  after_bulk_due more context due now counts None e = absurd (cc)
  after_bulk_due more context due now counts (Some reply) e = by_clean (is_clean reply) e
    where
      by_clean : (b : Bool) → cond b (cond more (page_from t context due now) (Wait None)) (Finish counts) ≡ AskNext (asks.Scroll page) → due ≤ now
      by_clean true e = from_due more context due now e
      by_clean false e = absurd (cc)

  pub slice_in_time : (slice shards : ℕ) (asked : List Asked) (came : List ℕ) (now : ℕ) → slice_step t ask slice shards asked came now ≡ AskNext (asks.Scroll page) → (2 ≤ length asked) × (due_after ask asked came (length asked - 1) ≤ now)
  slice_in_time slice shards asked came now e = by_made (length asked) (length asked == 0) (length asked % 2 == 1) refl refl e
    where
      by_made : (made : ℕ) (none odd : Bool) → (made == 0) ≡ none → (made % 2 == 1) ≡ odd
          → cond none (AskNext (first_page t ask slice shards)) (cond odd (after_page ask (Finish (Wrote (slice_counts asked))) (answer_at asked (length asked - 1)))
          (after_bulk (cond (nat_lt (length asked) most_asks) (page_from t (option_and_then context_in (answer_at asked 0)) (due_after ask asked came (length asked - 1)) now) (Wait None)) (Finish (Wrote (slice_counts asked))) (answer_at asked (length asked - 1)))) ≡ AskNext (asks.Scroll page)
          → (2 ≤ made) × (due_after ask asked came (length asked - 1) ≤ now)
      by_made made true odd x y e = absurd (cc)
      by_made made false true x y e = absurd (after_page_none (Wrote (slice_counts asked)) (answer_at asked (length asked - 1)) e)
      by_made made false false x y e =
          let some : 1 ≤ made = grind (arith, nat_tests) in
          let two : 2 ≤ made = by_parity made some y in
          (two, after_bulk_due (nat_lt (length asked) most_asks) (option_and_then context_in (answer_at asked 0)) (due_after ask asked came (length asked - 1)) now (Wrote (slice_counts asked)) (answer_at asked (length asked - 1)) e)
        where
          by_parity : (n : ℕ) → 1 ≤ n → (n % 2 == 1) ≡ false → 2 ≤ n
          by_parity zero low even = absurd (omega (arith, low))
          by_parity (suc zero) low even = absurd (cc)
          by_parity (suc (suc n)) low even = omega arith

  -- a reindex of several slices asks for these alone
  cut_asks_none : (asked : List Asked) → cut_step ask asked ≡ AskNext (asks.Scroll page) → ⊥
  cut_asks_none asked e = by_slice (slice_at ask (length asked)) (asks_next (option_map asks.Slice (slice_at ask (length asked))) (are_answered asked) (Wrote (sums_of (answers_in asked))) (asks.Scroll page) e)
    where
      by_slice : (o : Option SliceAsk) → option_map asks.Slice o ≡ Some (asks.Scroll page) → ⊥
      by_slice None is = cc
      by_slice (Some slice) is = cc

-- ---- the time of a page

-- what is left to wait, and what was spent, are together no less than the whole time
whole_time : (rate : Option ℕ) (batch slices spent : ℕ) → wait_at rate batch slices 0 ≤ wait_at rate batch slices spent + spent
whole_time None batch slices spent = omega arith
whole_time (Some rate) batch slices spent = by_time (time_of batch slices rate)
  where
    by_time : (time : ℕ) → time - 0 ≤ time - spent + spent
    by_time time = omega arith

-- what is due after a bulk is due so long after its page as the documents of that take, where the bulk was answered after the page
has_waited : (ask : ReindexAsk) (asked : List Asked) (came : List ℕ) (now : ℕ) → 2 ≤ length asked → get_or came (length asked - 2) 0 ≤ get_or came (length asked - 1) 0 → due_after ask asked came (length asked - 1) ≤ now → IsInTime ask asked came now
has_waited ask asked came now two rises due = record { waited = by_page (length asked - 1 - 1) (let same : length asked - 1 - 1 ≡ length asked - 2 = omega (arith, two) in same) due; due = due }
  where
    by_page : (page : ℕ) → page ≡ length asked - 2 → get_or came (length asked - 1) 0 + wait_at ask.rate (number_shown asked page) ask.slices (get_or came (length asked - 1) 0 - get_or came page 0) ≤ now
        → get_or came (length asked - 2) 0 + wait_at ask.rate (number_shown asked (length asked - 2)) ask.slices 0 ≤ now
    by_page page same over =
        let was : get_or came page 0 ≡ get_or came (length asked - 2) 0 = ap (λ i. get_or came i 0) same in
        let shown : number_shown asked page ≡ number_shown asked (length asked - 2) = ap (number_shown asked) same in
        let whole = whole_time ask.rate (number_shown asked page) ask.slices (get_or came (length asked - 1) 0 - get_or came page 0) in
        let time : wait_at ask.rate (number_shown asked (length asked - 2)) ask.slices 0 ≡ wait_at ask.rate (number_shown asked page) ask.slices 0 = ap (λ n. wait_at ask.rate n ask.slices 0) (sym shown) in
        omega (arith, over, was, whole, time, rises)

-- ---- so in a run

module _ (cluster : Cluster) (corpus : Corpus) (said : Scripted) where
  module _ (request : Request) (ask : ReindexAsk) (slice : ℕ) (does : (t : TaskId) (made : Corpus) (q : Progress) (now : ℕ) → (kind_of request).step cluster made t q now ≡ slice_step t ask slice cluster.shards q.asked q.came now) where
    asks_in_time : (p : TaskId) (k n : ℕ) (page : ScrollAsk) (h : List Event) → Lawful cluster (Ask p k n (asks.Scroll page) ∷ h) → AllPlanned cluster corpus said (Ask p k n (asks.Scroll page) ∷ h) → request_of said p h ≡ Some request
        → IsInTime ask (asked_by p h) (came_by p h) (clock h)
    asks_in_time p k n page h l planned e =
        let step = sym (does p (corpus_at corpus said h) (progress_of cluster corpus said p request h) (clock h)) ∙ asks_by_plan cluster corpus said h (Ask p k n (asks.Scroll page)) planned.0.0 p k n (asks.Scroll page) request refl e in
        let next = slice_in_time p ask page slice cluster.shards (asked_by p h) (came_by p h) (clock h) step in
        let made = asks_made cluster p h l.1 in
        let come = last_answered cluster corpus said p request ask slice (does p) k n (asks.Scroll page) h l planned e (omega (arith, made, next.0)) in
        let rises = answers_rise cluster corpus said p request ask slice (does p) h l.1 planned.1 e (last_ask p h) (omega (arith, made, next.0)) (omega arith) come in
        has_waited ask (asked_by p h) (came_by p h) (clock h) next.0 (ap_rises p h made rises) next.1
      where
        ap_rises : (p : TaskId) (h : List Event) → length (asked_by p h) ≡ last_ask p h → get_or (came_by p h) (last_ask p h - 2) 0 ≤ get_or (came_by p h) (last_ask p h - 1) 0 → get_or (came_by p h) (length (asked_by p h) - 2) 0 ≤ get_or (came_by p h) (length (asked_by p h) - 1) 0
        ap_rises p h made rises = subst (λ n. get_or (came_by p h) (n - 2) 0 ≤ get_or (came_by p h) (n - 1) 0) (sym made) rises

  asked_in_time : (p : TaskId) (k n : ℕ) (page : ScrollAsk) (h : List Event) → Lawful cluster (Ask p k n (asks.Scroll page) ∷ h) → AllPlanned cluster corpus said (Ask p k n (asks.Scroll page) ∷ h) → (o : Option Request) → request_of said p h ≡ o
      → IfSome (reindex_in o) (λ ask. IsInTime ask (asked_by p h) (came_by p h) (clock h))
  asked_in_time p k n page h l planned (Some (asks.Slice slice)) asked = asks_in_time (asks.Slice slice) slice.reindex slice.slice (λ t made q now. refl) p k n page h l planned asked
  asked_in_time p k n page h l planned (Some (asks.Reindex ask)) asked = by_slices (ask.slices == 1) refl
    where
      step : reindex_step p ask cluster.shards (asked_by p h) (came_by p h) (clock h) ≡ AskNext (asks.Scroll page)
      step = asks_by_plan cluster corpus said h (Ask p k n (asks.Scroll page)) planned.0.0 p k n (asks.Scroll page) (asks.Reindex ask) refl asked

      by_slices : (b : Bool) → (ask.slices == 1) ≡ b → IsInTime ask (asked_by p h) (came_by p h) (clock h)
      by_slices true one = asks_in_time (asks.Reindex ask) ask 0 (λ t made q now. rw one refl) p k n page h l planned asked
      by_slices false several = absurd (cut_asks_none p ask page (asked_by p h) (let cut : cut_step ask (asked_by p h) ≡ AskNext (asks.Scroll page) = rw several at step in cut))
  asked_in_time p k n page h l planned None asked = tt
  asked_in_time p k n page h l planned (Some (asks.Search ask)) asked = tt
  asked_in_time p k n page h l planned (Some (asks.Scroll ask)) asked = tt
  asked_in_time p k n page h l planned (Some (asks.Query ask)) asked = tt
  asked_in_time p k n page h l planned (Some (asks.Fetch ask)) asked = tt
  asked_in_time p k n page h l planned (Some (asks.Bulk ask)) asked = tt
  asked_in_time p k n page h l planned (Some (asks.BulkShard ask)) asked = tt

  pub pages_in_time : (h : List Event) → Lawful cluster h → AllPlanned cluster corpus said h → KeepsToRates said h
  pages_in_time [] l planned = tt
  pages_in_time (Ask p k n (asks.Scroll page) ∷ h) l planned = (asked_in_time p k n page h l planned (request_of said p h) refl, pages_in_time h l.1 planned.1)
  pages_in_time (_ ∷ h) l planned = (tt, pages_in_time h l.1 planned.1)
