-- What a slice has asked for: by turns a page, and a bulk of the documents of the page before.
use Rattle.std.proofs.Common.{◌≡◌, ◌-◌, ◌%◌, ◌≤◌, ℕ, zero, suc, Bool, true, false, cond, List, [], ◌∷◌, ◌++◌, length, map, Option, Some, None, refl, sym, ap, ◌∙◌, arith}
use Rattle.std.specs.Prelude.{◌==◌, nat_le, nat_lt, option_and_then, slice_get}
use Rattle.std.proofs.lemmas.Bool.Decides.{nat_tests}
use Rattle.std.proofs.lemmas.List.{length-map, map-append}
use Rattle.task_ids.specs.declared.cluster.Cluster.{Cluster}
use Rattle.task_ids.specs.declared.corpus.Corpus.{Corpus}
use Rattle.task_ids.specs.declared.task_id.TaskId.{TaskId}
use Rattle.task_events.specs.declared.event.Event.{Event}
use Rattle.task_events.specs.declared.event.Event.TheVariants.{Root, Ask, Put}
use Rattle.task_events.specs.declared.reply.Reply.{Reply}
use Rattle.task_events.specs.declared.reply.Reply.TheVariants.{Wrote}
use Rattle.task_events.specs.declared.request.ReindexAsk.{ReindexAsk}
use Rattle.task_events.specs.declared.request.Request.{Request}
use Rattle.task_events.specs.declared.request.Request.TheVariants.{Search, Scroll}
use Rattle.task_events.specs.declared.step.Asked.{Asked}
use Rattle.task_events.specs.declared.step.Do.TheVariants.{AskNext, Wait, Finish}
use Rattle.task_events.specs.Asks.{answer_of, is_unanswered, last_ask, request_of_ask, up_to}
use Rattle.task_events.specs.Clock.{clock}
use Rattle.task_events.specs.Counting.{is_batch}
use Rattle.task_events.specs.Kind.{Progress}
use Rattle.task_events.specs.Kinds.{kind_of}
use Rattle.task_events.specs.Lawful.{Lawful}
use Rattle.task_events.specs.Requests.{Scripted, request_of}
use Rattle.task_events.specs.Same.{same_pair, same_task}
use Rattle.task_events.specs.SliceTask.{after_bulk, after_page, answer_at, bulk_of, context_in, docs_on, due_after, first_page, is_clean, most_asks, page_from, later_page, slice_counts, slice_step}
use Rattle.task_events.specs.Steps.{asked_by, came_by, planned_step, progress_of}
use Rattle.task_events.specs.Written.{corpus_at}
use Rattle.task_laws.proofs.Asks.{ask_facts}
use Rattle.task_laws.proofs.Content.{answer_facts, still_answer}
use Rattle.task_laws.proofs.Same.{same_tests}
use Rattle.write_laws.proofs.AskedInOrder.{answer_come, asked_at, asked_in_order}
use Rattle.write_laws.proofs.ChildAsks.{asks_made, length_up_to}
use Rattle.write_laws.proofs.StepCases.{asks_by_plan}
use Rattle.write_laws.proofs.WholeTurns.{AllPlanned}

-- it asks for a page
abbrev pub is_reading : Request → Bool
is_reading (Search ask) = true
is_reading (Scroll ask) = true
is_reading _ = false

-- ---- one step

pub record AsksNext (ask : ReindexAsk) (made : ℕ) (newest : Option Reply) (child : Request) : Type 0 where
  pub answered : 1 ≤ made → (reply : Reply) × (newest ≡ Some reply)
  pub page : made % 2 ≡ 0 → is_reading child ≡ true
  pub bulk : made % 2 ≡ 1 → (reply : Reply) × (newest ≡ Some reply) × (child ≡ bulk_of ask (docs_on reply))

pub record EndsAfter (made : ℕ) (newest : Option Reply) : Type 0 where
  pub reply : Reply
  pub answered : newest ≡ Some reply
  pub some : 1 ≤ made
  pub no_batch : made % 2 ≡ 1 → is_batch reply ≡ false
  pub unclean : made % 2 ≡ 0 → is_clean reply ≡ false

module _ (t : TaskId) (ask : ReindexAsk) where
  page_asks : (counts : Reply) (o : Option Reply) (child : Request) → after_page ask (Finish counts) o ≡ AskNext child → (reply : Reply) × (o ≡ Some reply) × (child ≡ bulk_of ask (docs_on reply))
  page_asks counts None child e = absurd (cc)
  page_asks counts (Some page) child e = by_batch (is_batch page) e
    where
      by_batch : (b : Bool) → cond b (AskNext (bulk_of ask (docs_on page))) (Finish counts) ≡ AskNext child → (reply : Reply) × (Some page ≡ Some reply) × (child ≡ bulk_of ask (docs_on reply))
      by_batch true e = (page, refl, cc)
      by_batch false e = absurd (cc)

  from_reads : (b : Bool) (o : Option TaskId) (due now : ℕ) (child : Request) → cond b (page_from t o due now) (Wait None) ≡ AskNext child → is_reading child ≡ true
  from_reads true None due now child e = absurd (cc)
  from_reads true (Some context) due now child e = by_time (nat_le due now) e
    where
      by_time : (b : Bool) → cond b (AskNext (later_page t context)) (Wait (Some due)) ≡ AskNext child → is_reading child ≡ true
      by_time true e = let same : later_page t context ≡ child = cc in ap is_reading (sym same)
      by_time false e = absurd (cc)
  from_reads false o due now child e = absurd (cc)

  bulk_asks : (b : Bool) (from : Option TaskId) (due now : ℕ) (counts : Reply) (o : Option Reply) (child : Request) → after_bulk (cond b (page_from t from due now) (Wait None)) (Finish counts) o ≡ AskNext child → ((reply : Reply) × (o ≡ Some reply)) × (is_reading child ≡ true)
  bulk_asks b from due now counts None child e = absurd (cc)
  bulk_asks b from due now counts (Some reply) child e = by_clean (is_clean reply) e
    where
      by_clean : (clean : Bool) → cond clean (cond b (page_from t from due now) (Wait None)) (Finish counts) ≡ AskNext child → ((last : Reply) × (Some reply ≡ Some last)) × (is_reading child ≡ true)
      by_clean true e = ((reply, refl), from_reads b from due now child e)
      by_clean false e = absurd (cc)

  pub slice_asks_next : (slice shards : ℕ) (asked : List Asked) (came : List ℕ) (now : ℕ) (child : Request) → slice_step t ask slice shards asked came now ≡ AskNext child → AsksNext ask (length asked) (answer_at asked (length asked - 1)) child
  slice_asks_next slice shards asked came now child e = by_made (length asked) (length asked == 0) (length asked % 2 == 1) refl refl (answer_at asked (length asked - 1)) e
    where
      by_made : (made : ℕ) (none odd : Bool) → (made == 0) ≡ none → (made % 2 == 1) ≡ odd → (newest : Option Reply)
          → cond none (AskNext (first_page t ask slice shards)) (cond odd (after_page ask (Finish (Wrote (slice_counts asked))) newest)
          (after_bulk (cond (nat_lt (length asked) most_asks) (page_from t (option_and_then context_in (answer_at asked 0)) (due_after ask asked came (length asked - 1)) now) (Wait None)) (Finish (Wrote (slice_counts asked))) newest)) ≡ AskNext child
          → AsksNext ask made newest child
      by_made made true odd x y newest e =
          let zero_made : made ≡ 0 = grind (arith, nat_tests) in
          record { answered = λ some. absurd (omega (arith, zero_made, some)); page = λ even. let same : first_page t ask slice shards ≡ child = cc in ap is_reading (sym same); bulk = λ other. absurd (omega (arith, zero_made, other)) }
      by_made made false true x y newest e =
          let b = page_asks (Wrote (slice_counts asked)) newest child e in
          let is_odd : made % 2 ≡ 1 = grind (arith, nat_tests) in
          record { answered = λ some. (b.0, b.1); page = λ even. absurd (omega (arith, is_odd, even)); bulk = λ other. b }
      by_made made false false x y newest e =
          let b = bulk_asks (nat_lt (length asked) most_asks) _ _ now (Wrote (slice_counts asked)) newest child e in
          record { answered = λ some. b.0; page = λ even. b.1; bulk = λ other. absurd (grind (arith, nat_tests)) }

  page_ends : (counts last : Reply) (o : Option Reply) → after_page ask (Finish counts) o ≡ Finish last → ((reply : Reply) × (o ≡ Some reply) × (is_batch reply ≡ false)) × (counts ≡ last)
  page_ends counts last None e = absurd (cc)
  page_ends counts last (Some page) e = by_batch (is_batch page) refl e
    where
      by_batch : (b : Bool) → is_batch page ≡ b → cond b (AskNext (bulk_of ask (docs_on page))) (Finish counts) ≡ Finish last → ((reply : Reply) × (Some page ≡ Some reply) × (is_batch reply ≡ false)) × (counts ≡ last)
      by_batch true x e = absurd (cc)
      by_batch false x e = ((page, refl, x), cc)

  from_ends : (b : Bool) (o : Option TaskId) (due now : ℕ) (last : Reply) → cond b (page_from t o due now) (Wait None) ≡ Finish last → ⊥
  from_ends true None due now last e = absurd (cc)
  from_ends true (Some context) due now last e = by_time (nat_le due now) e
    where
      by_time : (b : Bool) → cond b (AskNext (later_page t context)) (Wait (Some due)) ≡ Finish last → ⊥
      by_time true e = absurd (cc)
      by_time false e = absurd (cc)
  from_ends false o due now last e = absurd (cc)

  bulk_ends : (b : Bool) (from : Option TaskId) (due now : ℕ) (counts last : Reply) (o : Option Reply) → after_bulk (cond b (page_from t from due now) (Wait None)) (Finish counts) o ≡ Finish last → ((reply : Reply) × (o ≡ Some reply) × (is_clean reply ≡ false)) × (counts ≡ last)
  bulk_ends b from due now counts last None e = absurd (cc)
  bulk_ends b from due now counts last (Some reply) e = by_clean (is_clean reply) refl e
    where
      by_clean : (clean : Bool) → is_clean reply ≡ clean → cond clean (cond b (page_from t from due now) (Wait None)) (Finish counts) ≡ Finish last → ((r : Reply) × (Some reply ≡ Some r) × (is_clean r ≡ false)) × (counts ≡ last)
      by_clean true x e = absurd (from_ends b from due now last e)
      by_clean false x e = ((reply, refl, x), cc)

  pub slice_ends : (slice shards : ℕ) (asked : List Asked) (came : List ℕ) (now : ℕ) (last : Reply) → slice_step t ask slice shards asked came now ≡ Finish last → EndsAfter (length asked) (answer_at asked (length asked - 1)) × (Wrote (slice_counts asked) ≡ last)
  slice_ends slice shards asked came now last e = by_made (length asked) (length asked == 0) (length asked % 2 == 1) refl refl (answer_at asked (length asked - 1)) e
    where
      by_made : (made : ℕ) (none odd : Bool) → (made == 0) ≡ none → (made % 2 == 1) ≡ odd → (newest : Option Reply)
          → cond none (AskNext (first_page t ask slice shards)) (cond odd (after_page ask (Finish (Wrote (slice_counts asked))) newest)
          (after_bulk (cond (nat_lt (length asked) most_asks) (page_from t (option_and_then context_in (answer_at asked 0)) (due_after ask asked came (length asked - 1)) now) (Wait None)) (Finish (Wrote (slice_counts asked))) newest)) ≡ Finish last
          → EndsAfter made newest × (Wrote (slice_counts asked) ≡ last)
      by_made made true odd x y newest e = absurd (cc)
      by_made made false true x y newest e =
          let b = page_ends (Wrote (slice_counts asked)) last newest e in
          (record { reply = b.0.0; answered = b.0.1; no_batch = λ odd. b.0.2; some = grind (arith, nat_tests); unclean = λ even. absurd (let odd : made % 2 ≡ 1 = grind (arith, nat_tests) in omega (arith, odd, even)) }, b.1)
      by_made made false false x y newest e =
          let b = bulk_ends (nat_lt (length asked) most_asks) _ _ now (Wrote (slice_counts asked)) last newest e in
          (record { reply = b.0.0; answered = b.0.1; no_batch = λ odd. absurd (grind (arith, nat_tests)); some = grind (arith, nat_tests); unclean = λ even. b.0.2 }, b.1)

-- ---- the newest answer

at_last : {X : Type 0} (xs : List X) (x : X) → slice_get (xs ++ x ∷ []) (length xs) ≡ Some x
at_last [] x = refl
at_last (y ∷ xs) x = at_last xs x

-- it is that to the last ask, and has come
pub newest_come : (cluster : Cluster) (t : TaskId) (h : List Event) → Lawful cluster h → (reply : Reply) → answer_at (asked_by t h) (length (asked_by t h) - 1) ≡ Some reply → answer_come t h (last_ask t h) ≡ Some reply
newest_come cluster t h l reply e = by_number (last_ask t h) (asks_made cluster t h l) (asked_in_order cluster t h l)
  where
    by_number : (n : ℕ) → length (asked_by t h) ≡ n → asked_by t h ≡ map (asked_at t h) (up_to n) → answer_come t h n ≡ Some reply
    by_number zero made all = absurd (let none : answer_at [] (length (asked_by t h) - 1) ≡ Some reply = ap (λ xs. answer_at xs (length (asked_by t h) - 1)) (sym all) ∙ e in cc)
    by_number (suc n) made all =
        let split : asked_by t h ≡ map (asked_at t h) (up_to n) ++ asked_at t h (suc n) ∷ [] = all ∙ map-append (asked_at t h) (up_to n) (suc n ∷ []) in
        let before = length-map (up_to n) (asked_at t h) in
        let number : length (asked_by t h) - 1 ≡ length (map (asked_at t h) (up_to n)) = omega (arith, made, before, length_up_to n) in
        sym (ap (option_and_then (λ a. a.answer)) (at_last (map (asked_at t h) (up_to n)) (asked_at t h (suc n)))) ∙ (λ i. answer_at (sym split i) (sym number i)) ∙ e

pub come_answered : (t : TaskId) (h : List Event) (k : ℕ) (reply : Reply) → answer_come t h k ≡ Some reply → (is_unanswered t k h ≡ false) × (answer_of t k h ≡ Some reply)
come_answered t h k reply e = by_open (is_unanswered t k h) refl e
  where
    by_open : (b : Bool) → is_unanswered t k h ≡ b → cond b None (answer_of t k h) ≡ Some reply → (is_unanswered t k h ≡ false) × (answer_of t k h ≡ Some reply)
    by_open true x come = absurd (cc)
    by_open false x come = (x, come)

pub newest_answer : (cluster : Cluster) (t : TaskId) (h : List Event) → Lawful cluster h → (reply : Reply) → answer_at (asked_by t h) (length (asked_by t h) - 1) ≡ Some reply → answer_of t (last_ask t h) h ≡ Some reply
newest_answer cluster t h l reply e = (come_answered t h (last_ask t h) reply (newest_come cluster t h l reply e)).1

-- ---- what its asks were for

module _ (cluster : Cluster) (corpus : Corpus) (said : Scripted) (p : TaskId) (request : Request) (ask : ReindexAsk) (slice : ℕ)
    (does : (made : Corpus) (q : Progress) (now : ℕ) → (kind_of request).step cluster made p q now ≡ slice_step p ask slice cluster.shards q.asked q.came now) where
  -- an ask was for a page, or for a bulk of the documents of the answer before
  pub record AskSaid (h : List Event) (k : ℕ) : Type 0 where
    pub answered : 2 ≤ k → (reply : Reply) × (answer_of p (k - 1) h ≡ Some reply)
    pub page : k % 2 ≡ 1 → (child : Request) × (request_of_ask p k h ≡ Some child) × (is_reading child ≡ true)
    pub bulk : k % 2 ≡ 0 → (reply : Reply) × (answer_of p (k - 1) h ≡ Some reply) × (request_of_ask p k h ≡ Some (bulk_of ask (docs_on reply)))

  kept : (e : Event) (h : List Event) → Lawful cluster (e ∷ h) → (k : ℕ) → request_of_ask p k (e ∷ h) ≡ request_of_ask p k h → AskSaid h k → AskSaid (e ∷ h) k
  kept e h l k same before = record {
    answered = λ two. let b = before.answered two in (b.0, still b.0 b.1);
    page = λ odd. let b = before.page odd in (b.0, same ∙ b.1, b.2);
    bulk = λ even. let b = before.bulk even in (b.0, still b.0 b.1, same ∙ b.2);
  }
    where
      still : (reply : Reply) → answer_of p (k - 1) h ≡ Some reply → answer_of p (k - 1) (e ∷ h) ≡ Some reply
      still reply told = still_answer cluster e h l.0 (ask_facts cluster h l.1) (answer_facts cluster h l.1) p (k - 1) reply told

  new_ask : (q : TaskId) (j n : ℕ) (child : Request) (h : List Event) → Lawful cluster (Ask q j n child ∷ h) → AllPlanned cluster corpus said (Ask q j n child ∷ h) → request_of said p h ≡ Some request
      → (k : ℕ) → 1 ≤ k → same_pair p k q j ≡ true → AskSaid (Ask q j n child ∷ h) k
  new_ask q j n child h l planned e k low one = record {
    answered = λ two. let b = next.answered (omega (arith, made, number, two)) in (b.0, told b.0 b.1);
    page = λ odd. (child, rw one refl, next.page (omega (arith, made, number, odd, low)));
    bulk = λ even. let b = next.bulk (omega (arith, made, number, even, low)) in (b.0, told b.0 b.1, rw one (ap Some b.2));
  }
    where
      own : q ≡ p
      own = grind (arith, same_tests)

      asked : request_of said q h ≡ Some request
      asked = ap (λ x. request_of said x h) own ∙ e

      made : length (asked_by p h) ≡ last_ask p h
      made = asks_made cluster p h l.1

      number : k - 1 ≡ last_ask p h
      number = grind (arith, same_tests, l.0.next)

      step : slice_step p ask slice cluster.shards (asked_by p h) (came_by p h) (clock h) ≡ AskNext child
      step = sym (does (corpus_at corpus said h) (progress_of cluster corpus said p request h) (clock h)) ∙ (λ i. planned_step cluster corpus said (sym own i) request h) ∙ asks_by_plan cluster corpus said h (Ask q j n child) planned.0.0 q j n child request refl asked

      next : AsksNext ask (length (asked_by p h)) (answer_at (asked_by p h) (length (asked_by p h) - 1)) child
      next = slice_asks_next p ask slice cluster.shards (asked_by p h) (came_by p h) (clock h) child step

      told : (reply : Reply) → answer_at (asked_by p h) (length (asked_by p h) - 1) ≡ Some reply → answer_of p (k - 1) h ≡ Some reply
      told reply come = ap (λ m. answer_of p m h) number ∙ newest_answer cluster p h l.1 reply come

  pub asks_said : (h : List Event) → Lawful cluster h → AllPlanned cluster corpus said h → request_of said p h ≡ Some request → (k : ℕ) → 1 ≤ k → k ≤ last_ask p h → AskSaid h k
  asks_said [] l planned e k low high = absurd (omega (arith, low, high))
  asks_said (Root n u ∷ h) l planned e k low high = by_task (same_task p u) refl (λ was. asks_said h l.1 planned.1 was k low high)
    where
      by_task : (b : Bool) → same_task p u ≡ b → (request_of said p h ≡ Some request → AskSaid h k) → AskSaid (Root n u ∷ h) k
      by_task true own before = let f = ask_facts cluster h l.1 in let unborn = f.unborn_asks p (grind (arith, same_tests, l.0.takes.next)) in absurd (omega (arith, unborn, low, high))
      by_task false other before = kept (Root n u) h l k refl (before (rw other at e))
  asks_said (Put u q j ∷ h) l planned e k low high = by_task (same_task p u) refl (λ was. asks_said h l.1 planned.1 was k low high)
    where
      by_task : (b : Bool) → same_task p u ≡ b → (request_of said p h ≡ Some request → AskSaid h k) → AskSaid (Put u q j ∷ h) k
      by_task true own before = let f = ask_facts cluster h l.1 in let unborn = f.unborn_asks p (grind (arith, same_tests, l.0.takes.next)) in absurd (omega (arith, unborn, low, high))
      by_task false other before = kept (Put u q j) h l k refl (before (rw other at e))
  asks_said (Ask q j n child ∷ h) l planned e k low high = by_pair (same_pair p k q j) refl (asks_said h l.1 planned.1 e k low)
    where
      by_pair : (b : Bool) → same_pair p k q j ≡ b → (k ≤ last_ask p h → AskSaid h k) → AskSaid (Ask q j n child ∷ h) k
      by_pair true one before = new_ask q j n child h l planned e k low one
      by_pair false other before = kept (Ask q j n child) h l k (rw other refl) (before (grind (arith, same_tests, l.0.next)))
  asks_said (x ∷ h) l planned e k low high = kept x h l k refl (asks_said h l.1 planned.1 e k low high)
