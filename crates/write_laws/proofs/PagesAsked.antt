-- What a slice asks for pages: first a search of its part of the source, then pages of the context that this search has opened.
use Rattle.std.proofs.Common.{◌≡◌, ◌+◌, ◌-◌, ◌%◌, ◌≤◌, ℕ, zero, suc, Bool, true, false, cond, List, [], ◌∷◌, ◌++◌, length, map, Option, Some, None, refl, sym, ap, ◌∙◌, arith}
use Rattle.std.specs.Prelude.{◌==◌, nat_le, nat_lt, option_and_then, slice_get}
use Rattle.std.proofs.lemmas.Bool.Decides.{nat_tests}
use Rattle.std.proofs.lemmas.List.{map-append}
use Rattle.task_ids.specs.declared.cluster.Cluster.{Cluster}
use Rattle.task_ids.specs.declared.corpus.Corpus.{Corpus}
use Rattle.task_ids.specs.declared.task_id.TaskId.{TaskId}
use Rattle.task_events.specs.declared.event.Event.{Event}
use Rattle.task_events.specs.declared.event.Event.TheVariants.{Ask}
use Rattle.task_events.specs.declared.reply.Reply.{Reply}
use Rattle.task_events.specs.declared.reply.Reply.TheVariants.{Wrote}
use Rattle.task_events.specs.declared.request.ReindexAsk.{ReindexAsk}
use Rattle.task_events.specs.declared.request.Request.{Request}
use Rattle.task_events.specs.declared.request.SearchAsk.{SearchAsk}
use Rattle.task_events.specs.declared.step.Asked.{Asked}
use Rattle.task_events.specs.declared.step.Do.TheVariants.{AskNext, Wait, Finish}
use Rattle.task_events.specs.Asks.{answer_of, last_ask, request_of_ask, up_to}
use Rattle.task_events.specs.Clock.{clock}
use Rattle.task_events.specs.Kind.{Progress}
use Rattle.task_events.specs.Kinds.{kind_of}
use Rattle.task_events.specs.Lawful.{Lawful}
use Rattle.task_events.specs.Requests.{Scripted, request_of}
use Rattle.task_events.specs.SliceTask.{after_bulk, after_page, answer_at, context_in, due_after, first_page, is_clean, later_page, most_asks, page_from, slice_counts, slice_step}
use Rattle.task_events.specs.Slicing.{pick_of}
use Rattle.task_events.specs.Steps.{asked_by, came_by, planned_step, progress_of}
use Rattle.task_events.specs.Written.{corpus_at}
use Rattle.task_laws.proofs.Asks.{ask_facts}
use Rattle.task_laws.proofs.Content.{answer_facts, still_answer}
use Rattle.task_laws.proofs.Same.{same_pair_refl}
use Rattle.write_laws.proofs.AskedInOrder.{answer_come, asked_at, asked_in_order}
use Rattle.write_laws.proofs.ChildAsks.{asks_made}
use Rattle.write_laws.proofs.EachAsk.{each_ask}
use Rattle.write_laws.proofs.SliceAsks.{come_answered}
use Rattle.write_laws.proofs.WholeTurns.{AllPlanned}

-- the search that the first page is
abbrev pub page_search : TaskId → ReindexAsk → (slice shards : ℕ) → SearchAsk
page_search t ask slice shards = record { index = ask.source; body = record { query = ask.query; sort = []; from = 0; size = ask.batch }; scroll = None; slice = pick_of slice ask.slices shards; owner = Some t }

-- ---- one step

-- what it asks for after so many asks, given the answer to the first
pub record AsksPage (t : TaskId) (ask : ReindexAsk) (slice shards made : ℕ) (first : Option Reply) (child : Request) : Type 0 where
  pub begins : made ≡ 0 → child ≡ first_page t ask slice shards
  pub goes_on : 1 ≤ made → made % 2 ≡ 0 → (context : TaskId) × (option_and_then context_in first ≡ Some context) × (child ≡ later_page t context)

module _ (t : TaskId) where
  from_asks : (b : Bool) (o : Option TaskId) (due now : ℕ) (child : Request) → cond b (page_from t o due now) (Wait None) ≡ AskNext child → (context : TaskId) × (o ≡ Some context) × (child ≡ later_page t context)
  from_asks true None due now child e = absurd (cc)
  from_asks true (Some context) due now child e = by_time (nat_le due now) e
    where
      by_time : (b : Bool) → cond b (AskNext (later_page t context)) (Wait (Some due)) ≡ AskNext child → (found : TaskId) × (Some context ≡ Some found) × (child ≡ later_page t found)
      by_time true e = (context, refl, let same : later_page t context ≡ child = cc in sym same)
      by_time false e = absurd (cc)
  from_asks false o due now child e = absurd (cc)

  bulk_asks : (b : Bool) (from : Option TaskId) (due now : ℕ) (counts : Reply) (o : Option Reply) (child : Request) → after_bulk (cond b (page_from t from due now) (Wait None)) (Finish counts) o ≡ AskNext child
      → (context : TaskId) × (from ≡ Some context) × (child ≡ later_page t context)
  bulk_asks b from due now counts None child e = absurd (cc)
  bulk_asks b from due now counts (Some reply) child e = by_clean (is_clean reply) e
    where
      by_clean : (clean : Bool) → cond clean (cond b (page_from t from due now) (Wait None)) (Finish counts) ≡ AskNext child → (context : TaskId) × (from ≡ Some context) × (child ≡ later_page t context)
      by_clean true e = from_asks b from due now child e
      by_clean false e = absurd (cc)

pub page_step : (t : TaskId) (ask : ReindexAsk) (slice shards : ℕ) (asked : List Asked) (came : List ℕ) (now : ℕ) (child : Request) → slice_step t ask slice shards asked came now ≡ AskNext child → AsksPage t ask slice shards (length asked) (answer_at asked 0) child
page_step t ask slice shards asked came now child e = by_made (length asked) (length asked == 0) (length asked % 2 == 1) refl refl e
  where
    by_made : (made : ℕ) (none odd : Bool) → (made == 0) ≡ none → (made % 2 == 1) ≡ odd
        → cond none (AskNext (first_page t ask slice shards)) (cond odd (after_page ask (Finish (Wrote (slice_counts asked))) (answer_at asked (length asked - 1)))
        (after_bulk (cond (nat_lt (length asked) most_asks) (page_from t (option_and_then context_in (answer_at asked 0)) (due_after ask asked came (length asked - 1)) now) (Wait None)) (Finish (Wrote (slice_counts asked))) (answer_at asked (length asked - 1)))) ≡ AskNext child
        → AsksPage t ask slice shards made (answer_at asked 0) child
    by_made made true odd x y e =
        let zero_made : made ≡ 0 = grind (arith, nat_tests) in
        let same : first_page t ask slice shards ≡ child = cc in
        record { begins = λ none. sym same; goes_on = λ some even. absurd (omega (arith, zero_made, some)) }
    by_made made false true x y e =
        let is_odd : made % 2 ≡ 1 = grind (arith, nat_tests) in
        record { begins = λ none. absurd (omega (arith, none, is_odd)); goes_on = λ some even. absurd (omega (arith, is_odd, even)) }
    by_made made false false x y e =
        let b = bulk_asks t (nat_lt (length asked) most_asks) _ _ now (Wrote (slice_counts asked)) (answer_at asked (length asked - 1)) child e in
        record { begins = λ none. absurd (grind (arith, nat_tests)); goes_on = λ some even. b }

-- ---- the first answer

first_of : {X : Type 0} (xs ys : List X) (x : X) → slice_get xs 0 ≡ Some x → slice_get (xs ++ ys) 0 ≡ Some x
first_of [] ys x e = absurd (cc)
first_of (y ∷ xs) ys x e = e

at_first : {X : Type 0} (f : ℕ → X) (n : ℕ) → slice_get (map f (up_to (suc n))) 0 ≡ Some (f 1)
at_first f zero = refl
at_first f (suc n) = ap (λ xs. slice_get xs 0) (map-append f (up_to (suc n)) (suc (suc n) ∷ [])) ∙ first_of (map f (up_to (suc n))) (f (suc (suc n)) ∷ []) (f 1) (at_first f n)

pub first_answer : (cluster : Cluster) (t : TaskId) (h : List Event) → Lawful cluster h → (reply : Reply) → answer_at (asked_by t h) 0 ≡ Some reply → answer_of t 1 h ≡ Some reply
first_answer cluster t h l reply e = by_number (last_ask t h) (asked_in_order cluster t h l)
  where
    by_number : (n : ℕ) → asked_by t h ≡ map (asked_at t h) (up_to n) → answer_of t 1 h ≡ Some reply
    by_number zero all = absurd (let none : answer_at [] 0 ≡ Some reply = ap (λ xs. answer_at xs 0) (sym all) ∙ e in cc)
    by_number (suc n) all =
        let come : answer_come t h 1 ≡ Some reply =
        sym (ap (option_and_then (λ (a : Asked). a.answer)) (at_first (asked_at t h) n)) ∙ ap (λ xs. answer_at xs 0) (sym all) ∙ e in
        (come_answered t h 1 reply come).1

-- what the first answer names
pub first_names : (cluster : Cluster) (t : TaskId) (h : List Event) → Lawful cluster h → (context : TaskId) → option_and_then context_in (answer_at (asked_by t h) 0) ≡ Some context → option_and_then context_in (answer_of t 1 h) ≡ Some context
first_names cluster t h l context names = by_answer (answer_at (asked_by t h) 0) refl names
  where
    by_answer : (o : Option Reply) → answer_at (asked_by t h) 0 ≡ o → option_and_then context_in o ≡ Some context → option_and_then context_in (answer_of t 1 h) ≡ Some context
    by_answer None told e = absurd (cc)
    by_answer (Some reply) told e = ap (option_and_then context_in) (first_answer cluster t h l reply told) ∙ e

-- ---- what its asks were for

module _ (cluster : Cluster) (corpus : Corpus) (said : Scripted) (p : TaskId) (request : Request) (ask : ReindexAsk) (slice : ℕ)
    (does : (made : Corpus) (q : Progress) (now : ℕ) → (kind_of request).step cluster made p q now ≡ slice_step p ask slice cluster.shards q.asked q.came now) where
  -- the first ask was for the first page, and each later one for a page was for one of the context that the answer to the first names
  pub record PageSaid (h : List Event) (k : ℕ) : Type 0 where
    pub begins : k ≡ 1 → request_of_ask p k h ≡ Some (first_page p ask slice cluster.shards)
    pub goes_on : 2 ≤ k → k % 2 ≡ 1 → (context : TaskId) × (option_and_then context_in (answer_of p 1 h) ≡ Some context) × (request_of_ask p k h ≡ Some (later_page p context))

  still_names : (e : Event) (h : List Event) → Lawful cluster (e ∷ h) → (context : TaskId) (o : Option Reply) → answer_of p 1 h ≡ o → option_and_then context_in o ≡ Some context → option_and_then context_in (answer_of p 1 (e ∷ h)) ≡ Some context
  still_names e h l context None told names = absurd (cc)
  still_names e h l context (Some reply) told names = ap (option_and_then context_in) (still_answer cluster e h l.0 (ask_facts cluster h l.1) (answer_facts cluster h l.1) p 1 reply told) ∙ names

  stays : (e : Event) (h : List Event) → Lawful cluster (e ∷ h) → (k : ℕ) → request_of_ask p k (e ∷ h) ≡ request_of_ask p k h → PageSaid h k → PageSaid (e ∷ h) k
  stays e h l k same before = record {
    begins = λ one. same ∙ before.begins one;
    goes_on = λ two odd. let b = before.goes_on two odd in (b.0, still_names e h l b.0 (answer_of p 1 h) refl b.1, same ∙ b.2);
  }

  made : (h : List Event) (k n : ℕ) (child : Request) → Lawful cluster (Ask p k n child ∷ h) → k ≡ last_ask p h + 1 → planned_step cluster corpus said p request h ≡ AskNext child → PageSaid (Ask p k n child ∷ h) k
  made h k n child l number step = record {
    begins = λ one. rw (same_pair_refl p k) (ap Some (next.begins (omega (arith, asked, number, one))));
    goes_on = λ two odd.
        let b = next.goes_on (omega (arith, asked, number, two)) (omega (arith, asked, number, odd)) in
        (b.0, first_names cluster p h l.1 b.0 b.1, rw (same_pair_refl p k) (ap Some b.2));
  }
    where
      asked : length (asked_by p h) ≡ last_ask p h
      asked = asks_made cluster p h l.1

      next : AsksPage p ask slice cluster.shards (length (asked_by p h)) (answer_at (asked_by p h) 0) child
      next = page_step p ask slice cluster.shards (asked_by p h) (came_by p h) (clock h) child (sym (does (corpus_at corpus said h) (progress_of cluster corpus said p request h) (clock h)) ∙ step)

  pub page_said : (h : List Event) → Lawful cluster h → AllPlanned cluster corpus said h → request_of said p h ≡ Some request → (k : ℕ) → 1 ≤ k → k ≤ last_ask p h → PageSaid h k
  page_said = each_ask cluster corpus said p request PageSaid stays made
