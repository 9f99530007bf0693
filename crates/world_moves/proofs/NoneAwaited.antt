-- Whether asks of a task are unanswered, by its asks in order and by the list of the unanswered ones.
use Rattle.std.proofs.Common.{◌≡◌, ℕ, zero, suc, ◌+◌, Bool, true, false, cond, not, List, [], ◌∷◌, map, get_or, Option, Some, None, refl, sym, ap, ◌∙◌, arith}
use Rattle.std.specs.Prelude.{is_some, count_by, nat_lt, ◌==◌, ◌&&◌}
use Rattle.std.specs.List.{list_any}
use Rattle.std.proofs.lemmas.Bool.Decides.{nat_tests}
use Rattle.std.proofs.lemmas.List.Sums.{sum_by-cons}
use Rattle.task_ids.specs.declared.task_id.TaskId.{TaskId}
use Rattle.task_ids.specs.declared.cluster.Cluster.{Cluster}
use Rattle.task_events.specs.declared.event.Event.{Event}
use Rattle.task_events.specs.declared.reply.Counts.{Counts}
use Rattle.task_events.specs.declared.step.Asked.{Asked}
use Rattle.task_events.specs.Asks.{Pending, unanswered, is_unanswered}
use Rattle.task_events.specs.Lawful.{Lawful}
use Rattle.task_events.specs.Searches.{are_answered}
use Rattle.task_events.specs.Steps.{cancelled_step}
use Rattle.task_laws.proofs.Asks.{ask_facts}
use Rattle.task_laws.proofs.Pending.{is_pending}
use Rattle.world_moves.specs.Facts.{awaited_by, none_awaited}
use Rattle.world_moves.proofs.AsksCounted.{awaited_at}

both : (a b : Bool) → (a && b) ≡ true → (a ≡ true) × (b ≡ true)
both true true e = (refl, refl)
both true false e = absurd (cc)
both false b e = absurd (cc)

pub all_answered : (asked : List Asked) (awaited : List (Option ℕ)) → map (λ a. is_some a.answer) asked ≡ map (λ o. not (is_some o)) awaited → are_answered asked ≡ true → none_awaited awaited ≡ true
all_answered [] [] e all = refl
all_answered [] (o ∷ awaited) e all = absurd (cc)
all_answered (a ∷ asked) [] e all = absurd (cc)
all_answered (a ∷ asked) (o ∷ awaited) e all =
    let two = both (is_some a.answer) (are_answered asked) all in
    let here : is_some a.answer ≡ not (is_some o) = cc in
    rw (sym here ∙ two.0) (all_answered asked awaited (cc) two.1)

pub none_counted : (awaited : List (Option ℕ)) → none_awaited awaited ≡ true → count_by is_some awaited ≡ 0
none_counted [] e = refl
none_counted (None ∷ awaited) e = none_counted awaited e
none_counted (Some n ∷ awaited) e = absurd (cc)

not_none : (n : ℕ) → (1 + n == 0) ≡ false
not_none n = grind (arith, nat_tests)

-- to count them tells it
pub tells_none : (awaited : List (Option ℕ)) → (count_by is_some awaited == 0) ≡ none_awaited awaited
tells_none [] = refl
tells_none (None ∷ awaited) = tells_none awaited
tells_none (Some n ∷ awaited) = ap (λ k. k == 0) (sum_by-cons (λ o. cond (is_some o) 1 0) (Some n) awaited) ∙ not_none (count_by is_some awaited)

no_less : (n : ℕ) → nat_lt 0 n ≡ not (n == 0)
no_less n = grind (arith, nat_tests)

pub tells_some : (awaited : List (Option ℕ)) → nat_lt 0 (count_by is_some awaited) ≡ not (none_awaited awaited)
tells_some awaited = no_less (count_by is_some awaited) ∙ ap not (tells_none awaited)

pub none_there : (awaited : List (Option ℕ)) → none_awaited awaited ≡ true → (k : ℕ) → is_some (get_or awaited k None) ≡ false
none_there [] e k = refl
none_there (None ∷ awaited) e zero = refl
none_there (None ∷ awaited) e (suc k) = none_there awaited e k
none_there (Some n ∷ awaited) e k = absurd (cc)

pub none_from : (awaited : List (Option ℕ)) → ((k : ℕ) → is_some (get_or awaited k None) ≡ false) → none_awaited awaited ≡ true
none_from [] f = refl
none_from (None ∷ awaited) f = none_from awaited (λ k. f (suc k))
none_from (Some n ∷ awaited) f = absurd (let x = f zero in cc)

none_pending : (pending : List Pending) → ((k : ℕ) → list_any (λ a. a.ask == k) pending ≡ false) → pending ≡ []
none_pending [] f = refl
none_pending (a ∷ pending) f =
    let same : (a.ask == a.ask) ≡ true = grind (arith, nat_tests) in
    let it = f a.ask in
    let here = rw same at it in
    absurd (cc)

module _ (cluster : Cluster) (t : TaskId) (h : List Event) (l : Lawful cluster h) where
  pub none_unanswered : none_awaited (awaited_by t h) ≡ true → unanswered t h ≡ []
  none_unanswered none = none_pending (unanswered t h) (λ k. sym (is_pending t k h) ∙ at_number k)
    where
      at_number : (k : ℕ) → is_unanswered t k h ≡ false
      at_number zero = (ask_facts cluster h l).first_ask t
      at_number (suc k) = let e : suc k ≡ k + 1 = omega arith in ap (λ n. is_unanswered t n h) e ∙ awaited_at cluster t k h l ∙ none_there (awaited_by t h) none k

  pub none_to_await : unanswered t h ≡ [] → none_awaited (awaited_by t h) ≡ true
  none_to_await e = none_from (awaited_by t h) (λ k. sym (awaited_at cluster t k h l) ∙ is_pending t (k + 1) h ∙ ap (list_any (λ a. a.ask == k + 1)) e)

  -- a marked task ends once none is unanswered
  pub ends_cancelled : (c : ℕ) (counts : Counts) → is_some (cancelled_step t c counts (unanswered t h)) ≡ none_awaited (awaited_by t h)
  ends_cancelled c counts = by_both (unanswered t h) refl (none_awaited (awaited_by t h)) refl
    where
      by_both : (pending : List Pending) → unanswered t h ≡ pending → (b : Bool) → none_awaited (awaited_by t h) ≡ b → is_some (cancelled_step t c counts pending) ≡ none_awaited (awaited_by t h)
      by_both [] e b n = sym (none_to_await e)
      by_both (a ∷ pending) e false n = sym n
      by_both (a ∷ pending) e true n = absurd (let none = sym e ∙ none_unanswered n in cc)

  pub waits_cancelled : (c : ℕ) (counts : Counts) → none_awaited (awaited_by t h) ≡ false → cancelled_step t c counts (unanswered t h) ≡ None
  waits_cancelled c counts n = by_pending (unanswered t h) refl
    where
      by_pending : (pending : List Pending) → unanswered t h ≡ pending → cancelled_step t c counts pending ≡ None
      by_pending [] e = absurd (let none = sym n ∙ none_to_await e in cc)
      by_pending (a ∷ pending) e = refl
