-- An ask is unanswered exactly where it is in the list of unanswered asks.
use Rattle.std.proofs.Common.{◌≡◌, ℕ, false, cond, not, List, [], ◌∷◌, refl, arith}
use Rattle.std.specs.Prelude.{filter, ◌==◌}
use Rattle.std.specs.List.{list_any}
use Rattle.task_ids.specs.declared.task_id.TaskId.{TaskId}
use Rattle.task_events.specs.declared.event.Event.{Event}
use Rattle.task_events.specs.declared.event.Event.TheVariants.{Ask, Answered}
use Rattle.task_events.specs.Asks.{is_unanswered, unanswered, Pending}
use Rattle.task_laws.proofs.Same.{same_tests}

-- without the ask j the list has what it had, but j
others : (k j : ℕ) (xs : List Pending) → list_any (λ a. a.ask == k) (filter (λ a. not (a.ask == j)) xs) ≡ cond (k == j) false (list_any (λ a. a.ask == k) xs)
others k j [] = grind (arith, same_tests)
others k j (a ∷ xs) = grind (arith, same_tests, others k j xs)

pub is_pending : (p : TaskId) (k : ℕ) (h : List Event) → is_unanswered p k h ≡ list_any (λ a. a.ask == k) (unanswered p h)
is_pending p k [] = refl
is_pending p k (Ask q j n w ∷ h) = grind (arith, same_tests, is_pending p k h)
is_pending p k (Answered q j ∷ h) = grind (arith, same_tests, is_pending p k h, others k j (unanswered p h))
is_pending p k (_ ∷ h) = is_pending p k h
