-- Of a cancel that has done nothing yet.
use Rattle.std.proofs.Common.{◌≡◌, ℕ, Bool, true, false, cond, List, [], ◌∷◌, None, refl, arith}
use Rattle.std.specs.Prelude.{◌==◌}
use Rattle.task_ids.specs.declared.task_id.TaskId.{TaskId}
use Rattle.task_events.specs.declared.event.Event.{Event}
use Rattle.task_events.specs.declared.event.Event.TheVariants.{Root, RootRejected, Cancel, NotFound, AnswerPlaced, AnswerDone}
use Rattle.task_events.specs.Cancels.{has_acted, is_named, waits, found_none, is_answered_placed, is_answered_done}
use Rattle.task_laws.proofs.Same.{same_tests}

-- it has named no task, found none and answered nothing
pub record IsUnacted (c : ℕ) (h : List Event) : Type 0 where
  pub names : (t : TaskId) → is_named c t h ≡ false
  pub waits_not : waits c h ≡ None
  pub placed : is_answered_placed c h ≡ false
  pub done : is_answered_done c h ≡ false
  pub found : found_none c h ≡ false

-- what came last is of another
other : (a b : Bool) → cond a true b ≡ false → (a ≡ false) × (b ≡ false)
other true b e = absurd (cc)
other false b e = (refl, e)

module _ (c : ℕ) where
  pub unacted : (h : List Event) → has_acted c h ≡ false → IsUnacted c h
  unacted [] a = record { names = λ t. refl; waits_not = refl; placed = refl; done = refl; found = refl }
  unacted (Root d t ∷ h) a =
      let before = unacted h (other (c == d) (has_acted c h) a).1 in
      record { names = before.names; waits_not = before.waits_not; placed = before.placed; done = before.done; found = before.found }
  unacted (RootRejected d n ∷ h) a =
      let before = unacted h (other (c == d) (has_acted c h) a).1 in
      record { names = before.names; waits_not = before.waits_not; placed = before.placed; done = before.done; found = before.found }
  unacted (NotFound d ∷ h) a =
      let e = other (c == d) (has_acted c h) a in
      let before = unacted h e.1 in
      record { names = before.names; waits_not = before.waits_not; placed = before.placed; done = before.done; found = rw e.0 before.found }
  unacted (Cancel d u w ∷ h) a =
      let e = other (c == d) (has_acted c h) a in
      let before = unacted h e.1 in
      let apart = e.0 in
      record { names = λ t. let none = before.names t in grind (arith, same_tests); waits_not = rw e.0 before.waits_not; placed = before.placed; done = before.done; found = before.found }
  unacted (AnswerPlaced d ∷ h) a =
      let e = other (c == d) (has_acted c h) a in
      let before = unacted h e.1 in
      record { names = before.names; waits_not = before.waits_not; placed = rw e.0 before.placed; done = before.done; found = before.found }
  unacted (AnswerDone d ∷ h) a =
      let e = other (c == d) (has_acted c h) a in
      let before = unacted h e.1 in
      record { names = before.names; waits_not = before.waits_not; placed = before.placed; done = rw e.0 before.done; found = before.found }
  unacted (_ ∷ h) a =
      let before = unacted h a in
      record { names = before.names; waits_not = before.waits_not; placed = before.placed; done = before.done; found = before.found }
