-- At how many of the tasks that it named each cancel waits, as the world's table says.
use Rattle.std.specs.Prelude.{◌≡◌, ℕ, ◌-◌, ◌==◌, true, ◌&&◌, not, List, Option, if◌then◌else◌, unwrap_or}
use Rattle.std.specs.BTreeMap.{BTreeMap, get}
use Rattle.std.specs.Ordering.{nat_cmp}
use Rattle.task_ids.specs.declared.task_id.TaskId.{TaskId}
use Rattle.task_events.specs.declared.event.Event.{Event}
use Rattle.task_events.specs.Allowed.{is_number}
use Rattle.task_events.specs.Cancels.{is_named}
use Rattle.world_moves.specs.Cancels.{is_answered, left_of}

-- the number at a cancel, 0 where there is none
abbrev pub left_in : BTreeMap ℕ ℕ → ℕ → ℕ
left_in table c = unwrap_or (get nat_cmp table c) 0

-- one task less for a cancel
abbrev pub one_less : ℕ → (ℕ → ℕ) → ℕ → ℕ
one_less d left c = if c == d then left c - 1 else left c

-- The numbers are those of the past, while one cancel, perhaps, is still naming tasks.
pub record HasLeft (naming : Option ℕ) (h : List Event) (left : ℕ → ℕ) : Type 0 where
  pub counts : (c : ℕ) → left c ≡ left_of c h
  -- a cancel that has named all its tasks is answered where it waits at none
  pub answered : (c : ℕ) (t : TaskId) → is_named c t h ≡ true → is_answered c h ≡ (not (is_number c naming) && (left_of c h == 0))
