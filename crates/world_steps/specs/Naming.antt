-- Cancels that are naming tasks.
use Rattle.std.specs.Prelude.{ℕ, Bool, true, false, List, [], ◌∷◌, Some, None, ◌≡◌, ⊤}
use Rattle.std.specs.List.{list_any}
use Rattle.task_ids.specs.declared.task_id.TaskId.{TaskId}
use Rattle.task_events.specs.declared.event.Event.{Event}
use Rattle.task_events.specs.Same.{same_task}
use Rattle.task_events.specs.Tasks.{is_live}
use Rattle.task_events.specs.Cancels.{last_command, beginning, is_named, waits, found_none, is_answered_placed, is_answered_done}

-- tasks that a cancel can name: each is live, not named by it yet, and not again among the later ones
abbrev pub CanName : ℕ → List TaskId → List Event → Type 0
CanName c [] h = ⊤
CanName c (t ∷ ts) h = (is_live t h ≡ true) × (is_named c t h ≡ false) × (list_any (same_task t) ts ≡ false) × CanName c ts h

-- The cancel began last, and all that it has done since is to name tasks.
pub record IsNaming (c : ℕ) (wait : Bool) (h : List Event) : Type 0 where
  pub current : last_command h ≡ c
  -- whether it waits is the same for all of them
  pub one_kind : (other : Bool) → waits c h ≡ Some other → wait ≡ other
  pub at_once : waits c h ≡ None → beginning h ≡ Some c
  pub not_placed : is_answered_placed c h ≡ false
  pub not_done : is_answered_done c h ≡ false
  pub not_missing : found_none c h ≡ false
