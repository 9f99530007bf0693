-- A core and its board belong together.
use Rattle.std.specs.Prelude.{◌≡◌, ℕ, true, All}
use Rattle.task_ids.specs.Limits.{IsCancel}
use Rattle.task_ids.specs.declared.task_id.TaskId.{TaskId}
use Rattle.cancel_core.specs.declared.act.Waiter.{Waiter}
use Rattle.cancel_core.specs.Cancellations.{entry_of}
use Rattle.race_board.specs.Keys.{task_key}
use Rattle.node_boards.specs.Seats.{HasBanOf}
use Rattle.control_worker.specs.declared.control_core.Ban.{Ban}
use Rattle.control_worker.specs.View.{View, has_ban}

-- the board may be told of the ban
abbrev pub MayPut : (ℕ → Type 0) → Ban → Type 0
MayPut allowed ban = IsCancel ban.cancel × allowed ban.cancel

-- the waiter's cancel is one of the run
abbrev pub MayHear : (ℕ → Type 0) → Waiter → Type 0
MayHear allowed waiter = IsCancel waiter.cancel × allowed waiter.cancel

-- The seat's bans are those of the core, which has as many slots as the board; each ban that is kept back may be put; and each cancel that waits for a task is one of the run
pub record BelongsTo (bans : ℕ → ℕ → ℕ → Type 0) (slots : ℕ) (allowed : ℕ → Type 0) (v : View) : Type 0 where
  pub on_board : (parent : TaskId) → has_ban v parent ≡ true → HasBanOf bans (task_key parent)
  pub in_core : (place key cancel : ℕ) → bans place key cancel → (parent : TaskId) × (key ≡ task_key parent) × (has_ban v parent ≡ true)
  pub room : v.slots ≡ slots
  pub kept : All (MayPut allowed) v.kept
  pub waiting : (task : TaskId) → All (MayHear allowed) (entry_of v.cancels task).waiters

unfoldable pub Together : (ℕ → ℕ → ℕ → Type 0) → ℕ → (ℕ → Type 0) → View → Type 0
Together bans slots allowed v = BelongsTo bans slots allowed v
