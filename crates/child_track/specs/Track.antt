-- What contracts see of a track.
use Rattle.std.specs.Prelude.{ℕ, ◌-◌, ◌≤◌, ◌≡◌, ◌==◌, nat_lt, List, ◌∷◌, [], ◌++◌, Bool, false, Option, None, Some, is_some, IsSome, unwrap_or, count_by, slice_index_or, slice_set}
use Rattle.task_ids.specs.declared.task_id.TaskId.{TaskId}
use Rattle.child_track.specs.Token.{Token, ReceiptParts, token_parent, token_ask}

-- a task, of each of its asks in order the node that is still to answer it, and the number that closed the track
pub record Track : Type 0 where
  pub task : TaskId
  pub asks : List (Option ℕ)
  pub closed : Option ℕ

-- a track on which nothing was asked
abbrev pub new_track : TaskId → Track
new_track task = record { task = task; asks = []; closed = None }

-- asks are numbered from 1
abbrev pub IsUnanswered : Track → ℕ → Type 0
IsUnanswered track ask = (1 ≤ ask) × IsSome (slice_index_or track.asks (ask - 1) None)

-- a receipt answers an unanswered ask of its own task
abbrev pub Answers : ReceiptParts → Track → Type 0
Answers receipt track = (receipt.parent ≡ Some track.task) × IsUnanswered track receipt.ask

abbrev pub with_ask : Track → ℕ → Track
with_ask track node = record track { asks = track.asks ++ Some node ∷ [] }

abbrev pub with_answer : Track → ℕ → Track
with_answer track ask = record track { asks = slice_set track.asks (ask - 1) None }

-- the first number stays
abbrev pub with_close : Track → ℕ → Track
with_close track cancel = record track { closed = Some (unwrap_or track.closed cancel) }

-- how many asks are unanswered
abbrev pub unanswered : Track → ℕ
unanswered track = count_by is_some track.asks

abbrev pub is_at : ℕ → Option ℕ → Bool
is_at node None = false
is_at node (Some n) = n == node

-- how many unanswered asks a node has
abbrev pub unanswered_at : ℕ → Track → ℕ
unanswered_at node track = count_by (is_at node) track.asks

-- a node with an unanswered ask
abbrev pub is_awaited : Track → ℕ → Bool
is_awaited track node = nat_lt 0 (unanswered_at node track)

-- the receipt of a task that has ended, for the ask of its token
abbrev pub sealed : Track → Option Token → ReceiptParts
sealed track token = record { task = Some track.task; parent = token_parent token; ask = token_ask token }
