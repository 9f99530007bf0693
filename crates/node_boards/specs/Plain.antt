-- The plain board: what lies under its lock, and what its seats keep.
use Rattle.std.specs.Prelude.{◌≡◌, ◌≢◌, ℕ, zero, suc, ◌+◌, ◌-◌, ◌^◌, ◌<◌, ◌≤◌, ◌⊎◌, ◌==◌, ◌++◌, ◌∷◌, [], true, false, cond, ◌&&◌, is_none, List, Option, Some, None, Bool, All, IfSome, length, replicate, slice_index_or, slice_set, bit_or, bit_and}
use Rattle.task_ids.specs.declared.task_id.TaskId.{TaskId}
use Rattle.task_table.specs.declared.answers.Check.{Check}
use Rattle.task_table.specs.declared.answers.Check.TheVariants.{Clear, Banned}
use Rattle.task_table.specs.declared.ended.MarkAnswer.{MarkAnswer}
use Rattle.task_table.specs.declared.ended.MarkAnswer.TheVariants.{Marked, Already, NotFound}
use Rattle.race_board.specs.Keys.{parent_key, task_key}
use Rattle.node_boards.specs.declared.plain_rows.Live.{Live}
use Rattle.node_boards.specs.declared.plain_rows.Ban.{Ban}

-- the greatest number given, the live task of each slot, and the ban of each place
pub record Rows : Type 0 where
  pub last : ℕ
  pub slots : List (Option Live)
  pub bans : List (Option Ban)

abbrev pub slot : Rows → ℕ → Option Live
slot t i = slice_index_or t.slots i None

abbrev pub ban : Rows → ℕ → Option Ban
ban t j = slice_index_or t.bans j None

abbrev pub with_slot : Rows → ℕ → Option Live → Rows
with_slot t i s = record t { slots = slice_set t.slots i s }

abbrev pub with_ban : Rows → ℕ → Option Ban → Rows
with_ban t j b = record t { bans = slice_set t.bans j b }

-- each mark and each ban is of an allowed cancellation
abbrev pub AllowedMark : (ℕ → Type 0) → Option Live → Type 0
AllowedMark allowed s = IfSome s (λ live. IfSome live.mark allowed)

abbrev pub AllowedBan : (ℕ → Type 0) → Option Ban → Type 0
AllowedBan allowed b = IfSome b (λ ban. allowed ban.cancel)

pub record IsAllowed (allowed : ℕ → Type 0) (t : Rows) : Type 0 where
  pub marks : All (AllowedMark allowed) t.slots
  pub cancels : All (AllowedBan allowed) t.bans

-- the parent is that task
abbrev pub is_child_of : TaskId → Option TaskId → Bool
is_child_of p None = false
is_child_of p (Some q) = (q.node == p.node) && (q.number == p.number)

-- a task with no mark and no node
abbrev pub unmarked : ℕ → Option TaskId → Live
unmarked n p = record { number = n; parent = p; mark = None; asks = 0 }

-- the task is live in this slot
abbrev pub IsTask : ℕ → Option Live → Type 0
IsTask n None = ⊥
IsTask n (Some live) = live.number ≡ n

abbrev pub NoTask : List (Option Live) → ℕ → Type 0
NoTask slots n = (i : ℕ) → i < length slots → ¬ IsTask n (slice_index_or slots i None)

-- the task is live in the slot i
abbrev pub TaskAt : List (Option Live) → ℕ → ℕ → Live → Type 0
TaskAt slots n i live = (i < length slots) × (slice_index_or slots i None ≡ Some live) × (live.number ≡ n)

-- Either of the live task with that number, in its slot, or, where there is none, the other
abbrev pub AtTask : Rows → ℕ → (ℕ → Live → Type 0) → Type 0 → Type 0
AtTask t n There Else = ((i : ℕ) × (live : Live) × TaskAt t.slots n i live × There i live) ⊎ (NoTask t.slots n × Else)

-- the task gets a free slot
abbrev pub Claims : Rows → Rows → ℕ → Option TaskId → Type 0
Claims t u n p = (i : ℕ) × (i < length t.slots) × (slot t i ≡ None) × (u ≡ with_slot t i (Some (unmarked n p)))

abbrev pub IsFull : Rows → Type 0
IsFull t = (i : ℕ) → i < length t.slots → slot t i ≢ None

-- the ban is of that parent
abbrev pub IsBanOf : TaskId → Option Ban → Type 0
IsBanOf p None = ⊥
IsBanOf p (Some b) = b.parent ≡ p

-- the ban of that parent stands in the place j
abbrev pub BanAt : List (Option Ban) → TaskId → ℕ → Ban → Type 0
BanAt bans p j b = (j < length bans) × (slice_index_or bans j None ≡ Some b) × (b.parent ≡ p)

abbrev pub NoBan : List (Option Ban) → TaskId → Type 0
NoBan bans p = (j : ℕ) → j < length bans → ¬ IsBanOf p (slice_index_or bans j None)

-- a child is clear where no ban of its parent stands, and banned by one that does
abbrev pub Checks : Rows → TaskId → Check → Type 0
Checks t p Clear = NoBan t.bans p
Checks t p (Banned c) = (j : ℕ) × (b : Ban) × BanAt t.bans p j b × (b.cancel ≡ c)

-- the nodes that a task may ask
abbrev pub with_asks : Live → ℕ → Live
with_asks live asks = record live { asks = asks }

abbrev pub with_mark : Live → ℕ → Live
with_mark live c = record live { mark = Some c }

-- the node's bit is set, and the mark that stands is told
abbrev pub Tracks : Rows → Rows → ℕ → ℕ → Option ℕ → Type 0
Tracks t u n node told = AtTask t n (λ i live. (told ≡ live.mark) × (u ≡ with_slot t i (Some (with_asks live (bit_or live.asks (2 ^ node)))))) ((told ≡ None) × (u ≡ t))

-- the node's bit is taken out
abbrev pub Untracks : Rows → Rows → ℕ → ℕ → Type 0
Untracks t u n node = AtTask t n (λ i live. u ≡ with_slot t i (Some (with_asks live (bit_and live.asks (65535 - 2 ^ node))))) (u ≡ t)

abbrev pub Looks : Rows → ℕ → Option ℕ → Type 0
Looks t n told = AtTask t n (λ i live. told ≡ live.mark) (told ≡ None)

-- the slot is free again
abbrev pub Ends : Rows → Rows → ℕ → Option ℕ → Type 0
Ends t u n told = AtTask t n (λ i live. (told ≡ live.mark) × (u ≡ with_slot t i None)) ((told ≡ None) × (u ≡ t))

-- The task, which had no mark, gets this one, and the seat keeps its number for its slot; or it stands with another mark; or it is not found, or in no slot of the seat
abbrev pub Marks : Rows → Rows → List (Option ℕ) → List (Option ℕ) → ℕ → ℕ → MarkAnswer → Type 0
Marks t u kept now n c Marked = (i : ℕ) × (live : Live) × TaskAt t.slots n i live × (live.mark ≡ None) × (u ≡ with_slot t i (Some (with_mark live c))) × (i < length kept) × (now ≡ slice_set kept i (Some n))
Marks t u kept now n c (Already k) = (i : ℕ) × (live : Live) × TaskAt t.slots n i live × (live.mark ≡ Some k) × (u ≡ t) × (now ≡ kept)
Marks t u kept now n c NotFound = AtTask t n (λ i live. length kept ≤ i) (Unit {0}) × (u ≡ t) × (now ≡ kept)

-- the live child of the ban's parent that a slot holds
abbrev pub child_in : Ban → Option Live → Option Live
child_in b None = None
child_in b (Some live) = cond (is_child_of b.parent live.parent) (Some live) None

-- a child without a mark gets the ban's
abbrev pub struck : Ban → Option Live → Option Live
struck b None = None
struck b (Some live) = Some (cond (is_child_of b.parent live.parent && is_none live.mark) (with_mark live b.cancel) live)
