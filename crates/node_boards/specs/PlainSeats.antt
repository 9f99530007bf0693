-- What a plain board's seats keep.
use Rattle.std.specs.Prelude.{◌≡◌, ◌≢◌, ℕ, ◌<◌, true, List, Option, Some, None, length, slice_index_or}
use Rattle.task_ids.specs.declared.task_id.TaskId.{TaskId}
use Rattle.race_board.specs.Keys.{parent_key, task_key}
use Rattle.node_boards.specs.declared.plain_rows.Held.{Held}
use Rattle.node_boards.specs.declared.plain_rows.Placed.{Placed}

-- the ticket at a place of its seat
abbrev pub ticket : List (Option Held) → ℕ → Option Held
ticket l i = slice_index_or l i None

-- it is a ticket of that number, whose parent has that key
abbrev pub IsOf : ℕ → ℕ → Option Held → Type 0
IsOf n p None = ⊥
IsOf n p (Some h) = (h.number ≡ n) × (parent_key h.parent ≡ p)

-- it is clear, if it is of that number
abbrev pub ClearIfOf : ℕ → Option Held → Type 0
ClearIfOf n None = Unit {0}
ClearIfOf n (Some h) = h.number ≡ n → h.is_clear ≡ true

abbrev pub KeepsTicket : List (Option Held) → ℕ → ℕ → Type 0
KeepsTicket l n p = (i : ℕ) × IsOf n p (ticket l i)

abbrev pub KeepsClear : List (Option Held) → ℕ → Type 0
KeepsClear l n = (i : ℕ) → ClearIfOf n (ticket l i)

-- it is a ticket of that number
abbrev pub IsHeld : ℕ → Option Held → Type 0
IsHeld n None = ⊥
IsHeld n (Some h) = h.number ≡ n

-- no ticket is of that number
abbrev pub NoneOf : List (Option Held) → ℕ → Type 0
NoneOf l n = (i : ℕ) → i < length l → ¬ IsHeld n (ticket l i)

-- the ticket of that number is at the place i
abbrev pub IsAt : List (Option Held) → ℕ → ℕ → Held → Type 0
IsAt l n i h = (i < length l) × (ticket l i ≡ Some h) × (h.number ≡ n)

-- no two tickets have one number
abbrev pub Apart : List (Option Held) → Type 0
Apart l = (i j n : ℕ) → IsHeld n (ticket l i) → IsHeld n (ticket l j) → i ≡ j

-- the ban at a place
abbrev pub placed : List (Option Placed) → ℕ → Option Placed
placed l j = slice_index_or l j None

abbrev pub IsBan : ℕ → ℕ → Option Placed → Type 0
IsBan p c None = ⊥
IsBan p c (Some b) = (task_key b.parent ≡ p) × (b.cancel ≡ c)

abbrev pub KeepsBan : List (Option Placed) → ℕ → ℕ → ℕ → Type 0
KeepsBan l j p c = IsBan p c (placed l j)

-- it is a ban of that parent
abbrev pub IsPlaced : TaskId → Option Placed → Type 0
IsPlaced t None = ⊥
IsPlaced t (Some b) = b.parent ≡ t

-- no ban is of that parent
abbrev pub NotPlaced : List (Option Placed) → TaskId → Type 0
NotPlaced l t = (j : ℕ) → j < length l → ¬ IsPlaced t (placed l j)

-- the ban of that parent is at the place j
abbrev pub IsPlacedAt : List (Option Placed) → TaskId → ℕ → Placed → Type 0
IsPlacedAt l t j b = (j < length l) × (placed l j ≡ Some b) × (b.parent ≡ t)

-- no two bans have one parent
abbrev pub OneEach : List (Option Placed) → Type 0
OneEach l = (j k p c d : ℕ) → KeepsBan l j p c → KeepsBan l k p d → j ≡ k

abbrev pub IsUnlisted : Option Placed → Type 0
IsUnlisted None = Unit {0}
IsUnlisted (Some b) = b.is_listed ≢ true

abbrev pub KeepsUnlisted : List (Option Placed) → ℕ → Type 0
KeepsUnlisted l j = IsUnlisted (placed l j)

-- the number is the last that was marked in some slot
abbrev pub KeepsMark : List (Option ℕ) → ℕ → Type 0
KeepsMark l n = (i : ℕ) × (slice_index_or l i None ≡ Some n)
