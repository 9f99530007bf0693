-- What the calls say of the seat's view before and after.
use Rattle.std.specs.Prelude.{◌≡◌, ◌≢◌, ℕ, ◌+◌, ◌<◌, ◌≤◌, ◌⊎◌, List, ◌++◌, length, slice_set}
use mathlib.Core.Option.{some}
use lib.ListN.{get_elem?}
use Rattle.child_track.specs.Token.{token_parent}
use Rattle.task_table.specs.TicketParts.{TicketParts}
use Rattle.race_board.specs.Words.{banned, by}
use Rattle.race_board.specs.Keys.{parent_key}
use Rattle.race_board.specs.Board.{hold}
use Rattle.race_board.specs.Steps.{did, noted, refused, fresh}
use Rattle.race_board.specs.declared.views.Did.{Did}
use Rattle.race_board.specs.declared.views.Hold.{Hold}
use Rattle.race_board.specs.declared.views.View.{View}

-- the steps before are a beginning of the steps after
abbrev pub Longer : View → View → Type 0
Longer v w = (gained : List Did) × (w.steps ≡ v.steps ++ gained)

-- a step of this call, that the view gained from v to w, saw this value in this word
pub record Saw (v w : View) (word seen : ℕ) : Type 0 where
  pub turn : ℕ
  pub of_this_call : length v.steps ≤ turn
  pub left : ℕ
  pub there : get_elem? w.steps turn ≡ some (did word seen left)

-- a step of this call saw this value in this word and left that one there
abbrev pub Wrote : View → View → ℕ → ℕ → ℕ → Type 0
Wrote v w word seen left = (turn : ℕ) × (length v.steps ≤ turn) × (get_elem? w.steps turn ≡ some (did word seen left))

-- of what a seat knows only its steps grew
abbrev pub OnlySteps : View → View → Type 0
OnlySteps v w = w ≡ record v { steps = w.steps }

-- the seat has this ticket
abbrev pub HasTicket : View → TicketParts → Type 0
HasTicket v t = (i : ℕ) × ((hold v i).number ≡ t.id.number) × ((hold v i).parent ≡ parent_key (token_parent t.token))

-- no number is left, as the seat was told before, or as it saw by one step more
abbrev pub Refuses : View → View → Type 0
Refuses v w = ((v.told ≡ 1) × (w ≡ v)) ⊎ ((v.told ≡ 0) × ((seen : ℕ) × (1048575 ≤ seen) × (w ≡ noted (refused v) (did 0 seen (seen + 1)))))

-- each slot's word was seen taken by a step of the call
abbrev pub SawFull : View → View → ℕ → Type 0
SawFull v w n = (i : ℕ) → i < n → (seen : ℕ) × Saw v w (i + 1) seen × (seen ≢ 0)

-- a new ticket, not checked
abbrev pub ticket : ℕ → ℕ → Hold
ticket n p = record { number = n; parent = p; check = fresh p; cleared = 0; seek = 0 }

-- the number is used for a ticket at a slot whose word was seen free, and where the seat had no other
abbrev pub TakesAt : View → View → ℕ → ℕ → ℕ → Type 0
TakesAt v w i n p = (i < v.size.slots) × Saw v w (i + 1) 0 × (w ≡ record v { steps = w.steps; drawn = 0; held = slice_set v.held i (ticket n p) }) × ((hold v i).number ≡ 0)

abbrev pub Takes : View → View → ℕ → ℕ → Type 0
Takes v w n p = (i : ℕ) × TakesAt v w i n p

-- each ban place below n was loaded in the call, and held no ban of that parent
abbrev pub SawNoBan : View → View → ℕ → ℕ → ℕ → Type 0
SawNoBan v w slots n p = (j : ℕ) → j < n → (seen : ℕ) × Saw v w (slots + j + 1) seen × (banned seen ≢ p)

-- a load of the call saw a ban of that parent with that cancel
abbrev pub SawBan : View → View → ℕ → ℕ → ℕ → Type 0
SawBan v w slots p c = (j : ℕ) × (seen : ℕ) × Saw v w (slots + j + 1) seen × (banned seen ≡ p) × (by seen ≡ c)
