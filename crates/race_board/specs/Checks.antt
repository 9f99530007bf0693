-- What `check`, `end`, `look`, `track` and `untrack` say.
use Rattle.std.specs.Prelude.{◌≡◌, ◌≢◌, ℕ, ◌+◌, ◌-◌, ◌^◌, ◌⊎◌, ◌==◌, cond, List, [], ◌∷◌, Option, Some, None, slice_set, bit_and}
use Rattle.child_track.specs.Token.{token_parent}
use Rattle.task_table.specs.TicketParts.{TicketParts}
use Rattle.task_table.specs.declared.answers.Check.{Check}
use Rattle.task_table.specs.declared.answers.Check.TheVariants as answer
use Rattle.task_table.specs.declared.answers.Track.{Track}
use Rattle.task_table.specs.declared.answers.Track.TheVariants.{Cleared, Cancelled}
use Rattle.race_board.specs.Words.{number, parent, cancel}
use Rattle.race_board.specs.Keys.{parent_key, mark_in}
use Rattle.race_board.specs.Board.{hold, no_hold}
use Rattle.race_board.specs.Steps.{did, noted, with_hold, seeking, cleared_hold, kept_hold}
use Rattle.race_board.specs.Calls.{Saw, SawBan, SawNoBan}
use Rattle.race_board.specs.Events.{Event, passed, asked, worked}
use Rattle.race_board.specs.StepEvents.{of_end}
use Rattle.race_board.specs.Kinds.{ends}
use Rattle.race_board.specs.Walks.{Walks}
use Rattle.race_board.specs.declared.views.Size.{Size}
use Rattle.race_board.specs.declared.views.Hold.{Hold}
use Rattle.race_board.specs.declared.views.Progress.{Progress}
use Rattle.race_board.specs.declared.views.Progress.TheVariants as state
use Rattle.race_board.specs.declared.views.View.{View}

abbrev pub ticket_parent : TicketParts → ℕ
ticket_parent t = parent_key (token_parent t.token)

-- the ticket of the slot i has the state k now, and the seat took steps
abbrev pub Checked : View → View → ℕ → Progress → Type 0
Checked v w i k = w ≡ record v { steps = w.steps; held = slice_set v.held i (record (hold v i) { check = k }) }

-- a root is clear; a child is clear where each ban word was loaded and held no ban of its parent, and banned where a load saw one
abbrev pub Checks : View → View → TicketParts → Size → Check → Type 0
Checks v w t z answer.Clear = ((ticket_parent t ≡ 0) × (w ≡ v)) ⊎ ((i : ℕ) × ((hold v i).number ≡ t.id.number) × SawNoBan v w z.slots z.bans (ticket_parent t) × Checked v w i state.Clear)
Checks v w t z (answer.Banned c) = (ticket_parent t ≢ 0) × ((i : ℕ) × ((hold v i).number ≡ t.id.number) × SawBan v w z.slots (ticket_parent t) c × Checked v w i (state.Banned c))

-- a child passes its check where it is clear, and else nothing comes of it
abbrev pub check_events : TicketParts → Check → List Event
check_events t answer.Clear = cond (ticket_parent t == 0) [] (passed t.id.number ∷ [])
check_events t (answer.Banned c) = []

-- the ticket's check is clear
abbrev pub IsClear : View → ℕ → Type 0
IsClear v n = (i : ℕ) → (hold v i).number ≡ n → (hold v i).check ≡ state.Clear

-- who is told Clear may ask
abbrev pub MayAsk : View → ℕ → Check → Type 0
MayAsk w n answer.Clear = IsClear w n
MayAsk w n (answer.Banned c) = Unit {0}

abbrev pub BannedBy : (ℕ → Type 0) → Check → Type 0
BannedBy allowed answer.Clear = Unit {0}
BannedBy allowed (answer.Banned c) = allowed c

-- the ticket is gone, and the swap saw its word, with that mark
abbrev pub Ends : View → View → ℕ → Option ℕ → Type 0
Ends v w n m = (i : ℕ) × (seen : ℕ) × ((hold v i).number ≡ n) × (number seen ≡ n) × (parent seen ≡ (hold v i).parent) × (m ≡ mark_in seen) × (w ≡ noted (with_hold v i no_hold) (did (i + 1) seen 0))

-- the task that the ticket is of is refused where its check told of a ban, and ends else
abbrev pub EndsSo : View → View → ℕ → Type 0
EndsSo v w n = (i : ℕ) × ((hold v i).number ≡ n) × Walks ends v w (of_end (hold v i) (hold v i).check)

-- a task without a mark works
abbrev pub look_events : ℕ → Option ℕ → List Event
look_events n None = worked n ∷ []
look_events n (Some c) = []

-- one load saw the ticket's word, with that mark
abbrev pub Looks : View → View → ℕ → Option ℕ → Type 0
Looks v w n m = (i : ℕ) × (seen : ℕ) × ((hold v i).number ≡ n) × (number seen ≡ n) × (m ≡ mark_in seen) × (w ≡ noted v (did (i + 1) seen seen))

-- the ticket of the slot i is h now, and the seat took steps
abbrev pub Becomes : View → View → ℕ → Hold → Type 0
Becomes v w i h = w ≡ record v { steps = w.steps; held = slice_set v.held i h }

-- the bit was set before the ticket's word was seen; without a mark there the node is cleared
abbrev pub Tracks : View → View → ℕ → ℕ → Track → Type 0
Tracks v w n bit Cleared = (i : ℕ) × ((hold v i).number ≡ n) × Becomes v w i (cleared_hold (seeking (hold v i) bit)) × ((seen : ℕ) × Saw v w (i + 1) seen × (cancel seen ≡ 0))
Tracks v w n bit (Cancelled c) = (i : ℕ) × ((hold v i).number ≡ n) × Becomes v w i (seeking (hold v i) 0) × ((seen : ℕ) × Saw v w (i + 1) seen × (cancel seen ≡ c) × (c ≢ 0))

-- a task without a mark asks
abbrev pub track_events : ℕ → Track → List Event
track_events n Cleared = asked n ∷ []
track_events n (Cancelled c) = []

abbrev pub CancelledBy : (ℕ → Type 0) → Track → Type 0
CancelledBy allowed Cleared = Unit {0}
CancelledBy allowed (Cancelled c) = allowed c

-- all bits but that of the node
abbrev pub all_but : ℕ → ℕ
all_but node = 18446744073709551615 - 2 ^ node

-- the node is no longer cleared
abbrev pub Untracks : View → View → Size → ℕ → ℕ → Type 0
Untracks v w z n node = (i : ℕ) × (seen : ℕ) × ((hold v i).number ≡ n) × (w ≡ noted (with_hold v i (kept_hold (hold v i) (all_but node))) (did (z.slots + z.bans + i + 1) seen (bit_and seen (all_but node))))
