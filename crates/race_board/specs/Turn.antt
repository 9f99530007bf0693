-- One step, between two moments of a board.
use Rattle.std.specs.Prelude.{◌≡◌, ◌≢◌, ℕ, ◌+◌, ◌<◌, List, slice_index, slice_set}
use Rattle.atomic_table.specs.Table.{State}
use Rattle.race_board.specs.Words.{cancel, by}
use Rattle.race_board.specs.Board.{task, mask, BoardOk}
use Rattle.race_board.specs.Steps.{At, Sat}
use Rattle.race_board.specs.Events.{Event, Follows}
use Rattle.race_board.specs.Theorem.{Moment, Sits, Holds}
use Rattle.race_board.specs.declared.views.Size.{Size}
use Rattle.race_board.specs.declared.views.View.{View}

-- A seat's step on a word takes the board from one moment to the next. All that is promised of moments holds of both, no other view and no other word changes, and between them lie these events
pub record Turn (z : Size) (v w : View) (word found left : ℕ) (es : List Event) : Type 0 where
  pub before : Moment
  pub after : Moment
  pub seat : ℕ
  pub sits : Sits before seat v
  pub finds : slice_index before.words word ≡ found
  pub leaves : after.words ≡ slice_set before.words word left
  pub views : after.views ≡ slice_set before.views seat w
  pub sits_after : Sits after seat w
  pub holds : Holds z before
  pub holds_after : Holds z after
  pub follows : Follows z before.words after.words es

abbrev pub Turned : At → Sat → Sat → ℕ → ℕ → List Event → Type 0
Turned st m m' found left es = Turn m.0.size m.0 m'.0 st.word found left es

module _ (allowed : ℕ → Type 0) (z : Size) where
  -- each mark and each ban has a number that the board's name allows, and a mask has bits for nodes alone, of which the greatest is 15
  pub record Named (ws : List ℕ) : Type 0 where
    pub marks : (i : ℕ) → i < z.slots → cancel (task ws i) ≢ 0 → allowed (cancel (task ws i))
    pub bans : (j : ℕ) → j < z.bans → slice_index ws (z.slots + j + 1) ≢ 0 → allowed (by (slice_index ws (z.slots + j + 1))) × (by (slice_index ws (z.slots + j + 1)) < 65536)
    pub masks : (i : ℕ) → i < z.slots → mask z ws i < 65536

  abbrev pub Rule : State (Unit {0}) View → Type 0
  Rule s = BoardOk z s × Named s.words

-- a mark, or a ban's number, that was found
abbrev pub MayMark : (ℕ → Type 0) → ℕ → Type 0
MayMark allowed n = cancel n ≢ 0 → allowed (cancel n)

abbrev pub MayBan : (ℕ → Type 0) → ℕ → Type 0
MayBan allowed n = n ≢ 0 → allowed (by n) × (by n < 65536)
