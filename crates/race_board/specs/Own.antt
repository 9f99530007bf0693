-- What the control seat knows of the moments at which it has its view.
use Rattle.std.specs.Prelude.{◌≡◌, ◌≢◌, ℕ, ◌<◌, ◌⊎◌}
use Rattle.std.specs.Int.{bit_at}
use Rattle.race_board.specs.Words.{number, parent, cancel}
use Rattle.race_board.specs.Board.{hold, ban, task, Behind}
use Rattle.race_board.specs.Theorem.{Moment, Sits, Holds}
use Rattle.race_board.specs.Walks.{Stride}
use Rattle.race_board.specs.declared.views.Size.{Size}
use Rattle.race_board.specs.declared.views.View.{View}

-- the moment s of a board, at which a seat has the view v
pub record IsAt (z : Size) (v : View) (s : Moment) : Type 0 where
  pub seat : ℕ
  pub sits : Sits s seat v
  pub holds : Holds z s

-- the ban at the place j stands, its scan has passed each slot, and no mark is still to come
abbrev pub IsListed : Size → View → ℕ → Type 0
IsListed z v j = (j < z.bans) × ((ban v j).parent ≢ 0) × ((ban v j).next ≡ z.slots) × (v.about ≡ 0)

-- the check of the task in the slot i has not come to the ban at the place j yet, or has told of a ban
abbrev pub WillBeTold : Moment → ℕ → ℕ → Type 0
WillBeTold s i j = (k : ℕ) × (u : View) × Sits s k u × ((hold u i).number ≡ number (task s.words i)) × Behind j (hold u i).check

-- each live child of the ban's parent is marked, or will be told Banned
abbrev pub StopsAll : Size → Moment → View → ℕ → Type 0
StopsAll z s v j = (i : ℕ) → i < z.slots → parent (task s.words i) ≡ (ban v j).parent → (cancel (task s.words i) ≢ 0) ⊎ WillBeTold s i j

-- at each moment at which a seat has this view
abbrev pub Stops : Size → View → ℕ → Type 0
Stops z v j = (s : Moment) → IsAt z v s → StopsAll z s v j

-- each node for which a ticket of that number is cleared is one of these
abbrev pub HasCleared : ℕ → ℕ → Moment → Type 0
HasCleared n nodes s = (k i x : ℕ) (u : View) → Sits s k u → (hold u i).number ≢ 0 → (hold u i).number ≡ n → bit_at (hold u i).cleared x ≡ 1 → bit_at nodes x ≡ 1

-- at the end of a call that came from v to w: after its last step, or, where it took none, at each moment at which a seat has this view
abbrev pub AtTheEnd : Size → View → View → (Moment → Type 0) → Type 0
AtTheEnd z v w Fact = ((u : View) × ((s : Stride u w) × IsAt z w s.turn.after × Fact s.turn.after)) ⊎ ((w ≡ v) × ((s : Moment) → IsAt z w s → Fact s))
