-- The steps of a call, one after the other.
use Rattle.std.specs.Prelude.{◌≡◌, ℕ, zero, suc, List, [], ◌∷◌, ◌++◌}
use Rattle.race_board.specs.Events.{Event}
use Rattle.race_board.specs.Kinds.{Kind, IsStep}
use Rattle.race_board.specs.Turn.{Turn}
use Rattle.race_board.specs.declared.views.Did.{Did}
use Rattle.race_board.specs.declared.views.View.{View}

-- One step of a seat from the view v to w, which the seat noted: it found what it says, and took the board from one moment to the next. The board stays the same size
pub record Stride (v w : View) : Type 0 where
  pub step : Did
  pub left : ℕ
  pub events : List Event
  pub size : w.size ≡ v.size
  pub noted : w.steps ≡ v.steps ++ step ∷ []
  pub turn : Turn v.size v w step.word step.seen left events

-- so many steps of such a call, with these events
abbrev pub Walk : Kind → ℕ → View → View → List Event → Type 0
Walk kind zero v w es = (v ≡ w) × (es ≡ [])
Walk kind (suc n) v w es = (u : View) × (earlier : List Event) × Walk kind n v u earlier × ((s : Stride u w) × IsStep kind u s.step.word s.step.seen s.left s.events × (es ≡ earlier ++ s.events))

-- a seat comes from the view v to w by steps of such a call alone, at each of which the board is at a moment where all that is promised holds, and these are their events in order
abbrev pub Walks : Kind → View → View → List Event → Type 0
Walks kind v w es = (n : ℕ) × Walk kind n v w es

-- a step after the view v found this value in this word, and the board was at the moments of that step
pub record Found (v : View) (word seen : ℕ) : Type 0 where
  pub before : View
  pub after : View
  pub stride : Stride before after
  pub at : stride.step.word ≡ word
  pub value : stride.step.seen ≡ seen
  pub size : before.size ≡ v.size
