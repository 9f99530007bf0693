-- The events of each kind of step.
use Rattle.std.specs.Prelude.{ℕ, zero, suc, ◌==◌, ◌&&◌, cond, List, [], ◌∷◌}
use Rattle.race_board.specs.Words.{number, parent, cancel, banned, by}
use Rattle.race_board.specs.Board.{ban}
use Rattle.race_board.specs.Events.{Event, put, passed, refused, ended, asked, worked, marked, ban_put, listed, ban_gone}
use Rattle.race_board.specs.declared.views.Progress.{Progress}
use Rattle.race_board.specs.declared.views.Progress.TheVariants.{Next, Clear, Banned}
use Rattle.race_board.specs.declared.views.Hold.{Hold}
use Rattle.race_board.specs.declared.views.View.{View}

-- a claim that finds the word n takes it with the word y where it is free
abbrev pub of_claim : ℕ → ℕ → List Event
of_claim n y = cond (n == 0) (put (number y) (parent y) ∷ []) []

-- the check of a child's ticket passes with its last load
abbrev pub of_check : Hold → ℕ → ℕ → ℕ → List Event
of_check h word last n = cond (banned n == h.parent) [] (cond (word == last) (passed h.number ∷ []) [])

abbrev pub of_end : Hold → Progress → List Event
of_end h (Banned c) = refused h.number c ∷ []
of_end h Clear = ended h.number ∷ []
of_end h (Next j) = ended h.number ∷ []

abbrev pub of_ban : ℕ → ℕ → ℕ → List Event
of_ban j n y = cond (n == 0) (ban_put j (banned y) (by y) ∷ []) []

-- the scan of the ban at the place j is done with its last slot, unless a mark follows
abbrev pub of_scan : View → ℕ → ℕ → ℕ → List Event
of_scan v j word n = cond (parent n == (ban v j).parent && (cancel n == 0)) [] (cond (word == v.size.slots) (listed j ∷ []) [])

-- a place, from 1, whose list is done with a mark, or 0
abbrev pub closing : ℕ → List Event
closing zero = []
closing (suc j) = listed j ∷ []

-- the word n is marked where it is still the one that was loaded
abbrev pub of_mark : ℕ → ℕ → ℕ → ℕ → List Event
of_mark done n old new = cond (n == old) (marked (number n) (cancel new) ∷ closing done) (closing done)

abbrev pub of_track_look : Hold → ℕ → List Event
of_track_look h n = cond (cancel n == 0) (asked h.number ∷ []) []

abbrev pub of_look : Hold → ℕ → List Event
of_look h n = cond (cancel n == 0) (worked h.number ∷ []) []

abbrev pub of_unban : ℕ → List Event
of_unban j = ban_gone j ∷ []
