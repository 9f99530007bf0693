-- What stands before the count is among what was handed over.
use Rattle.std.proofs.Common.{◌≡◌, ℕ, ◌<◌, ◌≤◌, List, take, Contains, get_or, length, subst}
use Rattle.std.proofs.lemmas.List.{get_or-take, length-take-le}
use Rattle.std.proofs.lemmas.List.Elements.{Contains-get_or}
use Rattle.board_races.proofs.control.cancel.Goals as goal

among : (n k : ℕ) (xs : List ℕ) → n ≤ length xs → k < n → Contains (take n xs) (get_or xs k 0)
among n k xs within below =
    subst (λ (x : ℕ). Contains (take n xs) x) (get_or-take n xs k 0 below)
    (Contains-get_or (take n xs) k 0 (subst (λ (m : ℕ). k < m) (Rattle.std.proofs.Common.sym (length-take-le n xs within)) below))

pub take_masks-requires-clause-marked : goal.take_masks-requires-clause-marked
take_masks-requires-clause-marked g c = λ k below. c.list-count.ensures.handed _ (among c.list-count.result k c.list-count.new.found c.list-count.ensures.found.1 below)
