-- The asks of a task in order, and those of them that have no answer yet.
use Rattle.std.specs.Prelude.{◌≡◌, ℕ, List, [], ◌∷◌, length, Bool, true, false, not, is_some, map, filter}
use Rattle.std.specs.List.{range_with_len}
use Rattle.task_events.specs.declared.step.Asked.{Asked}

-- the asks are numbered from 1
abbrev pub AreNumbered : List Asked → Type 0
AreNumbered asked = map (λ a. a.ask) asked ≡ range_with_len 1 (length asked)

-- the numbers of those that have no answer yet, in order
abbrev pub open_in : List Asked → List ℕ
open_in asked = map (λ a. a.ask) (filter (λ a. not (is_some a.answer)) asked)

-- no ask is left without an answer
abbrev pub is_settled : List ℕ → Bool
is_settled [] = true
is_settled (ask ∷ asks) = false
