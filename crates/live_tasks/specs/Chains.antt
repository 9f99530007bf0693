-- Calls on a board, one after another.
use Rattle.std.specs.Prelude.{◌≡◌, List, [], ◌∷◌}
use Rattle.node_boards.specs.Calls.{DataCall}

-- the seat goes from one state to another by these calls, in order
abbrev pub Chain : {B : Type 0} → (B → B → DataCall → Type 0) → B → List DataCall → B → Type 0
Chain rests from [] to = to ≡ from
Chain {B = B} rests from (call ∷ calls) to = (mid : B) × rests from mid call × Chain rests mid calls to
