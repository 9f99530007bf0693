use Rattle.std.proofs.Common.{◌≡◌, ℕ, take}
use Rattle.world_moves.specs.Acts.{offered_in, left_after}
use Rattle.world_moves.specs.Left.{left_in}
use Rattle.world_moves.proofs.performing.count_down.Given as goal

abbrev pub invariant-loop-act : goal.invariant-loop-act
invariant-loop-act l = record { counted : (c : ℕ) → left_in l.left c ≡ left_after (offered_in (take l.act-index l.acts)) (left_in l.initial.left) c }
