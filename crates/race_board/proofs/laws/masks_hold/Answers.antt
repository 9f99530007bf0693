use Rattle.std.proofs.Common.{arith}
use Rattle.race_board.proofs.Own.{cleared_in}
use Rattle.race_board.proofs.laws.masks_hold.Goals as goal

pub returns : goal.returns
returns c = record { cleared = λ z v n nodes s lead has at. cleared_in z v s at (λ e. absurd (omega arith)) n nodes has }
