use Rattle.std.proofs.Common.{arith}
use Rattle.race_board.proofs.Own.{stops_all}
use Rattle.race_board.proofs.laws.children_stop.Goals as goal

pub returns : goal.returns
returns c = record { stops = λ z v j s lead listed at. stops_all z v s at (λ e. absurd (omega arith)) j listed }
