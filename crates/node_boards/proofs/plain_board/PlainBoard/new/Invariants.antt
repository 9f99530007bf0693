-- As many new seats were made as were counted.
use Rattle.std.proofs.Common.{◌≡◌, length, All}
use Rattle.node_boards.specs.PlainNew.{IsNewData}
use Rattle.node_boards.proofs.plain_board.PlainBoard.new.Given as goal

abbrev pub invariant-loop : goal.invariant-loop
invariant-loop g l = (length l.seats.items ≡ l.counter) × All IsNewData l.seats.items
