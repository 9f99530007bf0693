-- The seat keeps the number that it marked.
use Rattle.std.proofs.Common.{subst}
use Rattle.task_table.specs.declared.ended.MarkAnswer.{MarkAnswer}
use Rattle.node_boards.specs.Plain.{Marks}
use Rattle.node_boards.proofs.Marking.{marked_now}
use Rattle.node_boards.proofs.plain_control_board.PlainControlControlBoard.mark.Goals as goal

pub returns-clause-known : goal.returns-clause-known
returns-clause-known g c = λ is. let marks = c.mark.ensures.marks in marked_now _ _ _ _ _ _ (rw is at marks)
