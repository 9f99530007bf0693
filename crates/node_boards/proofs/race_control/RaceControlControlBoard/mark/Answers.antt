-- No other task is marked but those that were before.
use Rattle.race_board.specs.Seats.{board_size, control_view}
use Rattle.node_boards.proofs.RaceMarks.{marks_only}
use Rattle.node_boards.proofs.race_control.RaceControlControlBoard.mark.Goals as goal

pub returns-clause-marks : goal.returns-clause-marks
returns-clause-marks g c = let s = c.args.self.now in
    marks_only (control_view s.seat) (control_view c.mark.new.seat) (board_size s.board.now) c.args.number c.args.cancel c.mark.result c.mark.ensures.marks
