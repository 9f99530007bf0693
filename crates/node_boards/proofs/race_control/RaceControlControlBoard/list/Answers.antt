-- The numbers that are handed over are marked, and no others but those that were before.
use Rattle.std.proofs.Common.{take}
use Rattle.race_board.specs.Seats.{board_size, control_view}
use Rattle.node_boards.proofs.RaceMarks.{listed_known, listed_only}
use Rattle.node_boards.proofs.race_control.RaceControlControlBoard.list.Goals as goal

pub returns-clause-handed : goal.returns-clause-handed
returns-clause-handed g c = let s = c.args.self.now in listed_known (control_view s.seat) (control_view c.list.new.seat) c.args.place (board_size s.board.now).slots (take c.list.result c.list.new.found) c.list.ensures.listed

pub returns-clause-marks : goal.returns-clause-marks
returns-clause-marks g c = let s = c.args.self.now in listed_only (control_view s.seat) (control_view c.list.new.seat) c.args.place (board_size s.board.now).slots (take c.list.result c.list.new.found) c.list.ensures.listed
