-- A ban was taken away exactly where there was one.
use Rattle.std.proofs.Common.{ap, ◌∙◌}
use Rattle.race_board.specs.Seats.{board_size, control_view}
use Rattle.race_board.specs.Keys.{task_key}
use Rattle.node_boards.proofs.RaceBans.{key_named, unbans_had}
use Rattle.node_boards.proofs.race_control.RaceControlControlBoard.unban.Goals as goal

pub returns-clause-had : goal.returns-clause-had
returns-clause-had g c = let s = c.args.self.now in
    unbans_had (control_view s.seat) (control_view c.unban.new.seat) (board_size s.board.now) (task_key c.args.parent) c.unban.result (key_named c.args.parent) (s.seat.sized.1 ∙ ap (λ z. z.bans) s.fits.1) c.unban.ensures.gone
