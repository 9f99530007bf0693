-- A parent that had no ban gets one.
use Rattle.std.proofs.Common.{ap, ◌∙◌}
use Rattle.race_board.specs.Seats.{board_size, control_view}
use Rattle.race_board.specs.Keys.{task_key}
use Rattle.node_boards.proofs.RaceBans.{key_named, none_of, bans_put}
use Rattle.node_boards.proofs.race_control.RaceControlControlBoard.ban.Goals as goal

pub ban-requires-clause-new : goal.ban-requires-clause-new
ban-requires-clause-new g c = none_of (control_view c.args.self.now.seat) (board_size c.args.self.now.board.now) c.args.parent c.requires.new

pub returns-clause-put : goal.returns-clause-put
returns-clause-put g c = let s = c.args.self.now in
    bans_put (control_view s.seat) (control_view c.ban.new.seat) (board_size s.board.now) (task_key c.args.parent) c.args.cancel c.ban.result (key_named c.args.parent) (s.seat.sized.1 ∙ ap (λ z. z.bans) s.fits.1) c.ban.ensures.put
