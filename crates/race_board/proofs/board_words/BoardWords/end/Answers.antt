use Rattle.std.proofs.Common.{rules, ◌≡◌}
use Rattle.race_board.proofs.DataSteps.{ends_turn}
use Rattle.race_board.proofs.board_words.BoardWords.end.Goals as goal

pub swap-requires : goal.swap-requires
swap-requires g c = let seat = c.args.seat.now in let self = c.args.self.now in let key : self.table.shared.key ≡ self.size = search rules in
    (search rules, search rules, ends_turn g.N.BoardName.allowed self.size self.table.shared.key key self.table.shared.table_id.slots seat.id seat.me c.requires.fits.2 c.requires.data.0 c.requires.fits.1 c.args.slot c.requires.data.1 c.requires.data.2 c.requires.ticket)
