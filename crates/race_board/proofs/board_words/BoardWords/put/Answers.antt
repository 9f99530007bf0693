use Rattle.std.proofs.Common.{rules, ◌≡◌}
use Rattle.race_board.proofs.ControlSteps.{puts_turn}
use Rattle.race_board.proofs.board_words.BoardWords.put.Goals as goal

pub compare_exchange-requires : goal.compare_exchange-requires
compare_exchange-requires g c = let seat = c.args.seat.now in let self = c.args.self.now in let key : self.table.shared.key ≡ self.size = search rules in
    (search rules, search rules, puts_turn g.N.BoardName.allowed self.size self.table.shared.key key self.table.shared.table_id.slots seat.id seat.me c.requires.fits.2 c.requires.control.0 c.requires.fits.1 c.args.place c.args.word c.requires.control.2 c.requires.control.1 c.requires.word.0 (c.requires.word.1, c.requires.word.2))
