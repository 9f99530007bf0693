use Rattle.std.proofs.Common.{rules, arith, ◌≡◌, ◌+◌, ◌*◌}
use Rattle.race_board.proofs.DataSteps.{untracks_turn}
use Rattle.race_board.proofs.board_words.BoardWords.keep_bits.Goals as goal

pub fetch_and-requires : goal.fetch_and-requires
fetch_and-requires g c = let seat = c.args.seat.now in let self = c.args.self.now in let key : self.table.shared.key ≡ self.size = search rules in let words : self.table.shared.table_id.words ≡ 2 * self.size.slots + self.size.bans + 1 = search rules in let inside = c.requires.data.2 in
    (search rules, omega arith, untracks_turn g.N.BoardName.allowed self.size self.table.shared.key key self.table.shared.table_id.slots seat.id seat.me c.requires.fits.2 c.requires.data.0 c.requires.fits.1 c.args.slot c.args.bits c.requires.data.1 c.requires.ticket)
