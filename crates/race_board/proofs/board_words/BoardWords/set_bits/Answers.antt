use Rattle.std.proofs.Common.{rules, arith, ◌≡◌, ◌+◌, ◌*◌}
use Rattle.race_board.proofs.DataSteps.{tracks_turn}
use Rattle.race_board.proofs.board_words.BoardWords.set_bits.Goals as goal

pub fetch_or-requires : goal.fetch_or-requires
fetch_or-requires g c = let seat = c.args.seat.now in let self = c.args.self.now in let key : self.table.shared.key ≡ self.size = search rules in let words : self.table.shared.table_id.words ≡ 2 * self.size.slots + self.size.bans + 1 = search rules in let inside = c.requires.data.2 in
    (search rules, omega arith, tracks_turn g.N.BoardName.allowed self.size self.table.shared.key key self.table.shared.table_id.slots seat.id seat.me c.requires.fits.2 c.requires.data.0 c.requires.fits.1 c.args.slot c.args.bits c.requires.data.1 c.requires.ticket.0 c.requires.ticket.1 c.requires.nodes)
