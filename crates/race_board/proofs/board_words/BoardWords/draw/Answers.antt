use Rattle.std.proofs.Common.{rules, ◌≡◌}
use Rattle.race_board.proofs.DataSteps.{draws_turn}
use Rattle.race_board.proofs.board_words.BoardWords.draw.Goals as goal

pub fetch_add-requires : goal.fetch_add-requires
fetch_add-requires g c = let seat = c.args.seat.now in let self = c.args.self.now in let key : self.table.shared.key ≡ self.size = search rules in
    (search rules, search rules, draws_turn g.N.BoardName.allowed self.size self.table.shared.key key self.table.shared.table_id.slots seat.id seat.me c.requires.fits.2 c.requires.data.0 c.requires.fits.1 c.requires.data.1 c.requires.data.2)
