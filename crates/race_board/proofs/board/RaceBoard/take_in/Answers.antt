use Rattle.std.proofs.Common.{rules}
use Rattle.race_board.proofs.Joined.{joins}
use Rattle.race_board.proofs.board.RaceBoard.take_in.Goals as goal

pub join_seat-requires : goal.join_seat-requires
join_seat-requires g c = let seat = c.args.seat in let place = c.args.place.now in
    (search rules, search rules, search rules, search rules, λ s rule there apart at_other. (joins c.args.self.now.words.table.shared.key place.id place.me.0 seat.place.id seat.place.me.0 c.requires.fits.1 seat.present s rule.0 there apart at_other, rule.1))
