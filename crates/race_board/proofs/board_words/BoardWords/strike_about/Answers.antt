use Rattle.std.proofs.Common.{rules, ◌≡◌, ap, ◌∙◌}
use Rattle.race_board.specs.Words.{with_mark}
use Rattle.race_board.proofs.ControlSteps.{strikes_turn}
use Rattle.race_board.proofs.board_words.BoardWords.strike_about.Goals as goal

pub compare_exchange-requires : goal.compare_exchange-requires
compare_exchange-requires g c = let seat = c.args.seat.now in let self = c.args.self.now in let key : self.table.shared.key ≡ self.size = search rules in
    (search rules, search rules, strikes_turn g.N.BoardName.allowed self.size self.table.shared.key key self.table.shared.table_id.slots seat.id seat.me c.requires.fits.2 c.requires.control.0 c.requires.fits.1 g.A.About.place c.args.slot c.args.old c.args.mark c.mark_of-marked.result (c.mark_of-marked.ensures ∙ ap (with_mark c.args.old) c.from.ensures) c.requires.control.1 c.requires.word.0 c.requires.word.1 c.requires.mark.0 c.requires.allowed c.requires.about c.requires.control.2)
