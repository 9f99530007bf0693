use Rattle.std.proofs.Common.{rules, ◌≡◌, ◌≢◌, ℕ, ◌<◌, subst}
use Rattle.race_board.specs.Board.{ban}
use Rattle.race_board.proofs.ControlSteps.{scans_turn}
use Rattle.race_board.proofs.board_words.BoardWords.scan_about.Goals as goal

pub load-requires : goal.load-requires
load-requires g c = let seat = c.args.seat.now in let self = c.args.self.now in let key : self.table.shared.key ≡ self.size = search rules in
    (search rules, search rules, scans_turn g.N.BoardName.allowed self.size self.table.shared.key key self.table.shared.table_id.slots seat.id seat.me c.requires.fits.2 c.requires.control.0 c.requires.fits.1 c.args.slot g.A.About.place c.requires.control.3 (subst (λ (k : ℕ). k < self.size.bans) c.requires.about c.requires.control.2) c.requires.control.1 (subst (λ (k : ℕ). (ban seat.me.0 k).parent ≢ 0) c.requires.about c.requires.here.0) (subst (λ (k : ℕ). (ban seat.me.0 k).next ≡ c.args.slot) c.requires.about c.requires.here.1) c.requires.here.2)
