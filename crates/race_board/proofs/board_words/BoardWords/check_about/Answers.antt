use Rattle.std.proofs.Common.{rules, ◌≡◌, ◌≢◌, ℕ, ◌⊎◌, sym, subst}
use Rattle.race_board.specs.Board.{hold}
use Rattle.race_board.specs.declared.views.Progress.TheVariants.{Next}
use Rattle.race_board.proofs.DataSteps.{checks_turn}
use Rattle.race_board.proofs.board_words.BoardWords.check_about.Goals as goal

pub load-requires : goal.load-requires
load-requires g c = let seat = c.args.seat.now in let self = c.args.self.now in let key : self.table.shared.key ≡ self.size = search rules in let slot : g.A.About.slot ≡ c.args.slot = sym c.requires.about in (
  search rules,
  search rules,
  checks_turn g.N.BoardName.allowed self.size self.table.shared.key key self.table.shared.table_id.slots seat.id seat.me c.requires.fits.2 c.requires.data.0 c.requires.fits.1 g.A.About.slot c.args.place c.requires.data.1
      (subst (λ (k : ℕ). (hold seat.me.0 k).number ≢ 0) (sym slot) c.requires.ticket.0) (subst (λ (k : ℕ). (c.args.place ≡ 0) ⊎ ((hold seat.me.0 k).check ≡ Next c.args.place)) (sym slot) c.requires.ticket.1) c.requires.data.2,
)
