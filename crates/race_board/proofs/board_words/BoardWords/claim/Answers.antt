use Rattle.std.proofs.Common.{rules, arith, ◌≡◌, ℕ, ◌+◌, ◌-◌, sym, ap, ◌∙◌}
use Rattle.race_board.specs.Board.{hold}
use Rattle.race_board.specs.Steps.{Sat, did, noted, took}
use Rattle.race_board.specs.declared.views.View.{View}
use Rattle.race_board.proofs.DataSteps.{claims_turn}
use Rattle.race_board.proofs.board_words.BoardWords.claim.Goals as goal

pub compare_exchange-requires : goal.compare_exchange-requires
compare_exchange-requires g c = let seat = c.args.seat.now in let self = c.args.self.now in let key : self.table.shared.key ≡ self.size = search rules in
    (search rules, search rules, claims_turn g.N.BoardName.allowed self.size self.table.shared.key key self.table.shared.table_id.slots seat.id seat.me c.requires.fits.2 c.requires.data.0 c.requires.fits.1 c.args.slot c.args.word c.requires.data.1 c.requires.data.2 c.requires.word.0 c.requires.word.1 c.requires.word.2)

pub returns-clause-takes : goal.returns-clause-takes
returns-clause-takes g c hit = let v : View = c.args.seat.now.me.0 in let i : ℕ = c.args.slot in let one : i + 1 - 1 ≡ i = omega arith in
    ap (λ (m : Sat). m.0) (c.compare_exchange.ensures.2.0.0 hit) ∙ ap (λ (k : ℕ). noted (took v k c.args.word) (did (i + 1) 0 c.args.word)) one

pub returns-clause-free : goal.returns-clause-free
returns-clause-free g c hit = let v : View = c.args.seat.now.me.0 in let i : ℕ = c.args.slot in let one : i + 1 - 1 ≡ i = omega arith in
    ap (λ (k : ℕ). (hold v k).number) (sym one) ∙ c.compare_exchange.ensures.2.0.3 hit
