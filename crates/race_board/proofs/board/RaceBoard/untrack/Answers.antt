use Rattle.race_board.proofs.Walking.{walk_one, stride, tale}
use Rattle.std.proofs.Common.{arith, ◌≡◌, ℕ, ◌+◌, ◌-◌, ◌<◌, [], refl, bit_and, ap, subst}
use Rattle.race_board.specs.Checks.{all_but}
use Rattle.race_board.specs.Kinds.{untracks}
use Rattle.race_board.specs.Walks.{Walks}
use Rattle.race_board.proofs.Doing.{on_mask}
use Rattle.race_board.specs.declared.views.Size.{Size}
use Rattle.race_board.specs.declared.views.View.{View}
use Rattle.race_board.proofs.board.RaceBoard.untrack.Goals as goal

pub returns-clause-moments : goal.returns-clause-moments
returns-clause-moments g c = let v : View = c.args.seat.now.place.me.0 in let w : View = c.keep_bits.new.seat.me.0 in let z : Size = c.args.self.now.words.size in let n : ℕ = c.keep_bits.result in
    let i : ℕ = c.slot_of-slot.result in let bits : ℕ = 18446744073709551615 - c.node_bit-kept.result in let same : bits ≡ all_but c.args.to = ap (λ (q : ℕ). 18446744073709551615 - q) c.node_bit-kept.ensures.bit in
    let low : i < z.slots = (let a = c.slot_of-slot.ensures.0 in let b = c.args.seat.now.sized.0 in let d = ap (λ (q : Size). q.slots) c.requires.fits.1 in omega arith) in
    subst (λ (q : ℕ). Walks (untracks q) v w []) same (walk_one (untracks bits) v w [] (stride (untracks bits) v w (z.slots + z.bans + i + 1) n (bit_and n bits) _ _ [] (ap tale c.keep_bits.ensures.keeps) c.keep_bits.ensures.turn (i, on_mask v z i c.requires.fits.1 low, refl, refl) refl))
