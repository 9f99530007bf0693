use Rattle.std.proofs.Common.{arith, ◌≡◌, ℕ, ◌<◌, List, length, slice_index, sym, ap, ◌∙◌}
use Rattle.std.proofs.lemmas.Grind.{get_or_default_zero}
use mathlib.Core.Logic.{dite}
use native.Mathlib.Decide.{ℕ_discrete}
use Rattle.race_board.proofs.seats.ControlSeat.slot_marked.Goals as goal

pub returns-then-index-number-clause-found : goal.returns-then-index-number-clause-found
returns-then-index-number-clause-found g c = let seat = c.args.self.now in let j : ℕ = c.loop-slot.slot in let near : j < length seat.marked.items = (let a = c.loop-slot-test.true in let b = c.len-slot-end.ensures in omega arith) in
    let word : slice_index seat.marked.items j ≡ c.index.result.now = sym (get_or_default_zero seat.marked.items j c.index.result.now near) ∙ sym c.index.ensures in
    (near, ap (λ (l : List ℕ). slice_index l j) (sym seat.latest.1) ∙ (word ∙ c.if-index-number.true))

pub loop-slot-preserved : goal.loop-slot-preserved
loop-slot-preserved g c = let seat = c.args.self.now in let i : ℕ = c.loop-slot.slot in let near : i < length seat.marked.items = (let a = c.loop-slot-test.true in let b = c.len-slot-end.ensures in omega arith) in
    let word : slice_index seat.marked.items i ≡ c.index.result.now = sym (get_or_default_zero seat.marked.items i c.index.result.now near) ∙ sym c.index.ensures in
    λ j l. dite (ℕ_discrete j i) (λ e. λ f. c.if-index-number.false (sym word ∙ (ap (λ (q : List ℕ). slice_index q i) seat.latest.1 ∙ (ap (slice_index seat.place.me.0.last) (sym e) ∙ f)))) (λ e. c.loop-slot.invariant j (omega arith))
