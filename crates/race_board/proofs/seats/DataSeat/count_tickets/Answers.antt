use Rattle.std.proofs.Common.{arith, ◌≡◌, ℕ, ◌<◌, List, length, slice_index, sym, ap, ◌∙◌}
use Rattle.std.proofs.lemmas.Grind.{get_or_default_zero}
use Rattle.race_board.specs.Words.{number}
use Rattle.race_board.specs.Board.{hold}
use Rattle.race_board.specs.declared.views.Hold.{Hold}
use Rattle.race_board.proofs.Counts.{ticket_more, ticket_none}
use Rattle.race_board.proofs.seats.DataSeat.count_tickets.Goals.{then-number_of-ne0, else-number_of-ne0}
use Rattle.race_board.proofs.seats.DataSeat.count_tickets.Goals as goal

pub loop-slot-preserved : goal.loop-slot-preserved
loop-slot-preserved g c = let seat = c.args.self.now in let hs : List Hold = seat.place.me.0.held in let i : ℕ = c.loop-slot.slot in let near : i < length seat.words.items = (let a = c.loop-slot-test.true in let b = c.len-slot-end.ensures in omega arith) in let inv = c.loop-slot.invariant in
    let inside : i < length hs = (let a = seat.sized in omega arith) in
    let word : slice_index seat.words.items i ≡ c.index.result.now = sym (get_or_default_zero seat.words.items i c.index.result.now near) ∙ sym c.index.ensures in
    let is : c.number_of.result ≡ (hold seat.place.me.0 i).number = c.number_of.ensures.number ∙ (ap number (sym word) ∙ (seat.tickets i).0) in
    elim c.if-number_of-ne0.branch [
      | then-number_of-ne0 w ↦ (let a = ticket_more hs i inside (λ e. w.if-number_of-ne0.true (is ∙ e)) in let b = inv.count in let d = inv.few in let e = w.count-is in record { count = omega arith; few = omega arith })
      | else-number_of-ne0 w ↦ (let a = ticket_none hs i inside (sym is ∙ w.if-number_of-ne0.false) in let b = inv.count in let d = inv.few in let e = w.count-is in record { count = omega arith; few = omega arith })
    ]
