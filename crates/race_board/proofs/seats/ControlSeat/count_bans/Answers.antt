use Rattle.std.proofs.Common.{arith, ◌≡◌, ℕ, ◌<◌, List, length, slice_index, sym, ap, ◌∙◌}
use Rattle.std.proofs.lemmas.Grind.{get_or_default_zero}
use Rattle.race_board.specs.Words.{banned}
use Rattle.race_board.specs.Board.{ban}
use Rattle.race_board.specs.declared.views.Ban.{Ban}
use Rattle.race_board.proofs.Parts.{banned_ban}
use Rattle.race_board.proofs.Counts.{ban_more, ban_none_more}
use Rattle.race_board.proofs.seats.ControlSeat.count_bans.Goals.{then-banned_of-ne0, else-banned_of-ne0}
use Rattle.race_board.proofs.seats.ControlSeat.count_bans.Goals as goal

pub loop-place-preserved : goal.loop-place-preserved
loop-place-preserved g c = let seat = c.args.self.now in let bs : List Ban = seat.place.me.0.bans in let j : ℕ = c.loop-place.place in let near : j < length seat.bans.items = (let a = c.loop-place-test.true in let b = c.len-place-end.ensures in omega arith) in let inv = c.loop-place.invariant in
    let inside : j < length bs = (let a = seat.sized in omega arith) in let stands = seat.standing j in
    let word : slice_index seat.bans.items j ≡ c.index.result.now = sym (get_or_default_zero seat.bans.items j c.index.result.now near) ∙ sym c.index.ensures in
    let is : c.banned_of.result ≡ (ban seat.place.me.0 j).parent = c.banned_of.ensures ∙ (ap banned (sym word ∙ stands.0) ∙ banned_ban (ban seat.place.me.0 j).parent (ban seat.place.me.0 j).cancel stands.1) in
    elim c.if-banned_of-ne0.branch [
      | then-banned_of-ne0 w ↦ (let a = ban_more bs j inside (λ e. w.if-banned_of-ne0.true (is ∙ e)) in let b = inv.count in let d = inv.few in let e = w.count-is in record { count = omega arith; few = omega arith })
      | else-banned_of-ne0 w ↦ (let a = ban_none_more bs j inside (sym is ∙ w.if-banned_of-ne0.false) in let b = inv.count in let d = inv.few in let e = w.count-is in record { count = omega arith; few = omega arith })
    ]
