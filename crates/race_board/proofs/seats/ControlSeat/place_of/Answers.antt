use Rattle.std.proofs.Common.{arith, ◌≡◌, ℕ, ◌<◌, length, slice_index, sym, ap, ◌∙◌}
use Rattle.std.proofs.lemmas.Grind.{get_or_default_zero}
use mathlib.Core.Logic.{dite}
use native.Mathlib.Decide.{ℕ_discrete}
use Rattle.race_board.specs.Words.{banned}
use Rattle.race_board.specs.Board.{ban}
use Rattle.race_board.proofs.Parts.{banned_ban}
use Rattle.race_board.proofs.seats.ControlSeat.place_of.Goals as goal

pub returns-then-banned_of-key-clause-found : goal.returns-then-banned_of-key-clause-found
returns-then-banned_of-key-clause-found g c = let seat = c.args.self.now in let j : ℕ = c.loop-place.place in let near : j < length seat.bans.items = (let a = c.loop-place-test.true in let b = c.len-place-end.ensures in omega arith) in
    let word : slice_index seat.bans.items j ≡ c.index.result.now = sym (get_or_default_zero seat.bans.items j c.index.result.now near) ∙ sym c.index.ensures in let stands = seat.standing j in
    (near, sym (banned_ban (ban seat.place.me.0 j).parent (ban seat.place.me.0 j).cancel stands.1) ∙ (ap banned (sym stands.0 ∙ word) ∙ (sym c.banned_of.ensures ∙ c.if-banned_of-key.true)))

pub loop-place-preserved : goal.loop-place-preserved
loop-place-preserved g c = let seat = c.args.self.now in let i : ℕ = c.loop-place.place in let near : i < length seat.bans.items = (let a = c.loop-place-test.true in let b = c.len-place-end.ensures in omega arith) in
    let word : slice_index seat.bans.items i ≡ c.index.result.now = sym (get_or_default_zero seat.bans.items i c.index.result.now near) ∙ sym c.index.ensures in let stands = seat.standing i in
    let parent_is : banned c.index.result.now ≡ (ban seat.place.me.0 i).parent = ap banned (sym word ∙ stands.0) ∙ banned_ban (ban seat.place.me.0 i).parent (ban seat.place.me.0 i).cancel stands.1 in
    λ j l. dite (ℕ_discrete j i) (λ e. λ f. c.if-banned_of-key.false (c.banned_of.ensures ∙ (parent_is ∙ (ap (λ (k : ℕ). (ban seat.place.me.0 k).parent) (sym e) ∙ f)))) (λ e. c.loop-place.invariant j (omega arith))
