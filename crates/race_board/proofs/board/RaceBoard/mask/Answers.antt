use Rattle.std.proofs.Common.{arith, ℕ, ◌<◌, refl, ap, inl, inr}
use Rattle.race_board.specs.declared.views.Size.{Size}
use Rattle.race_board.specs.declared.views.View.{View}
use Rattle.race_board.proofs.Masked.{masks_then, two_loads, mask_covers, mask_of_none}
use Rattle.race_board.proofs.Own.{nowhere}
use Rattle.race_board.proofs.board.RaceBoard.mask.Goals as goal

pub returns-then-is_word_of-clause-mask : goal.returns-then-is_word_of-clause-mask
returns-then-is_word_of-clause-mask g c = let seat = c.args.seat.now in let v : View = seat.place.me.0 in let u : View = c.load_mask-mask.new.seat.me.0 in let w : View = c.load_masked-seen.new.seat.me.0 in let i : ℕ = c.in-Some.slot in let m : ℕ = c.load_mask-mask.result in let n : ℕ = c.load_masked-seen.result in
    let low : i < c.args.self.now.words.size.slots = (let a = c.in-Some.ensures.found.0 in let b = seat.latest.0 in let d = ap (λ (z : Size). z.slots) c.requires.fits.1 in omega arith) in
    inl (i, low, masks_then v u w c.args.self.now.words.size c.args.number m i m n c.in-Some.ensures.found.1 seat.idle.2 c.requires.marked c.load_mask-mask.ensures.half c.load_masked-seen.ensures.whole c.load_masked-seen.ensures.none c.load_masked-seen.ensures.marked (λ _ _. refl) (λ f. let t = c.if-is_word_of.ensures in absurd (f t.0 t.1)))

pub returns-else-is_word_of-clause-mask : goal.returns-else-is_word_of-clause-mask
returns-else-is_word_of-clause-mask g c = let seat = c.args.seat.now in let v : View = seat.place.me.0 in let u : View = c.load_mask-mask.new.seat.me.0 in let w : View = c.load_masked-seen.new.seat.me.0 in let i : ℕ = c.in-Some.slot in let m : ℕ = c.load_mask-mask.result in let n : ℕ = c.load_masked-seen.result in
    let low : i < c.args.self.now.words.size.slots = (let a = c.in-Some.ensures.found.0 in let b = seat.latest.0 in let d = ap (λ (z : Size). z.slots) c.requires.fits.1 in omega arith) in
    inl (i, low, masks_then v u w c.args.self.now.words.size c.args.number 0 i m n c.in-Some.ensures.found.1 seat.idle.2 c.requires.marked c.load_mask-mask.ensures.half c.load_masked-seen.ensures.whole c.load_masked-seen.ensures.none c.load_masked-seen.ensures.marked (λ full is. let t = c.if-is_word_of.ensures in absurd (t full is)) (λ _. refl))

pub returns-then-is_word_of-clause-moments : goal.returns-then-is_word_of-clause-moments
returns-then-is_word_of-clause-moments g c = let v : View = c.args.seat.now.place.me.0 in let u : View = c.load_mask-mask.new.seat.me.0 in let w : View = c.load_masked-seen.new.seat.me.0 in let i : ℕ = c.in-Some.slot in let m : ℕ = c.load_mask-mask.result in let n : ℕ = c.load_masked-seen.result in let z : Size = c.args.self.now.words.size in
    let low : i < z.slots = (let a = c.in-Some.ensures.found.0 in let b = c.args.seat.now.latest.0 in let d = ap (λ (q : Size). q.slots) c.requires.fits.1 in omega arith) in
    two_loads v u w z i m n low c.requires.fits.1 c.load_mask-mask.ensures.half c.load_masked-seen.ensures.whole c.load_masked-seen.ensures.none c.load_mask-mask.ensures.turn c.load_masked-seen.ensures.turn

pub returns-else-is_word_of-clause-moments : goal.returns-else-is_word_of-clause-moments
returns-else-is_word_of-clause-moments g c = let v : View = c.args.seat.now.place.me.0 in let u : View = c.load_mask-mask.new.seat.me.0 in let w : View = c.load_masked-seen.new.seat.me.0 in let i : ℕ = c.in-Some.slot in let m : ℕ = c.load_mask-mask.result in let n : ℕ = c.load_masked-seen.result in let z : Size = c.args.self.now.words.size in
    let low : i < z.slots = (let a = c.in-Some.ensures.found.0 in let b = c.args.seat.now.latest.0 in let d = ap (λ (q : Size). q.slots) c.requires.fits.1 in omega arith) in
    two_loads v u w z i m n low c.requires.fits.1 c.load_mask-mask.ensures.half c.load_masked-seen.ensures.whole c.load_masked-seen.ensures.none c.load_mask-mask.ensures.turn c.load_masked-seen.ensures.turn

pub returns-then-is_word_of-clause-cleared : goal.returns-then-is_word_of-clause-cleared
returns-then-is_word_of-clause-cleared g c = let seat = c.args.seat.now in let v : View = seat.place.me.0 in let u : View = c.load_mask-mask.new.seat.me.0 in let w : View = c.load_masked-seen.new.seat.me.0 in let i : ℕ = c.in-Some.slot in let m : ℕ = c.load_mask-mask.result in let n : ℕ = c.load_masked-seen.result in let z : Size = c.args.self.now.words.size in
    let t = c.if-is_word_of.ensures in
    mask_covers v u w z i m n c.args.number c.requires.fits.1 (λ e. let role = seat.role in absurd (omega arith)) c.requires.marked t.0 t.1 c.load_mask-mask.ensures.half c.load_masked-seen.ensures.whole c.load_masked-seen.ensures.none c.load_masked-seen.ensures.marked c.load_masked-seen.ensures.turn

pub returns-else-is_word_of-clause-cleared : goal.returns-else-is_word_of-clause-cleared
returns-else-is_word_of-clause-cleared g c = let seat = c.args.seat.now in let v : View = seat.place.me.0 in let u : View = c.load_mask-mask.new.seat.me.0 in let w : View = c.load_masked-seen.new.seat.me.0 in let i : ℕ = c.in-Some.slot in let m : ℕ = c.load_mask-mask.result in let n : ℕ = c.load_masked-seen.result in let z : Size = c.args.self.now.words.size in
    mask_of_none v u w z i m n c.args.number c.requires.fits.1 (λ e. let role = seat.role in absurd (omega arith)) c.requires.marked seat.lasts c.in-Some.ensures.found.1 c.if-is_word_of.ensures c.load_mask-mask.ensures.half c.load_masked-seen.ensures.whole c.load_masked-seen.ensures.none c.load_masked-seen.ensures.turn

pub returns-in_default-clause-cleared : goal.returns-in_default-clause-cleared
returns-in_default-clause-cleared g c = let seat = c.args.seat.now in let v : View = seat.place.me.0 in let z : Size = c.args.self.now.words.size in
    inr (refl, λ s at. nowhere z v s at (λ e. let role = seat.role in absurd (omega arith)) c.args.number c.requires.marked (λ i l. c.in_default.ensures.none i (let b = seat.latest.0 in let d = ap (λ (q : Size). q.slots) c.requires.fits.1 in omega arith)))
