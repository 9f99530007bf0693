use Rattle.std.proofs.Common.{arith, ◌≡◌, ℕ, ◌+◌, ◌<◌, [], ◌∷◌, refl, inl, inr, bit_or, length, length-set, get_or-set_same, sym, ap, ◌∙◌, subst}
use Rattle.race_board.specs.Words.{cancel}
use Rattle.race_board.specs.Board.{hold, no_hold}
use Rattle.race_board.specs.Steps.{did, noted, with_hold, seeking, cleared_hold}
use Rattle.race_board.specs.Checks.{Becomes}
use Rattle.race_board.specs.declared.views.Did.{Did}
use Rattle.race_board.specs.Events.{asked}
use Rattle.race_board.specs.Kinds.{tracks}
use Rattle.race_board.specs.StepEvents.{of_track_look}
use Rattle.race_board.specs.Walks.{Walks}
use Rattle.race_board.specs.declared.views.Hold.{Hold}
use Rattle.race_board.specs.declared.views.Size.{Size}
use Rattle.race_board.specs.declared.views.View.{View}
use Rattle.race_board.proofs.Gained.{longer_same, longer_more, saw_now}
use Rattle.race_board.proofs.Marks.{cleared_mark, cancelled_mark}
use Rattle.race_board.proofs.Tracked.{twice, after_both, becomes_fields}
use Rattle.race_board.proofs.Tickets.{Roots, roots_set, tracked_clear}
use Rattle.race_board.proofs.Doing.{where_same, where_other, on_task, on_mask}
use Rattle.race_board.proofs.Walking.{walk_one, walk_more, walk_still, stride, same_or_not, tale}
use Rattle.race_board.proofs.board.RaceBoard.track.Goals as goal

pub invariant_of-seat : goal.invariant_of-seat
invariant_of-seat g c = let seat = c.args.seat.now in let v : View = seat.place.me.0 in let u : View = c.set_bits.new.seat.me.0 in let w : View = c.track_look.new.seat.me.0 in let i : ℕ = c.slot_of-slot.result in let b : ℕ = c.node_bit.result in let n : ℕ = c.track_look.result in let z : Size = c.args.self.now.words.size in
    let inside : i < length v.held = (let p = c.slot_of-slot.ensures.0 in let q = seat.sized in omega arith) in let m : ℕ = c.set_bits.result in
    let t = after_both v u w i b n (did (z.slots + z.bans + i + 1) m (bit_or m b)) (did (i + 1) n n) inside c.set_bits.ensures.sets c.track_look.ensures.cleared c.track_look.ensures.marked in
    let fields = becomes_fields v w i t.0 inside t.1 t.2 t.3 t.4 seat.calm in let e = t.1 in
    record {
      bare = c.track_look.ensures.fits.1;
      role = ap (λ (q : View). q.lead) e ∙ seat.role;
      sized = (seat.sized.0 ∙ sym (ap (λ (q : View). q.size.slots) e), ap (λ (q : View). length q.held) e ∙ (length-set v.held i t.0 ∙ (seat.sized.1 ∙ sym (ap (λ (q : View). q.size.slots) e))));
      tickets = λ q. let k = seat.tickets q in (k.0 ∙ sym (fields q).0, k.1 ∙ sym (fields q).1);
      distinct = λ q r some f. seat.distinct q r (λ x. some ((fields q).0 ∙ x)) (sym (fields q).0 ∙ (f ∙ (fields r).0));
      roots = subst Roots (sym (ap (λ (q : View). q.held) e)) (roots_set v.held i t.0 inside (λ f. t.5 ∙ seat.roots i (sym t.3 ∙ f)) seat.roots);
      calm = λ q. (fields q).2;
      refused = subst (λ (k : ℕ). (seat.told ≡ Rattle.std.specs.Prelude.false → k ≡ 0) × (seat.told ≡ Rattle.std.specs.Prelude.true → k ≡ 1)) (sym (ap (λ (q : View). q.told) e)) seat.refused;
      drawn = subst (λ (k : ℕ). k < 1048576) (sym (ap (λ (q : View). q.drawn) e)) seat.drawn;
      greatest = ap (λ (q : View). q.most) e ∙ seat.greatest;
      present = ap (λ (q : View). q.gone) e ∙ seat.present;
    }

pub returns-in-None-clause-tracks : goal.returns-in-None-clause-tracks
returns-in-None-clause-tracks g c = let seat = c.args.seat.now in let v : View = seat.place.me.0 in let u : View = c.set_bits.new.seat.me.0 in let w : View = c.track_look.new.seat.me.0 in let i : ℕ = c.slot_of-slot.result in let b : ℕ = c.node_bit.result in let n : ℕ = c.track_look.result in let z : Size = c.args.self.now.words.size in
    let inside : i < length v.held = (let p = c.slot_of-slot.ensures.0 in let q = seat.sized in omega arith) in let m : ℕ = c.set_bits.result in let d : Did = did (z.slots + z.bans + i + 1) m (bit_or m b) in
    let free : cancel n ≡ 0 = cleared_mark n (sym c.mark_in.ensures ∙ c.in-None.is) in let e = c.track_look.ensures.cleared free in (
      i,
      c.slot_of-slot.ensures.1 ∙ ap (λ x. x.number) c.id.ensures,
      subst (λ (q : ℕ). Becomes v w i (cleared_hold (seeking (hold v i) q))) c.node_bit.ensures.bit (twice v u w i (seeking (hold v i) b) cleared_hold d (did (i + 1) n n) inside c.set_bits.ensures.sets e),
      (n, saw_now v u w (i + 1) n n (longer_more v v u d (longer_same v) (ap (λ (q : View). q.steps) c.set_bits.ensures.sets)) (ap (λ (q : View). q.steps) e), free),
    )

pub returns-in-None-clause-steps : goal.returns-in-None-clause-steps
returns-in-None-clause-steps g c = let seat = c.args.seat.now in let v : View = seat.place.me.0 in let u : View = c.set_bits.new.seat.me.0 in let w : View = c.track_look.new.seat.me.0 in let i : ℕ = c.slot_of-slot.result in let b : ℕ = c.node_bit.result in let n : ℕ = c.track_look.result in let z : Size = c.args.self.now.words.size in
    let m : ℕ = c.set_bits.result in let d : Did = did (z.slots + z.bans + i + 1) m (bit_or m b) in
    let free : cancel n ≡ 0 = cleared_mark n (sym c.mark_in.ensures ∙ c.in-None.is) in let e = c.track_look.ensures.cleared free in
    longer_more v u w (did (i + 1) n n) (longer_more v v u d (longer_same v) (ap (λ (q : View). q.steps) c.set_bits.ensures.sets)) (ap (λ (q : View). q.steps) e)

pub returns-in-Some-clause-tracks : goal.returns-in-Some-clause-tracks
returns-in-Some-clause-tracks g c = let seat = c.args.seat.now in let v : View = seat.place.me.0 in let u : View = c.set_bits.new.seat.me.0 in let w : View = c.track_look.new.seat.me.0 in let i : ℕ = c.slot_of-slot.result in let b : ℕ = c.node_bit.result in let n : ℕ = c.track_look.result in let z : Size = c.args.self.now.words.size in
    let inside : i < length v.held = (let p = c.slot_of-slot.ensures.0 in let q = seat.sized in omega arith) in let m : ℕ = c.set_bits.result in let d : Did = did (z.slots + z.bans + i + 1) m (bit_or m b) in
    let mark = cancelled_mark n c.in-Some.mark (sym c.mark_in.ensures ∙ c.in-Some.is) in let e = c.track_look.ensures.marked (λ f. mark.1 (sym mark.0 ∙ f)) in (
      i,
      c.slot_of-slot.ensures.1 ∙ ap (λ x. x.number) c.id.ensures,
      twice v u w i (seeking (hold v i) b) (λ q. seeking q 0) d (did (i + 1) n n) inside c.set_bits.ensures.sets e,
      (n, saw_now v u w (i + 1) n n (longer_more v v u d (longer_same v) (ap (λ (q : View). q.steps) c.set_bits.ensures.sets)) (ap (λ (q : View). q.steps) e), mark.0, mark.1),
    )

pub returns-in-Some-clause-steps : goal.returns-in-Some-clause-steps
returns-in-Some-clause-steps g c = let seat = c.args.seat.now in let v : View = seat.place.me.0 in let u : View = c.set_bits.new.seat.me.0 in let w : View = c.track_look.new.seat.me.0 in let i : ℕ = c.slot_of-slot.result in let b : ℕ = c.node_bit.result in let n : ℕ = c.track_look.result in let z : Size = c.args.self.now.words.size in
    let m : ℕ = c.set_bits.result in let d : Did = did (z.slots + z.bans + i + 1) m (bit_or m b) in
    let mark = cancelled_mark n c.in-Some.mark (sym c.mark_in.ensures ∙ c.in-Some.is) in let e = c.track_look.ensures.marked (λ f. mark.1 (sym mark.0 ∙ f)) in
    longer_more v u w (did (i + 1) n n) (longer_more v v u d (longer_same v) (ap (λ (q : View). q.steps) c.set_bits.ensures.sets)) (ap (λ (q : View). q.steps) e)

pub returns-in-Some-clause-clear : goal.returns-in-Some-clause-clear
returns-in-Some-clause-clear g c = let seat = c.args.seat.now in let v : View = seat.place.me.0 in let i : ℕ = c.slot_of-slot.result in let n : ℕ = c.track_look.result in let z : Size = c.args.self.now.words.size in let m : ℕ = c.set_bits.result in
    let inside : i < length v.held = (let p = c.slot_of-slot.ensures.0 in let q = seat.sized in omega arith) in
    tracked_clear v c.set_bits.new.seat.me.0 c.track_look.new.seat.me.0 i c.node_bit.result n c.args.ticket.now.id.number (did (z.slots + z.bans + i + 1) m (bit_or m c.node_bit.result)) (did (i + 1) n n) inside c.set_bits.ensures.sets c.track_look.ensures.cleared c.track_look.ensures.marked
    (λ e. c.slot_of-slot.ensures.2 (ap (λ x. x.number) c.id.ensures ∙ e)) (c.slot_of-slot.ensures.1 ∙ ap (λ x. x.number) c.id.ensures) seat.distinct c.requires.clear

pub returns-in-None-clause-clear : goal.returns-in-None-clause-clear
returns-in-None-clause-clear g c = let seat = c.args.seat.now in let v : View = seat.place.me.0 in let i : ℕ = c.slot_of-slot.result in let n : ℕ = c.track_look.result in let z : Size = c.args.self.now.words.size in let m : ℕ = c.set_bits.result in
    let inside : i < length v.held = (let p = c.slot_of-slot.ensures.0 in let q = seat.sized in omega arith) in
    tracked_clear v c.set_bits.new.seat.me.0 c.track_look.new.seat.me.0 i c.node_bit.result n c.args.ticket.now.id.number (did (z.slots + z.bans + i + 1) m (bit_or m c.node_bit.result)) (did (i + 1) n n) inside c.set_bits.ensures.sets c.track_look.ensures.cleared c.track_look.ensures.marked
    (λ e. c.slot_of-slot.ensures.2 (ap (λ x. x.number) c.id.ensures ∙ e)) (c.slot_of-slot.ensures.1 ∙ ap (λ x. x.number) c.id.ensures) seat.distinct c.requires.clear

pub returns-in-Some-clause-moments : goal.returns-in-Some-clause-moments
returns-in-Some-clause-moments g c = let v : View = c.args.seat.now.place.me.0 in let u : View = c.set_bits.new.seat.me.0 in let w : View = c.track_look.new.seat.me.0 in let i : ℕ = c.slot_of-slot.result in let m : ℕ = c.set_bits.result in let n : ℕ = c.track_look.result in let z : Size = c.args.self.now.words.size in let b : ℕ = c.node_bit.result in
    let inside : i < length v.held = (let p = c.slot_of-slot.ensures.0 in let q = c.args.seat.now.sized in omega arith) in let low : i < z.slots = (let a = c.slot_of-slot.ensures.0 in let q = c.args.seat.now.sized.0 in let d = ap (λ (q : Size). q.slots) c.requires.fits.1 in omega arith) in
    let sets : u ≡ noted (with_hold v i (seeking (hold v i) b)) (did (z.slots + z.bans + i + 1) m (bit_or m b)) = c.set_bits.ensures.sets in
    let size : u.size ≡ z = ap (λ (q : View). q.size) sets ∙ c.requires.fits.1 in
    let is : (hold u i).number ≡ c.args.ticket.now.id.number = ap (λ (q : View). (hold q i).number) sets ∙ (ap (λ (h : Hold). h.number) (get_or-set_same v.held i (seeking (hold v i) b) no_hold inside) ∙ (c.slot_of-slot.ensures.1 ∙ ap (λ x. x.number) c.id.ensures)) in
    let mark = cancelled_mark n c.in-Some.mark (sym c.mark_in.ensures ∙ c.in-Some.is) in let events : of_track_look (hold u i) n ≡ [] = where_other (cancel n) 0 (asked (hold u i).number ∷ []) [] (λ f. mark.1 (sym mark.0 ∙ f)) in
    subst (λ (q : ℕ). Walks (tracks q) v w []) c.node_bit.ensures.bit (walk_still (tracks b) v u w [] (walk_one (tracks b) v u [] (stride (tracks b) v u (z.slots + z.bans + i + 1) m (bit_or m b) _ _ [] (ap tale sets) c.set_bits.ensures.turn (i, inl (on_mask v z i c.requires.fits.1 low, refl, refl)) refl))
    (stride (tracks b) u w (i + 1) n n n _ [] (same_or_not u w (did (i + 1) n n) (cancel n) 0 (λ e. ap tale (c.track_look.ensures.cleared e)) (λ e. ap tale (c.track_look.ensures.marked e))) c.track_look.ensures.turn (i, inr (on_task u z i size low, refl, refl)) events))

pub returns-in-None-clause-moments : goal.returns-in-None-clause-moments
returns-in-None-clause-moments g c = let v : View = c.args.seat.now.place.me.0 in let u : View = c.set_bits.new.seat.me.0 in let w : View = c.track_look.new.seat.me.0 in let i : ℕ = c.slot_of-slot.result in let m : ℕ = c.set_bits.result in let n : ℕ = c.track_look.result in let z : Size = c.args.self.now.words.size in let b : ℕ = c.node_bit.result in
    let inside : i < length v.held = (let p = c.slot_of-slot.ensures.0 in let q = c.args.seat.now.sized in omega arith) in let low : i < z.slots = (let a = c.slot_of-slot.ensures.0 in let q = c.args.seat.now.sized.0 in let d = ap (λ (q : Size). q.slots) c.requires.fits.1 in omega arith) in
    let sets : u ≡ noted (with_hold v i (seeking (hold v i) b)) (did (z.slots + z.bans + i + 1) m (bit_or m b)) = c.set_bits.ensures.sets in
    let size : u.size ≡ z = ap (λ (q : View). q.size) sets ∙ c.requires.fits.1 in
    let is : (hold u i).number ≡ c.args.ticket.now.id.number = ap (λ (q : View). (hold q i).number) sets ∙ (ap (λ (h : Hold). h.number) (get_or-set_same v.held i (seeking (hold v i) b) no_hold inside) ∙ (c.slot_of-slot.ensures.1 ∙ ap (λ x. x.number) c.id.ensures)) in
    let free : cancel n ≡ 0 = cleared_mark n (sym c.mark_in.ensures ∙ c.in-None.is) in let t : ℕ = c.args.ticket.now.id.number in
    let events : of_track_look (hold u i) n ≡ asked t ∷ [] = where_same (cancel n) 0 (asked (hold u i).number ∷ []) [] free ∙ ap (λ (q : ℕ). asked q ∷ []) is in
    subst (λ (q : ℕ). Walks (tracks q) v w (asked t ∷ [])) c.node_bit.ensures.bit (walk_more (tracks b) v u w [] (asked t ∷ []) (walk_one (tracks b) v u [] (stride (tracks b) v u (z.slots + z.bans + i + 1) m (bit_or m b) _ _ [] (ap tale sets) c.set_bits.ensures.turn (i, inl (on_mask v z i c.requires.fits.1 low, refl, refl)) refl))
    (stride (tracks b) u w (i + 1) n n n _ (asked t ∷ []) (same_or_not u w (did (i + 1) n n) (cancel n) 0 (λ e. ap tale (c.track_look.ensures.cleared e)) (λ e. ap tale (c.track_look.ensures.marked e))) c.track_look.ensures.turn (i, inr (on_task u z i size low, refl, refl)) events))
