use Rattle.std.proofs.Common.{arith, ◌≡◌, ◌≢◌, ℕ, ◌+◌, ◌<◌, cond, eqb, List, [], ◌∷◌, ◌++◌, slice_index, refl, inl, inr, sym, ap, ◌∙◌, subst}
use Rattle.race_board.specs.Words.{number, parent, cancel, with_mark}
use Rattle.race_board.specs.Board.{ban, In}
use Rattle.race_board.specs.Events.{Event, marked}
use Rattle.race_board.specs.StepEvents.{of_mark}
use Rattle.race_board.specs.Kinds.{lists}
use Rattle.race_board.specs.Lists.{marks_with, done_at}
use Rattle.race_board.specs.Walks.{Walks}
use Rattle.race_board.specs.Steps.{did, noted, past, missed}
use Rattle.race_board.specs.declared.views.Did.{Did}
use Rattle.race_board.specs.declared.views.Size.{Size}
use Rattle.race_board.specs.declared.views.View.{View}
use Rattle.race_board.proofs.Parts.{zero_parent}
use Rattle.race_board.proofs.Gained.{longer_same, longer_more, saw_now, saw_more, wrote_now, wrote_later}
use Rattle.race_board.proofs.News.{new_known, new_fresh}
use Rattle.race_board.proofs.Passing.{pass_known, pass_marked}
use Rattle.race_board.proofs.Doing.{on_task, scan_hits, scan_misses, mark_hits, mark_misses, closes}
use Rattle.race_board.proofs.Own.{unmarked_yet, marked_here}
use Rattle.race_board.proofs.Walking.{walk_one, walk_more, stride, stride_either, either_way, tale, Tells}
use Rattle.race_board.proofs.board.RaceBoard.pass_slot.Given.{Over}
use Rattle.race_board.proofs.board.RaceBoard.pass_slot.Goals.{Then-cancel_of-ne0, Else-strike_child-seen}
use Rattle.race_board.proofs.board.RaceBoard.pass_slot.Goals as goal

pub strike_child-requires-clause-word : goal.strike_child-requires-clause-word
strike_child-requires-clause-word g c = let n : ℕ = c.scan-seen.result in let child : parent n ≡ c.args.parent = sym c.parent_of.ensures ∙ c.if-parent_of-parent.false in let free : cancel n ≡ 0 = sym c.cancel_of.ensures ∙ c.if-cancel_of-ne0.false in
    ((λ e. c.requires.ban.3 (sym child ∙ (ap parent e ∙ zero_parent))), free)

pub returns-then-strike_child-seen-clause-steps : goal.returns-then-strike_child-seen-clause-steps
returns-then-strike_child-seen-clause-steps g c = let v : View = c.args.seat.now.me.0 in let u : View = c.scan-seen.new.seat.me.0 in let w : View = c.strike_child.new.seat.me.0 in let i : ℕ = c.args.slot in let n : ℕ = c.scan-seen.result in let m : ℕ = c.strike_child.result in
    let child : parent n ≡ c.args.parent = sym c.parent_of.ensures ∙ c.if-parent_of-parent.false in let free : cancel n ≡ 0 = sym c.cancel_of.ensures ∙ c.if-cancel_of-ne0.false in
    let e : u ≡ noted (past v c.args.place i (i + 1) n) (did (i + 1) n n) = c.scan-seen.ensures.child (child ∙ sym c.requires.ban.0, free) in
    let f : w ≡ noted (missed u) (did (i + 1) m m) = c.strike_child.ensures.misses c.if-strike_child-seen.true in
    longer_more v u w (did (i + 1) m m) (longer_more v v u (did (i + 1) n n) (longer_same v) (ap (λ (q : View). q.steps) e)) (ap (λ (q : View). q.steps) f)

pub returns-then-parent_of-parent-clause-moments : goal.returns-then-parent_of-parent-clause-moments
returns-then-parent_of-parent-clause-moments g c = let v : View = c.args.seat.now.me.0 in let u : View = c.scan-seen.new.seat.me.0 in let z : Size = c.args.self.now.words.size in let j : ℕ = c.args.place in let i : ℕ = c.args.slot in let n : ℕ = c.scan-seen.result in let k : ℕ = c.args.cancel in
    let load : Tells v u (did (i + 1) n n) = either_way v u (did (i + 1) n n) (parent n) (ban v j).parent (cancel n) (λ e. ap tale (c.scan-seen.ensures.child e)) (λ e. ap tale (c.scan-seen.ensures.other e)) in
    let other : ¬ ((parent n ≡ (ban v j).parent) × (cancel n ≡ 0)) = λ t. c.if-parent_of-parent.true (c.parent_of.ensures ∙ (t.0 ∙ c.requires.ban.0)) in
    walk_one (lists j k) v u (done_at z j (i + 1)) (stride (lists j k) v u (i + 1) n n n _ (done_at z j (i + 1)) load c.scan-seen.ensures.turn (i, on_task v z i c.requires.fits.2 c.requires.here.1, inl (refl, refl)) (scan_misses v z j i n c.requires.fits.2 other))

pub returns-then-strike_child-seen-clause-moments : goal.returns-then-strike_child-seen-clause-moments
returns-then-strike_child-seen-clause-moments g c = let v : View = c.args.seat.now.me.0 in let u : View = c.scan-seen.new.seat.me.0 in let z : Size = c.args.self.now.words.size in let j : ℕ = c.args.place in let i : ℕ = c.args.slot in let n : ℕ = c.scan-seen.result in let k : ℕ = c.args.cancel in
    let load : Tells v u (did (i + 1) n n) = either_way v u (did (i + 1) n n) (parent n) (ban v j).parent (cancel n) (λ e. ap tale (c.scan-seen.ensures.child e)) (λ e. ap tale (c.scan-seen.ensures.other e)) in
    let w : View = c.strike_child.new.seat.me.0 in let m : ℕ = c.strike_child.result in
    let child : parent n ≡ (ban v j).parent = (sym c.parent_of.ensures ∙ c.if-parent_of-parent.false) ∙ sym c.requires.ban.0 in let free : cancel n ≡ 0 = sym c.cancel_of.ensures ∙ c.if-cancel_of-ne0.false in
    let scanned : Walks (lists j k) v u [] = walk_one (lists j k) v u [] (stride (lists j k) v u (i + 1) n n n _ [] load c.scan-seen.ensures.turn (i, on_task v z i c.requires.fits.2 c.requires.here.1, inl (refl, refl)) (scan_hits v j (i + 1) n child free)) in
    let size : u.size ≡ z = ap (λ (t : List Did × Size). t.1) load ∙ c.requires.fits.2 in let done : ℕ = cond (eqb (i + 1) z.slots) (j + 1) 0 in
    walk_more (lists j k) v u w [] (done_at z j (i + 1)) scanned (stride_either (lists j k) u w (i + 1) m n (with_mark n k) _ _ (done_at z j (i + 1)) (λ e. ap tale (c.strike_child.ensures.marks e)) (λ e. ap tale (c.strike_child.ensures.misses e)) c.strike_child.ensures.turn (i, on_task u z i size c.requires.here.1, inr (n, refl, ap (λ (q : Size). of_mark (cond (eqb (i + 1) q.slots) (j + 1) 0) m n (with_mark n k)) (sym size))) (mark_misses done m n k c.if-strike_child-seen.true ∙ closes z j i))

pub returns-then-parent_of-parent-clause-hands : goal.returns-then-parent_of-parent-clause-hands
returns-then-parent_of-parent-clause-hands g c = let v : View = c.args.seat.now.me.0 in let u : View = c.scan-seen.new.seat.me.0 in let z : Size = c.args.self.now.words.size in let j : ℕ = c.args.place in let i : ℕ = c.args.slot in let n : ℕ = c.scan-seen.result in
    let load : Tells v u (did (i + 1) n n) = either_way v u (did (i + 1) n n) (parent n) (ban v j).parent (cancel n) (λ e. ap tale (c.scan-seen.ensures.child e)) (λ e. ap tale (c.scan-seen.ensures.other e)) in
    (n, saw_now v v u (i + 1) n n (longer_same v) (ap (λ (t : List Did × Size). t.0) load), λ child. absurd (c.if-parent_of-parent.true (c.parent_of.ensures ∙ child)))

-- a child that was marked before
has_mark : (g : Over) (c : Then-cancel_of-ne0 g) → cancel c.scan-seen.result ≢ 0
has_mark g c e = c.if-cancel_of-ne0.true (c.cancel_of.ensures ∙ e)

was_marked : (g : Over) (c : Then-cancel_of-ne0 g) → let v : View = c.args.seat.now.me.0 in let r : ℕ = c.number_of-number.result in (r ≢ 0) × In r v.marked × (slice_index v.last c.args.slot ≡ r)
was_marked g c = let v : View = c.args.seat.now.me.0 in let i : ℕ = c.args.slot in let low : i < v.size.slots = subst (λ (q : Size). i < q.slots) (sym c.requires.fits.2) c.requires.here.1 in let lead = c.requires.control.0 in
    subst (λ (q : ℕ). (q ≢ 0) × In q v.marked × (slice_index v.last i ≡ q)) (sym c.number_of-number.ensures.number) (marked_here v.size v c.scan-seen.new.seat.me.0 i c.scan-seen.result _ _ c.scan-seen.ensures.turn (λ e. absurd (omega arith)) low (has_mark g c))

pub returns-then-cancel_of-ne0-clause-last : goal.returns-then-cancel_of-ne0-clause-last
returns-then-cancel_of-ne0-clause-last g c = inr (was_marked g c)

pub returns-then-cancel_of-ne0-clause-hands : goal.returns-then-cancel_of-ne0-clause-hands
returns-then-cancel_of-ne0-clause-hands g c = let v : View = c.args.seat.now.me.0 in let u : View = c.scan-seen.new.seat.me.0 in let z : Size = c.args.self.now.words.size in let j : ℕ = c.args.place in let i : ℕ = c.args.slot in let n : ℕ = c.scan-seen.result in
    let load : Tells v u (did (i + 1) n n) = either_way v u (did (i + 1) n n) (parent n) (ban v j).parent (cancel n) (λ e. ap tale (c.scan-seen.ensures.child e)) (λ e. ap tale (c.scan-seen.ensures.other e)) in
    inr (n, saw_now v v u (i + 1) n n (longer_same v) (ap (λ (t : List Did × Size). t.0) load), sym c.parent_of.ensures ∙ c.if-parent_of-parent.false, sym c.number_of-number.ensures.number, has_mark g c, (was_marked g c).1)

pub returns-then-cancel_of-ne0-clause-passes : goal.returns-then-cancel_of-ne0-clause-passes
returns-then-cancel_of-ne0-clause-passes g c = let v : View = c.args.seat.now.me.0 in let u : View = c.scan-seen.new.seat.me.0 in let z : Size = c.args.self.now.words.size in let j : ℕ = c.args.place in let i : ℕ = c.args.slot in let n : ℕ = c.scan-seen.result in let r : ℕ = c.number_of-number.result in
    pass_known v u j i r (did (i + 1) n n) (c.scan-seen.ensures.other (λ t. has_mark g c t.1)) (new_known v r (was_marked g c).1) (was_marked g c).2

pub returns-then-cancel_of-ne0-clause-moments : goal.returns-then-cancel_of-ne0-clause-moments
returns-then-cancel_of-ne0-clause-moments g c = let v : View = c.args.seat.now.me.0 in let u : View = c.scan-seen.new.seat.me.0 in let z : Size = c.args.self.now.words.size in let j : ℕ = c.args.place in let i : ℕ = c.args.slot in let n : ℕ = c.scan-seen.result in let r : ℕ = c.number_of-number.result in let k : ℕ = c.args.cancel in
    let load : Tells v u (did (i + 1) n n) = either_way v u (did (i + 1) n n) (parent n) (ban v j).parent (cancel n) (λ e. ap tale (c.scan-seen.ensures.child e)) (λ e. ap tale (c.scan-seen.ensures.other e)) in
    subst (λ (l : List ℕ). Walks (lists j k) v u (marks_with k l ++ done_at z j (i + 1))) (sym (new_known v r (was_marked g c).1)) (walk_one (lists j k) v u (done_at z j (i + 1)) (stride (lists j k) v u (i + 1) n n n _ (done_at z j (i + 1)) load c.scan-seen.ensures.turn (i, on_task v z i c.requires.fits.2 c.requires.here.1, inl (refl, refl))
    (scan_misses v z j i n c.requires.fits.2 (λ t. has_mark g c t.1))))

-- a child whose word had changed before the exchange
pub returns-then-strike_child-seen-clause-hands : goal.returns-then-strike_child-seen-clause-hands
returns-then-strike_child-seen-clause-hands g c = let v : View = c.args.seat.now.me.0 in let u : View = c.scan-seen.new.seat.me.0 in let z : Size = c.args.self.now.words.size in let j : ℕ = c.args.place in let i : ℕ = c.args.slot in let n : ℕ = c.scan-seen.result in let k : ℕ = c.args.cancel in let w : View = c.strike_child.new.seat.me.0 in let m : ℕ = c.strike_child.result in
    let child : parent n ≡ (ban v j).parent = (sym c.parent_of.ensures ∙ c.if-parent_of-parent.false) ∙ sym c.requires.ban.0 in let free : cancel n ≡ 0 = sym c.cancel_of.ensures ∙ c.if-cancel_of-ne0.false in
    let e : u ≡ noted (past v j i (i + 1) n) (did (i + 1) n n) = c.scan-seen.ensures.child (child, free) in
    let steps : u.steps ≡ v.steps ++ did (i + 1) n n ∷ [] = ap (λ (q : View). q.steps) e in let more : w.steps ≡ u.steps ++ did (i + 1) m m ∷ [] = ap (λ (q : View). q.steps) (c.strike_child.ensures.misses c.if-strike_child-seen.true) in
    (n, saw_more v u w (did (i + 1) m m) (i + 1) n more (saw_now v v u (i + 1) n n (longer_same v) steps), λ _. (free, (m, saw_now v u w (i + 1) m m (longer_more v v u (did (i + 1) n n) (longer_same v) steps) more, λ f. c.if-strike_child-seen.true (sym f))))

-- a child that is marked now
scanned : (g : Over) (c : Else-strike_child-seen g) → let n : ℕ = c.scan-seen.result in let v : View = c.args.seat.now.me.0 in let i : ℕ = c.args.slot in c.scan-seen.new.seat.me.0 ≡ noted (past v c.args.place i (i + 1) n) (did (i + 1) n n)
scanned g c = c.scan-seen.ensures.child ((sym c.parent_of.ensures ∙ c.if-parent_of-parent.false) ∙ sym c.requires.ban.0, sym c.cancel_of.ensures ∙ c.if-cancel_of-ne0.false)

was_fresh : (g : Over) (c : Else-strike_child-seen g) → ¬ In c.number_of-number.result c.args.seat.now.me.0.marked
was_fresh g c = let v : View = c.args.seat.now.me.0 in let u : View = c.scan-seen.new.seat.me.0 in let z : Size = c.args.self.now.words.size in let j : ℕ = c.args.place in let i : ℕ = c.args.slot in let n : ℕ = c.scan-seen.result in let k : ℕ = c.args.cancel in let w : View = c.strike_child.new.seat.me.0 in let m : ℕ = c.strike_child.result in
    let child : parent n ≡ (ban v j).parent = (sym c.parent_of.ensures ∙ c.if-parent_of-parent.false) ∙ sym c.requires.ban.0 in let free : cancel n ≡ 0 = sym c.cancel_of.ensures ∙ c.if-cancel_of-ne0.false in
    let e = scanned g c in let full : n ≢ 0 = λ f. c.requires.ban.3 (sym c.requires.ban.0 ∙ (sym child ∙ (ap parent f ∙ zero_parent))) in let size : u.size ≡ z = ap (λ (q : View). q.size) e ∙ c.requires.fits.2 in
    let hit : m ≡ n = c.if-strike_child-seen.false in let lead = c.requires.control.0 in
    let fresh = unmarked_yet u.size u w i m _ _ c.strike_child.ensures.turn (λ f. let lead_is : u.lead ≡ v.lead = ap (λ (q : View). q.lead) e in absurd (omega arith)) (subst (λ (q : Size). i < q.slots) (sym size) c.requires.here.1) (λ f. full (sym hit ∙ f)) (ap cancel hit ∙ free) in
    λ known. fresh (subst (λ (t : ℕ × List ℕ). In t.0 t.1) (λ q. ((c.number_of-number.ensures.number ∙ ap number (sym hit)) q, ap (λ (x : View). x.marked) (sym e) q)) known)

pub returns-clause-last : goal.returns-clause-last
returns-clause-last g c = inl (was_fresh g c)

pub returns-clause-hands : goal.returns-clause-hands
returns-clause-hands g c = let v : View = c.args.seat.now.me.0 in let u : View = c.scan-seen.new.seat.me.0 in let z : Size = c.args.self.now.words.size in let j : ℕ = c.args.place in let i : ℕ = c.args.slot in let n : ℕ = c.scan-seen.result in let k : ℕ = c.args.cancel in let w : View = c.strike_child.new.seat.me.0 in let m : ℕ = c.strike_child.result in
    let child : parent n ≡ (ban v j).parent = (sym c.parent_of.ensures ∙ c.if-parent_of-parent.false) ∙ sym c.requires.ban.0 in let free : cancel n ≡ 0 = sym c.cancel_of.ensures ∙ c.if-cancel_of-ne0.false in
    let steps : u.steps ≡ v.steps ++ did (i + 1) n n ∷ [] = ap (λ (q : View). q.steps) (scanned g c) in let more : w.steps ≡ u.steps ++ did (i + 1) n (with_mark n k) ∷ [] = ap (λ (q : View). q.steps) (c.strike_child.ensures.marks c.if-strike_child-seen.false) in
    inl (n, saw_more v u w (did (i + 1) n (with_mark n k)) (i + 1) n more (saw_now v v u (i + 1) n n (longer_same v) steps), child ∙ c.requires.ban.0, sym c.number_of-number.ensures.number, free, wrote_later v u w (i + 1) n (with_mark n k) (longer_more v v u (did (i + 1) n n) (longer_same v) steps) (wrote_now u w (i + 1) n (with_mark n k) more))

pub returns-clause-passes : goal.returns-clause-passes
returns-clause-passes g c = let v : View = c.args.seat.now.me.0 in let u : View = c.scan-seen.new.seat.me.0 in let z : Size = c.args.self.now.words.size in let j : ℕ = c.args.place in let i : ℕ = c.args.slot in let n : ℕ = c.scan-seen.result in let k : ℕ = c.args.cancel in let w : View = c.strike_child.new.seat.me.0 in let m : ℕ = c.strike_child.result in let r : ℕ = c.number_of-number.result in
    pass_marked v u w j i n r (did (i + 1) n n) (did (i + 1) n (with_mark n k)) (scanned g c) (c.strike_child.ensures.marks c.if-strike_child-seen.false) (sym c.number_of-number.ensures.number) (new_fresh v r (was_fresh g c))

pub returns-clause-moments : goal.returns-clause-moments
returns-clause-moments g c = let v : View = c.args.seat.now.me.0 in let u : View = c.scan-seen.new.seat.me.0 in let z : Size = c.args.self.now.words.size in let j : ℕ = c.args.place in let i : ℕ = c.args.slot in let n : ℕ = c.scan-seen.result in let k : ℕ = c.args.cancel in let w : View = c.strike_child.new.seat.me.0 in let m : ℕ = c.strike_child.result in let r : ℕ = c.number_of-number.result in
    let child : parent n ≡ (ban v j).parent = (sym c.parent_of.ensures ∙ c.if-parent_of-parent.false) ∙ sym c.requires.ban.0 in let free : cancel n ≡ 0 = sym c.cancel_of.ensures ∙ c.if-cancel_of-ne0.false in
    let load : Tells v u (did (i + 1) n n) = ap tale (scanned g c) in let size : u.size ≡ z = ap (λ (t : List Did × Size). t.1) load ∙ c.requires.fits.2 in
    let loads : Walks (lists j k) v u [] = walk_one (lists j k) v u [] (stride (lists j k) v u (i + 1) n n n _ [] load c.scan-seen.ensures.turn (i, on_task v z i c.requires.fits.2 c.requires.here.1, inl (refl, refl)) (scan_hits v j (i + 1) n child free)) in
    let done : ℕ = cond (eqb (i + 1) z.slots) (j + 1) 0 in let events : List Event = marked r k ∷ done_at z j (i + 1) in
    subst (λ (l : List ℕ). Walks (lists j k) v w (marks_with k l ++ done_at z j (i + 1))) (sym (new_fresh v r (was_fresh g c))) (walk_more (lists j k) v u w [] events loads
    (stride_either (lists j k) u w (i + 1) m n (with_mark n k) _ _ events (λ e. ap tale (c.strike_child.ensures.marks e)) (λ e. ap tale (c.strike_child.ensures.misses e)) c.strike_child.ensures.turn (i, on_task u z i size c.requires.here.1, inr (n, refl, ap (λ (q : Size). of_mark (cond (eqb (i + 1) q.slots) (j + 1) 0) m n (with_mark n k)) (sym size)))
    (mark_hits done m n k c.if-strike_child-seen.false free ∙ (λ q. marked (sym c.number_of-number.ensures.number q) k ∷ closes z j i q))))
