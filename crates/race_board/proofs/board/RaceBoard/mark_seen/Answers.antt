use Rattle.std.proofs.Common.{arith, ◌≡◌, ℕ, ◌+◌, ◌<◌, List, [], ◌∷◌, ◌++◌, length, length-set, set, refl, inr, sym, ap, ◌∙◌, subst}
use Rattle.race_board.specs.Words.{number, cancel, with_mark}
use Rattle.race_board.specs.Board.{In}
use Rattle.race_board.specs.Events.{marked}
use Rattle.race_board.specs.Kinds.{marks}
use Rattle.race_board.specs.Steps.{did, noted, struck, missed}
use Rattle.race_board.specs.declared.views.Size.{Size}
use Rattle.race_board.specs.declared.views.View.{View}
use Rattle.race_board.proofs.Gained.{longer_same, saw_now, wrote_now}
use Rattle.race_board.proofs.Doing.{on_task, mark_hits, mark_misses}
use Rattle.race_board.proofs.Marks.{cleared_mark}
use Rattle.race_board.proofs.Listed.{stands_on}
use Rattle.race_board.proofs.MarkSteps.{missed_is}
use Rattle.race_board.proofs.Own.{unmarked_yet, lasts_struck}
use Rattle.race_board.proofs.Walking.{walk_one, stride_either, tale}
use Rattle.race_board.proofs.board.RaceBoard.mark_seen.Goals as goal

pub returns-then-strike-seen-clause-marks : goal.returns-then-strike-seen-clause-marks
returns-then-strike-seen-clause-marks g c = let seat = c.args.seat.now in let v : View = seat.place.me.0 in let w : View = c.strike.new.seat.me.0 in let i : ℕ = c.args.slot in let m : ℕ = c.strike.result in let e : w ≡ noted (missed v) (did (i + 1) m m) = c.strike.ensures.misses c.if-strike-seen.true in
    (missed_is v w (did (i + 1) m m) seat.idle.0 seat.idle.1 e, (m, saw_now v v w (i + 1) m m (longer_same v) (ap (λ (q : View). q.steps) e), λ f. c.if-strike-seen.true (sym f)))

pub returns-clause-marks : goal.returns-clause-marks
returns-clause-marks g c = let seat = c.args.seat.now in let v : View = seat.place.me.0 in let w : View = c.strike.new.seat.me.0 in let i : ℕ = c.args.slot in let n : ℕ = c.args.seen in let k : ℕ = c.args.cancel in
    let e : w ≡ noted (struck v i (number n)) (did (i + 1) n (with_mark n k)) = c.strike.ensures.marks c.if-strike-seen.false in (
      wrote_now v w (i + 1) n (with_mark n k) (ap (λ (q : View). q.steps) e),
      cleared_mark n (sym c.mark_in.ensures ∙ c.in_default.is),
      e ∙ (λ x. let r : View = record v { steps = (sym (ap (λ (q : View). q.steps) e)) x; about = (sym seat.idle.0) x; loaded = (sym seat.idle.1) x; marked = v.marked ++ number n ∷ []; last = set v.last i (number n) } in r),
    )

pub returns-clause-moments : goal.returns-clause-moments
returns-clause-moments g c = let v : View = c.args.seat.now.place.me.0 in let w : View = c.strike.new.seat.me.0 in let i : ℕ = c.args.slot in let n : ℕ = c.args.seen in let k : ℕ = c.args.cancel in let m : ℕ = c.strike.result in
    let free : cancel n ≡ 0 = cleared_mark n (sym c.mark_in.ensures ∙ c.in_default.is) in
    walk_one (marks k) v w (marked (number n) k ∷ []) (stride_either (marks k) v w (i + 1) m n (with_mark n k) _ _ (marked (number n) k ∷ []) (λ e. ap tale (c.strike.ensures.marks e)) (λ e. ap tale (c.strike.ensures.misses e)) c.strike.ensures.turn
    (i, on_task v c.args.self.now.words.size i c.requires.fits.1 c.requires.slot, inr (n, refl, refl)) (mark_hits 0 m n k c.if-strike-seen.false free))

pub returns-then-strike-seen-clause-moments : goal.returns-then-strike-seen-clause-moments
returns-then-strike-seen-clause-moments g c = let v : View = c.args.seat.now.place.me.0 in let w : View = c.strike.new.seat.me.0 in let i : ℕ = c.args.slot in let n : ℕ = c.args.seen in let k : ℕ = c.args.cancel in let m : ℕ = c.strike.result in
    walk_one (marks k) v w [] (stride_either (marks k) v w (i + 1) m n (with_mark n k) _ _ [] (λ e. ap tale (c.strike.ensures.marks e)) (λ e. ap tale (c.strike.ensures.misses e)) c.strike.ensures.turn
    (i, on_task v c.args.self.now.words.size i c.requires.fits.1 c.requires.slot, inr (n, refl, refl)) (mark_misses 0 m n k c.if-strike-seen.true))

pub invariant_of-seat-2 : goal.invariant_of-seat-2
invariant_of-seat-2 g c = let seat = c.args.seat.now in let v : View = seat.place.me.0 in let w : View = c.strike.new.seat.me.0 in let i : ℕ = c.args.slot in let n : ℕ = c.args.seen in let k : ℕ = c.args.cancel in let m : ℕ = c.strike.result in let r : ℕ = c.number_of.result in
    let hit : m ≡ n = c.if-strike-seen.false in let free : cancel n ≡ 0 = cleared_mark n (sym c.mark_in.ensures ∙ c.in_default.is) in
    let e : w ≡ noted (struck v i (number n)) (did (i + 1) n (with_mark n k)) = c.strike.ensures.marks hit in let size : w.size ≡ v.size = ap (λ (q : View). q.size) e in
    let low : i < v.size.slots = subst (λ (q : Size). i < q.slots) (sym c.requires.fits.1) c.requires.slot in
    let inside : i < length v.last = (let a = seat.latest.0 in let b = ap (λ (l : List ℕ). length l) seat.latest.1 in omega arith) in
    let fresh = unmarked_yet v.size v w i m _ _ c.strike.ensures.turn (λ f. let role = seat.role in absurd (omega arith)) low (λ f. c.requires.seen.0 (sym hit ∙ f)) (ap cancel hit ∙ free) in
    record {
      bare = c.strike.ensures.fits.1;
      role = ap (λ (q : View). q.lead) e ∙ seat.role;
      sized = (seat.sized.0 ∙ sym (ap (λ (q : Size). q.bans) size), ap (λ (q : View). length q.bans) e ∙ (seat.sized.1 ∙ sym (ap (λ (q : Size). q.bans) size)));
      latest = (length-set seat.marked.items i r ∙ (seat.latest.0 ∙ sym (ap (λ (q : Size). q.slots) size)), (λ x. set (seat.latest.1 x) i (c.number_of.ensures.number x)) ∙ sym (ap (λ (q : View). q.last) e));
      lasts = lasts_struck v w i (number n) inside (ap (λ (q : View). q.last) e) (ap (λ (q : View). q.marked) e) (λ known. fresh (subst (λ (q : ℕ). In (number q) v.marked) (sym hit) known)) seat.lasts;
      idle = (ap (λ (q : View). q.about) e, ap (λ (q : View). q.loaded) e, ap (λ (q : View). q.half) e ∙ seat.idle.2);
      whole = (ap (λ (q : View). q.to_deal) e ∙ seat.whole.0, ap (λ (q : View). q.joined) e ∙ seat.whole.1, ap (λ (q : View). q.taken) e ∙ seat.whole.2);
      standing = stands_on seat.bans.items v.bans w.bans (ap (λ (q : View). q.bans) e) seat.standing;
    }
