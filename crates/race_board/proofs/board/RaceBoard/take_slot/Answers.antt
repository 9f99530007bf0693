use Rattle.std.proofs.Common.{rules, arith, ◌≡◌, ℕ, ◌+◌, ◌<◌, List, [], ◌∷◌, length, get_or, set, length-set, refl, sym, ap, ◌∙◌, subst}
use Rattle.race_board.specs.Words.{number, parent}
use Rattle.race_board.specs.Board.{no_hold}
use Rattle.race_board.specs.Steps.{did, noted, took}
use Rattle.race_board.specs.Calls.{ticket}
use Rattle.race_board.specs.declared.views.Size.{Size}
use Rattle.race_board.specs.declared.views.Hold.{Hold}
use Rattle.race_board.specs.declared.views.View.{View}
use Rattle.race_board.proofs.Gained.{tickets_set, calm_set, Distinct, distinct_set, longer_more, only_more, full_more, takes_at}
use Rattle.race_board.proofs.Tickets.{Roots, roots_set, fresh_root}
use Rattle.race_board.specs.Events.{put}
use Rattle.race_board.specs.Kinds.{claims}
use Rattle.race_board.proofs.Doing.{on_task, claim_hits, claim_misses}
use Rattle.race_board.proofs.Walking.{walk_more, walk_still, stride, stride_either, tale}
use Rattle.race_board.proofs.board.RaceBoard.take_slot.Goals as goal

pub claim-requires-clause-data : goal.claim-requires-clause-data
claim-requires-clause-data g c = let seat = c.loop-slot.seat in let view_size : seat.place.me.0.size ≡ c.args.self.now.words.size = ap (λ (v : View). v.size) c.loop-slot.invariant.only ∙ c.requires.fits.1 in
    (search rules, seat.sized.1 ∙ ap (λ (z : Size). z.slots) view_size, c.loop-slot-test.true)

pub claim-requires-clause-word : goal.claim-requires-clause-word
claim-requires-clause-word g c = let drawn : c.loop-slot.seat.place.me.0.drawn ≡ c.args.seat.now.place.me.0.drawn = ap (λ (v : View). v.drawn) c.loop-slot.invariant.only in
    ((λ e. c.requires.word.0 (sym drawn ∙ e)), c.requires.word.1 ∙ sym drawn, c.requires.word.2)

pub returns-then-claim-eq0-clause-taken : goal.returns-then-claim-eq0-clause-taken
returns-then-claim-eq0-clause-taken g c = let seat = c.loop-slot.seat in let i : ℕ = c.loop-slot.slot in let v : View = c.args.seat.now.place.me.0 in let w : View = c.claim.new.seat.me.0 in
    takes_at v seat.place.me.0 w i c.args.word c.loop-slot.invariant.only c.loop-slot.invariant.longer (subst (λ (z : Size). i < z.slots) (sym c.requires.fits.1) c.loop-slot-test.true) (c.claim.ensures.takes c.if-claim-eq0.true) (c.claim.ensures.free c.if-claim-eq0.true)

pub loop-slot-preserved : goal.loop-slot-preserved
loop-slot-preserved g c = let seat = c.loop-slot.seat in let i : ℕ = c.loop-slot.slot in let v : View = c.args.seat.now.place.me.0 in let w : View = c.claim.new.seat.me.0 in let n : ℕ = c.claim.result in
    let e : w ≡ noted seat.place.me.0 (did (i + 1) n n) = c.claim.ensures.taken c.if-claim-eq0.false in let inv = c.loop-slot.invariant in record {
      table = search rules;
      only = only_more v seat.place.me.0 w (did (i + 1) n n) inv.only e;
      longer = longer_more v seat.place.me.0 w (did (i + 1) n n) inv.longer (ap (λ (q : View). q.steps) e);
      walks = walk_still (claims c.args.word) v seat.place.me.0 w [] inv.walks (stride (claims c.args.word) seat.place.me.0 w (i + 1) n n _ _ [] (ap tale e) c.claim.ensures.turn (i, on_task seat.place.me.0 c.args.self.now.words.size i (ap (λ (q : View). q.size) inv.only ∙ c.requires.fits.1) c.loop-slot-test.true, refl, refl) (claim_misses n c.args.word c.if-claim-eq0.false));
      full = full_more v seat.place.me.0 w i n inv.longer inv.full c.if-claim-eq0.false e;
    }

pub invariant_of-seat : goal.invariant_of-seat
invariant_of-seat g c = let seat = c.loop-slot.seat in let i : ℕ = c.loop-slot.slot in let u : View = seat.place.me.0 in let w : View = c.claim.new.seat.me.0 in let y : ℕ = c.args.word in let new : Hold = ticket (number y) (parent y) in
    let e : w ≡ noted (took u i y) (did (i + 1) 0 y) = c.claim.ensures.takes c.if-claim-eq0.true in let held : w.held ≡ set u.held i new = ap (λ (q : View). q.held) e in
    let drawn : u.drawn ≡ c.args.seat.now.place.me.0.drawn = ap (λ (q : View). q.drawn) c.loop-slot.invariant.only in let is : number y ≡ u.drawn = c.requires.word.1 ∙ sym drawn in
    let size : w.size.slots ≡ u.size.slots = ap (λ (q : View). q.size.slots) e in
    let slots : u.size ≡ c.args.self.now.words.size = ap (λ (q : View). q.size) c.loop-slot.invariant.only ∙ c.requires.fits.1 in
    let low : i < u.size.slots = subst (λ (z : Size). i < z.slots) (sym slots) c.loop-slot-test.true in
    let inside : i < length u.held = subst (λ (n : ℕ). i < n) (sym seat.sized.1) low in let near : i < length seat.words.items = subst (λ (n : ℕ). i < n) (sym seat.sized.0) low in
    record {
      bare = c.claim.ensures.fits.1;
      role = ap (λ (q : View). q.lead) e ∙ seat.role;
      sized = (length-set seat.words.items i y ∙ (seat.sized.0 ∙ sym size), ap length held ∙ (length-set u.held i new ∙ (seat.sized.1 ∙ sym size)));
      tickets = subst (λ (hs : List Hold). (k : ℕ) → (number (get_or (set seat.words.items i y) k 0) ≡ (get_or hs k no_hold).number) × (parent (get_or (set seat.words.items i y) k 0) ≡ (get_or hs k no_hold).parent))
          (sym held) (tickets_set seat.words.items u.held i y new near inside refl refl seat.tickets);
      distinct = subst Distinct (sym held) (distinct_set u.held i new inside seat.distinct (λ k f n h. c.claim.ensures.alone k n (h ∙ is)));
      roots = subst Roots (sym held) (roots_set u.held i new inside (fresh_root (parent y)) seat.roots);
      calm = subst (λ (hs : List Hold). (k : ℕ) → (get_or hs k no_hold).seek ≡ 0) (sym held) (calm_set u.held i new inside refl seat.calm);
      refused = subst (λ (n : ℕ). (seat.told ≡ Rattle.std.specs.Prelude.false → n ≡ 0) × (seat.told ≡ Rattle.std.specs.Prelude.true → n ≡ 1)) (sym (ap (λ (q : View). q.told) e)) seat.refused;
      drawn = subst (λ (n : ℕ). n < 1048576) (sym (ap (λ (q : View). q.drawn) e)) (omega arith);
      greatest = ap (λ (q : View). q.most) e ∙ seat.greatest;
      present = ap (λ (q : View). q.gone) e ∙ seat.present;
    }

pub returns-then-claim-eq0-clause-moments : goal.returns-then-claim-eq0-clause-moments
returns-then-claim-eq0-clause-moments g c = let v : View = c.args.seat.now.place.me.0 in let u : View = c.loop-slot.seat.place.me.0 in let w : View = c.claim.new.seat.me.0 in
    let i : ℕ = c.loop-slot.slot in let n : ℕ = c.claim.result in let y : ℕ = c.args.word in
    walk_more (claims y) v u w [] (put (number y) (parent y) ∷ []) c.loop-slot.invariant.walks (stride_either (claims y) u w (i + 1) n 0 y _ _ (put (number y) (parent y) ∷ []) (λ e. ap tale (c.claim.ensures.takes e)) (λ e. ap tale (c.claim.ensures.taken e)) c.claim.ensures.turn
    (i, on_task u c.args.self.now.words.size i (ap (λ (q : View). q.size) c.loop-slot.invariant.only ∙ c.requires.fits.1) c.loop-slot-test.true, refl, refl) (claim_hits n y c.if-claim-eq0.true))
