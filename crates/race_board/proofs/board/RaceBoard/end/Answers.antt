use Rattle.std.proofs.Common.{arith, ◌≡◌, ℕ, ◌+◌, ◌<◌, List, length, set, get_or, length-set, refl, sym, ap, ◌∙◌, subst}
use Rattle.race_board.specs.Words.{parent, number}
use Rattle.race_board.specs.Board.{no_hold}
use Rattle.race_board.specs.Steps.{did, noted, with_hold}
use Rattle.race_board.specs.declared.views.Hold.{Hold}
use Rattle.race_board.specs.declared.views.View.{View}
use Rattle.race_board.proofs.Parts.{zero_number, zero_parent}
use Rattle.race_board.proofs.Gained.{tickets_set, calm_set, Distinct, distinct_set}
use Rattle.race_board.proofs.Tickets.{Roots, roots_set}
use Rattle.race_board.specs.Kinds.{ends}
use Rattle.race_board.specs.declared.views.Size.{Size}
use Rattle.race_board.proofs.Doing.{on_task}
use Rattle.race_board.proofs.Walking.{walk_one, stride, tale}
use Rattle.race_board.proofs.board.RaceBoard.end.Goals as goal

pub invariant_of-seat : goal.invariant_of-seat
invariant_of-seat g c = let seat = c.args.seat.now in let v : View = seat.place.me.0 in let w : View = c.end-seen.new.seat.me.0 in let i : ℕ = c.slot_of-slot.result in
    let e : w ≡ noted (with_hold v i no_hold) (did (i + 1) c.end-seen.result 0) = c.end-seen.ensures.ends in let held : w.held ≡ set v.held i no_hold = ap (λ (q : View). q.held) e in
    let near : i < length seat.words.items = c.slot_of-slot.ensures.0 in let inside : i < length v.held = (let a = seat.sized in omega arith) in let size = ap (λ (q : View). q.size.slots) e in
    record {
      bare = c.end-seen.ensures.fits.1;
      role = ap (λ (q : View). q.lead) e ∙ seat.role;
      sized = (length-set seat.words.items i 0 ∙ (seat.sized.0 ∙ sym size), ap length held ∙ (length-set v.held i no_hold ∙ (seat.sized.1 ∙ sym size)));
      tickets = subst (λ (hs : List Hold). (k : ℕ) → (number (get_or (set seat.words.items i 0) k 0) ≡ (get_or hs k no_hold).number) × (parent (get_or (set seat.words.items i 0) k 0) ≡ (get_or hs k no_hold).parent))
          (sym held) (tickets_set seat.words.items v.held i 0 no_hold near inside zero_number zero_parent seat.tickets);
      distinct = subst Distinct (sym held) (distinct_set v.held i no_hold inside seat.distinct (λ k f n h. n h));
      roots = subst Roots (sym held) (roots_set v.held i no_hold inside (λ _. refl) seat.roots);
      calm = subst (λ (hs : List Hold). (k : ℕ) → (get_or hs k no_hold).seek ≡ 0) (sym held) (calm_set v.held i no_hold inside refl seat.calm);
      refused = subst (λ (n : ℕ). (seat.told ≡ Rattle.std.specs.Prelude.false → n ≡ 0) × (seat.told ≡ Rattle.std.specs.Prelude.true → n ≡ 1)) (sym (ap (λ (q : View). q.told) e)) seat.refused;
      drawn = subst (λ (n : ℕ). n < 1048576) (sym (ap (λ (q : View). q.drawn) e)) seat.drawn;
      greatest = ap (λ (q : View). q.most) e ∙ seat.greatest;
      present = ap (λ (q : View). q.gone) e ∙ seat.present;
    }

pub returns-clause-moments : goal.returns-clause-moments
returns-clause-moments g c = let v : View = c.args.seat.now.place.me.0 in let w : View = c.end-seen.new.seat.me.0 in
    let i : ℕ = c.slot_of-slot.result in
    let low : i < c.args.self.now.words.size.slots = (let a = c.slot_of-slot.ensures.0 in let b = c.args.seat.now.sized.0 in let d = ap (λ (z : Size). z.slots) c.requires.fits.1 in omega arith) in
    (i, c.slot_of-slot.ensures.1 ∙ ap (λ x. x.number) c.id.ensures, walk_one ends v w _ (stride ends v w (i + 1) c.end-seen.result 0 0 _ _ (ap tale c.end-seen.ensures.ends) c.end-seen.ensures.turn (i, on_task v c.args.self.now.words.size i c.requires.fits.1 low, refl, refl) refl))
