use Rattle.std.proofs.Common.{rules, ◌≡◌, ℕ, ◌+◌, [], refl, inl, ap, ◌∙◌, subst}
use Rattle.race_board.specs.Words.{number}
use Rattle.race_board.specs.Kinds.{marks}
use Rattle.race_board.specs.Lists.{mark_events}
use Rattle.race_board.specs.Walks.{Walks}
use Rattle.race_board.specs.Steps.{did, noted}
use Rattle.race_board.specs.declared.views.View.{View}
use Rattle.race_board.proofs.Gained.{longer_more, longer_trans, only_more, saw_now}
use Rattle.race_board.proofs.Listed.{none_seen}
use Rattle.race_board.proofs.MarkSteps.{marks_then}
use Rattle.race_board.proofs.Known.{known_by}
use Rattle.race_board.proofs.Doing.{on_task}
use Rattle.race_board.proofs.Walking.{walk_still, walk_on, stride, tale}
use Rattle.race_board.proofs.board.RaceBoard.mark.Goals as goal

pub loop-slot-preserved : goal.loop-slot-preserved
loop-slot-preserved g c = let v : View = c.args.seat.now.place.me.0 in let u : View = c.loop-slot.seat.place.me.0 in let w : View = c.note-seen.new.seat.me.0 in let n : ℕ = c.note-seen.result in let i : ℕ = c.loop-slot.slot in let inv = c.loop-slot.invariant in
    let e : w ≡ noted u (did (i + 1) n n) = c.note-seen.ensures.notes in record {
      table = search rules;
      only = only_more v u w (did (i + 1) n n) inv.only e;
      longer = longer_more v u w (did (i + 1) n n) inv.longer (ap (λ (q : View). q.steps) e);
      walks = walk_still (marks c.args.cancel) v u w [] inv.walks (stride (marks c.args.cancel) u w (i + 1) n n n _ _ (ap tale e) c.note-seen.ensures.turn (i, on_task u c.args.self.now.words.size i (ap (λ (q : View). q.size) inv.only ∙ c.requires.fits.1) c.loop-slot-test.true, inl (refl, refl)) refl);
      none = none_seen v u w i c.args.number n inv.longer inv.none (search rules) e;
    }

pub returns-then-is_word_of-clause-marks : goal.returns-then-is_word_of-clause-marks
returns-then-is_word_of-clause-marks g c = let v : View = c.args.seat.now.place.me.0 in let u : View = c.loop-slot.seat.place.me.0 in let w : View = c.note-seen.new.seat.me.0 in let x : View = c.mark_seen.new.seat.place.me.0 in let n : ℕ = c.note-seen.result in let i : ℕ = c.loop-slot.slot in let inv = c.loop-slot.invariant in
    let e : w ≡ noted u (did (i + 1) n n) = c.note-seen.ensures.notes in
    marks_then v w x c.args.self.now.words.size i c.args.number n c.args.cancel c.mark_seen.result (only_more v u w (did (i + 1) n n) inv.only e) (longer_more v u w (did (i + 1) n n) inv.longer (ap (λ (q : View). q.steps) e)) c.mark_seen.ensures.steps
    (saw_now v u w (i + 1) n n inv.longer (ap (λ (q : View). q.steps) e)) (search rules) c.mark_seen.ensures.marks

pub returns-then-is_word_of-clause-steps : goal.returns-then-is_word_of-clause-steps
returns-then-is_word_of-clause-steps g c = let v : View = c.args.seat.now.place.me.0 in let u : View = c.loop-slot.seat.place.me.0 in let w : View = c.note-seen.new.seat.me.0 in let x : View = c.mark_seen.new.seat.place.me.0 in let n : ℕ = c.note-seen.result in let i : ℕ = c.loop-slot.slot in let inv = c.loop-slot.invariant in
    let e : w ≡ noted u (did (i + 1) n n) = c.note-seen.ensures.notes in longer_trans v w x (longer_more v u w (did (i + 1) n n) inv.longer (ap (λ (q : View). q.steps) e)) c.mark_seen.ensures.steps

pub returns-then-is_word_of-clause-known : goal.returns-then-is_word_of-clause-known
returns-then-is_word_of-clause-known g c = known_by c.args.seat.now.place.me.0 c.mark_seen.new.seat.place.me.0 c.args.self.now.words.size c.args.number c.args.cancel c.mark_seen.result (returns-then-is_word_of-clause-marks g c)

pub returns-then-is_word_of-clause-moments : goal.returns-then-is_word_of-clause-moments
returns-then-is_word_of-clause-moments g c = let v : View = c.args.seat.now.place.me.0 in let u : View = c.loop-slot.seat.place.me.0 in let w : View = c.note-seen.new.seat.me.0 in let n : ℕ = c.note-seen.result in let i : ℕ = c.loop-slot.slot in let k : ℕ = c.args.cancel in let inv = c.loop-slot.invariant in let is : number n ≡ c.args.number = search rules in
    let more = subst (λ (q : ℕ). Walks (marks k) w c.mark_seen.new.seat.place.me.0 (mark_events q k c.mark_seen.result)) is c.mark_seen.ensures.moments in
    walk_on (marks k) more.0 v w c.mark_seen.new.seat.place.me.0 [] (mark_events c.args.number k c.mark_seen.result) (walk_still (marks k) v u w [] inv.walks (stride (marks k) u w (i + 1) n n n _ _ (ap tale c.note-seen.ensures.notes) c.note-seen.ensures.turn
    (i, on_task u c.args.self.now.words.size i (ap (λ (q : View). q.size) inv.only ∙ c.requires.fits.1) c.loop-slot-test.true, inl (refl, refl)) refl)) more.1
