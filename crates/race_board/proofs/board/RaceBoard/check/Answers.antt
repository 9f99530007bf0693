use Rattle.std.proofs.Common.{rules, arith, ◌≡◌, ◌≢◌, ℕ, ◌+◌, ◌<◌, ◌⊎◌, [], ◌∷◌, ◌++◌, List, length, get_or, set, length-set, refl, sym, ap, ◌∙◌, subst, inr}
use Rattle.race_board.specs.Words.{banned, by}
use Rattle.race_board.specs.Keys.{parent_key}
use Rattle.race_board.specs.Board.{hold, no_hold}
use Rattle.race_board.specs.Steps.{did, noted, with_check}
use Rattle.race_board.specs.Calls.{SawNoBan}
use Rattle.race_board.specs.Checks.{Checked, ticket_parent}
use Rattle.race_board.specs.declared.views.Did.{Did}
use Rattle.race_board.specs.declared.views.Size.{Size}
use Rattle.race_board.specs.declared.views.Hold.{Hold}
use Rattle.race_board.specs.declared.views.Progress.{Progress}
use Rattle.race_board.specs.declared.views.Progress.TheVariants.{Next, Banned}
use Rattle.race_board.specs.declared.views.View.{View}
use Rattle.race_board.proofs.Parts.{banned_some}
use Rattle.race_board.proofs.Gained.{longer_same, longer_more, saw_now}
use Rattle.race_board.proofs.Checking.{reached, reached_next, reached_end, checked_at_first, checked_hold, checked_goes, checked_on, steps_on, none_more, ticket_at, check_fields, some_check}
use Rattle.race_board.proofs.Tickets.{Roots, roots_set}
use Rattle.race_board.specs.Events.{passed}
use Rattle.race_board.specs.StepEvents.{of_check}
use Rattle.race_board.specs.Kinds.{checks}
use Rattle.race_board.specs.Walks.{Walks}
use Rattle.race_board.proofs.Doing.{where_same, where_other, on_ban, so_far, check_hits, check_misses, child_passes}
use Rattle.race_board.proofs.Walking.{walk_none, walk_more, walk_still, stride, same_or_not, tale}
use Rattle.race_board.proofs.board.RaceBoard.check.Goals as goal

pub loop-place-init : goal.loop-place-init
loop-place-init g c = let seat = c.args.seat.now in let v : View = seat.place.me.0 in let i : ℕ = c.slot_of-slot.result in let t = c.args.ticket.now in
    let numbered : (hold v i).number ≡ t.id.number = c.slot_of-slot.ensures.1 ∙ ap (λ x. x.number) c.id.ensures in let some : t.id.number ≢ 0 = λ e. c.slot_of-slot.ensures.2 (ap (λ x. x.number) c.id.ensures ∙ e) in
    let of_ticket : c.key_of-parent.result ≡ ticket_parent t = c.key_of-parent.ensures.key ∙ ap parent_key (sym c.in-Some.is ∙ c.parent.ensures) in
    let child : (hold v i).parent ≡ ticket_parent t = ticket_at v t i seat.distinct c.requires.ticket some numbered in
    record {
      table = refl;
      inside = (let a = c.slot_of-slot.ensures.0 in let b = seat.sized in omega arith);
      numbered = numbered;
      some = some;
      child = child ∙ sym of_ticket;
      of_ticket = of_ticket;
      on = checked_at_first v i;
      longer = longer_same v;
      walks = subst (Walks (checks t.id.number) v v) (sym (where_other 0 c.args.self.now.words.size.bans (passed t.id.number ∷ []) [] (λ e. let l : 0 < c.args.self.now.words.size.bans = search rules in absurd (omega arith)))) (walk_none (checks t.id.number) v);
      none_yet = λ j l. absurd (omega arith);
    }

pub check-seen-requires-clause-fits : goal.check-seen-requires-clause-fits
check-seen-requires-clause-fits g c = let seat = c.loop-place.seat in
    (c.loop-place.invariant.table ∙ c.requires.fits.0, seat.bare, ap (λ (q : View). q.size) c.loop-place.invariant.on ∙ c.requires.fits.1)

pub check-seen-requires-clause-data : goal.check-seen-requires-clause-data
check-seen-requires-clause-data g c = let seat = c.loop-place.seat in let size : seat.place.me.0.size ≡ c.args.self.now.words.size = ap (λ (q : View). q.size) c.loop-place.invariant.on ∙ c.requires.fits.1 in
    (seat.role, seat.sized.1 ∙ ap (λ (z : Size). z.slots) size, c.loop-place-test.true)

pub check-seen-requires-clause-ticket : goal.check-seen-requires-clause-ticket
check-seen-requires-clause-ticket g c = let v : View = c.args.seat.now.place.me.0 in let u : View = c.loop-place.seat.place.me.0 in let i : ℕ = c.slot_of-slot.result in let j : ℕ = c.loop-place.place in let b : ℕ = c.args.self.now.words.size.bans in let inv = c.loop-place.invariant in
    let here : hold u i ≡ _ = checked_hold v u i (reached j b (hold v i).check) inv.inside inv.on in
    ((λ e. inv.some (sym inv.numbered ∙ (sym (ap (λ (h : Hold). h.number) here) ∙ e))), subst (λ (h : Hold). (j ≡ 0) ⊎ (h.check ≡ Next j)) (sym here) (reached_next j b (hold v i).check c.loop-place-test.true))

pub invariant_of-seat : goal.invariant_of-seat
invariant_of-seat g c = let seat = c.loop-place.seat in let u : View = seat.place.me.0 in let w : View = c.check-seen.new.seat.me.0 in let i : ℕ = c.slot_of-slot.result in let n : ℕ = c.check-seen.result in let z : Size = c.args.self.now.words.size in let d : Did = did (z.slots + c.loop-place.place + 1) n n in
    let got = some_check u w i c.loop-place.place z.bans (hold u i).parent n d c.check-seen.ensures.banned c.check-seen.ensures.clear c.check-seen.ensures.next in let k : Progress = got.0 in let e : w ≡ noted (with_check u i k) d = got.1 in
    let wide : length u.held ≡ length c.args.seat.now.place.me.0.held = ap (λ (q : View). length q.held) c.loop-place.invariant.on ∙ length-set c.args.seat.now.place.me.0.held i (record (hold c.args.seat.now.place.me.0 i) { check = reached c.loop-place.place z.bans (hold c.args.seat.now.place.me.0 i).check }) in
    let inside : i < length u.held = subst (λ (m : ℕ). i < m) (sym wide) c.loop-place.invariant.inside in
    let held : w.held ≡ set u.held i (record (hold u i) { check = k }) = ap (λ (q : View). q.held) e in
    let here : hold u i ≡ _ = checked_hold c.args.seat.now.place.me.0 u i (reached c.loop-place.place z.bans (hold c.args.seat.now.place.me.0 i).check) c.loop-place.invariant.inside c.loop-place.invariant.on in
    let fields : (q : ℕ) → ((hold w q).number ≡ (hold u q).number) × ((hold w q).parent ≡ (hold u q).parent) × ((hold w q).seek ≡ (hold u q).seek) =
    λ q. subst (λ (hs : List Hold). ((get_or hs q no_hold).number ≡ (hold u q).number) × ((get_or hs q no_hold).parent ≡ (hold u q).parent) × ((get_or hs q no_hold).seek ≡ (hold u q).seek)) (sym held) (check_fields u.held i k q inside) in
    record {
      bare = c.check-seen.ensures.fits.1;
      role = ap (λ (q : View). q.lead) e ∙ seat.role;
      sized = (seat.sized.0 ∙ sym (ap (λ (q : View). q.size.slots) e), ap length held ∙ (length-set u.held i (record (hold u i) { check = k }) ∙ (seat.sized.1 ∙ sym (ap (λ (q : View). q.size.slots) e))));
      tickets = λ q. let t = seat.tickets q in (t.0 ∙ sym (fields q).0, t.1 ∙ sym (fields q).1);
      distinct = λ q r m f. seat.distinct q r (λ x. m ((fields q).0 ∙ x)) (sym (fields q).0 ∙ (f ∙ (fields r).0));
      roots = subst Roots (sym held) (roots_set u.held i (record (hold u i) { check = k }) inside (λ f. absurd (c.key_of-parent.ensures.some.0 (sym (ap (λ (h : Hold). h.parent) here ∙ c.loop-place.invariant.child) ∙ f))) seat.roots);
      calm = λ q. (fields q).2 ∙ seat.calm q;
      refused = subst (λ (m : ℕ). (seat.told ≡ Rattle.std.specs.Prelude.false → m ≡ 0) × (seat.told ≡ Rattle.std.specs.Prelude.true → m ≡ 1)) (sym (ap (λ (q : View). q.told) e)) seat.refused;
      drawn = subst (λ (m : ℕ). m < 1048576) (sym (ap (λ (q : View). q.drawn) e)) seat.drawn;
      greatest = ap (λ (q : View). q.most) e ∙ seat.greatest;
      present = ap (λ (q : View). q.gone) e ∙ seat.present;
    }

pub loop-place-preserved : goal.loop-place-preserved
loop-place-preserved g c = let v : View = c.args.seat.now.place.me.0 in let u : View = c.loop-place.seat.place.me.0 in let w : View = c.check-seen.new.seat.me.0 in let i : ℕ = c.slot_of-slot.result in let j : ℕ = c.loop-place.place in let z : Size = c.args.self.now.words.size in let inv = c.loop-place.invariant in
    let n : ℕ = c.check-seen.result in let d : Did = did (z.slots + j + 1) n n in let here : hold u i ≡ _ = checked_hold v u i (reached j z.bans (hold v i).check) inv.inside inv.on in
    let miss : banned n ≢ c.key_of-parent.result = λ e. c.if-banned_of-parent.false (c.banned_of.ensures ∙ e) in
    let miss' : banned n ≢ (hold u i).parent = λ e. miss (e ∙ (ap (λ (h : Hold). h.parent) here ∙ inv.child)) in
    let t : ℕ = c.args.ticket.now.id.number in let size : u.size ≡ z = ap (λ (q : View). q.size) inv.on ∙ c.requires.fits.1 in
    let number_is : (hold u i).number ≡ t = ap (λ (h : Hold). h.number) here ∙ inv.numbered in
    let events_are : of_check (hold u i) (z.slots + j + 1) (u.size.slots + u.size.bans) n ≡ so_far t (j + 1) z.bans = ap (λ (q : Size). of_check (hold u i) (z.slots + j + 1) (q.slots + q.bans) n) size ∙ check_misses (hold u i) z.slots j z.bans n t number_is miss' in
    let steps : w.steps ≡ u.steps ++ d ∷ [] = steps_on u w i j z.bans d (c.check-seen.ensures.clear miss') (c.check-seen.ensures.next miss') in
    record {
      table = c.check-seen.ensures.fits.0 ∙ inv.table;
      inside = inv.inside;
      numbered = inv.numbered;
      some = inv.some;
      child = inv.child;
      of_ticket = inv.of_ticket;
      on = checked_on v u w i j z.bans (hold v i).check d inv.inside inv.on (c.check-seen.ensures.clear miss') (c.check-seen.ensures.next miss');
      longer = longer_more v u w d inv.longer steps;
      walks = walk_more (checks t) v u w [] (so_far t (j + 1) z.bans) (subst (Walks (checks t) v u) (where_other j z.bans (passed t ∷ []) [] (λ e. let l = c.loop-place-test.true in absurd (omega arith))) inv.walks)
          (stride (checks t) u w (z.slots + j + 1) n n n _ (so_far t (j + 1) z.bans) (same_or_not u w d (j + 1) z.bans (λ e. ap tale (c.check-seen.ensures.clear miss' e)) (λ e. ap tale (c.check-seen.ensures.next miss' e))) c.check-seen.ensures.turn (i, j, number_is, on_ban u z j size c.loop-place-test.true, refl, refl) events_are);
      none_yet = none_more v u w z.slots j c.key_of-parent.result n inv.longer inv.none_yet miss steps;
    }

pub overflow_cast-result : goal.overflow_cast-result
overflow_cast-result g c = let n : ℕ = c.check-seen.result in let hit : banned n ≡ c.key_of-parent.result = sym c.banned_of.ensures ∙ c.if-banned_of-parent.true in
    let some : n ≢ 0 = banned_some n (λ e. c.key_of-parent.ensures.some.0 (sym hit ∙ e)) in let may = c.check-seen.ensures.allowed some in let is = c.by_of.ensures in omega arith

pub returns-then-banned_of-parent-clause-steps : goal.returns-then-banned_of-parent-clause-steps
returns-then-banned_of-parent-clause-steps g c = let v : View = c.args.seat.now.place.me.0 in let u : View = c.loop-place.seat.place.me.0 in let w : View = c.check-seen.new.seat.me.0 in let i : ℕ = c.slot_of-slot.result in let j : ℕ = c.loop-place.place in let z : Size = c.args.self.now.words.size in let inv = c.loop-place.invariant in
    let n : ℕ = c.check-seen.result in let d : Did = did (z.slots + j + 1) n n in let here : hold u i ≡ _ = checked_hold v u i (reached j z.bans (hold v i).check) inv.inside inv.on in
    let hit : banned n ≡ c.key_of-parent.result = sym c.banned_of.ensures ∙ c.if-banned_of-parent.true in
    longer_more v u w d inv.longer (ap (λ (q : View). q.steps) (c.check-seen.ensures.banned (hit ∙ sym (ap (λ (h : Hold). h.parent) here ∙ inv.child))))

pub returns-then-banned_of-parent-clause-checked : goal.returns-then-banned_of-parent-clause-checked
returns-then-banned_of-parent-clause-checked g c = let v : View = c.args.seat.now.place.me.0 in let u : View = c.loop-place.seat.place.me.0 in let w : View = c.check-seen.new.seat.me.0 in let i : ℕ = c.slot_of-slot.result in let j : ℕ = c.loop-place.place in let z : Size = c.args.self.now.words.size in let inv = c.loop-place.invariant in
    let n : ℕ = c.check-seen.result in let d : Did = did (z.slots + j + 1) n n in let here : hold u i ≡ _ = checked_hold v u i (reached j z.bans (hold v i).check) inv.inside inv.on in
    let hit : banned n ≡ c.key_of-parent.result = sym c.banned_of.ensures ∙ c.if-banned_of-parent.true in
    let e : w ≡ noted (with_check u i (Banned (by n))) d = c.check-seen.ensures.banned (hit ∙ sym (ap (λ (h : Hold). h.parent) here ∙ inv.child)) in (
      (λ f. c.key_of-parent.ensures.some.0 (inv.of_ticket ∙ f)),
      (
        i,
        inv.numbered,
        (j, n, saw_now v u w (z.slots + j + 1) n n inv.longer (ap (λ (q : View). q.steps) e), hit ∙ inv.of_ticket, sym c.by_of.ensures),
        subst (λ (k : ℕ). Checked v w i (Banned k)) (sym c.by_of.ensures) (checked_goes v u w i (reached j z.bans (hold v i).check) (Banned (by n)) d inv.inside inv.on e),
      ),
    )

pub returns-then-banned_of-parent-clause-allowed : goal.returns-then-banned_of-parent-clause-allowed
returns-then-banned_of-parent-clause-allowed g c = let n : ℕ = c.check-seen.result in let hit : banned n ≡ c.key_of-parent.result = sym c.banned_of.ensures ∙ c.if-banned_of-parent.true in
    let some : n ≢ 0 = banned_some n (λ e. c.key_of-parent.ensures.some.0 (sym hit ∙ e)) in subst g.N.BoardName.allowed (sym c.by_of.ensures) (c.check-seen.ensures.allowed some).0

pub returns-clause-checked : goal.returns-clause-checked
returns-clause-checked g c = let v : View = c.args.seat.now.place.me.0 in let u : View = c.loop-place.seat.place.me.0 in let i : ℕ = c.slot_of-slot.result in let j : ℕ = c.loop-place.place in let z : Size = c.args.self.now.words.size in let inv = c.loop-place.invariant in
    let last : j ≡ z.bans = omega arith in let some_bans : 0 < z.bans = search rules in
    inr (i, inv.numbered, subst (λ (x : ℕ × ℕ). SawNoBan v u z.slots x.0 x.1) (λ x. (last x, inv.of_ticket x)) inv.none_yet, subst (Checked v u i) (reached_end j z.bans (hold v i).check some_bans last) inv.on)

pub returns-then-banned_of-parent-clause-moments : goal.returns-then-banned_of-parent-clause-moments
returns-then-banned_of-parent-clause-moments g c = let v : View = c.args.seat.now.place.me.0 in let u : View = c.loop-place.seat.place.me.0 in let w : View = c.check-seen.new.seat.me.0 in let i : ℕ = c.slot_of-slot.result in let j : ℕ = c.loop-place.place in let z : Size = c.args.self.now.words.size in let inv = c.loop-place.invariant in
    let n : ℕ = c.check-seen.result in let here : hold u i ≡ _ = checked_hold v u i (reached j z.bans (hold v i).check) inv.inside inv.on in
    let hit : banned n ≡ c.key_of-parent.result = sym c.banned_of.ensures ∙ c.if-banned_of-parent.true in
    let t : ℕ = c.args.ticket.now.id.number in let size : u.size ≡ z = ap (λ (q : View). q.size) inv.on ∙ c.requires.fits.1 in let number_is : (hold u i).number ≡ t = ap (λ (h : Hold). h.number) here ∙ inv.numbered in
    let hit' : banned n ≡ (hold u i).parent = hit ∙ sym (ap (λ (h : Hold). h.parent) here ∙ inv.child) in
    walk_still (checks t) v u w [] (subst (Walks (checks t) v u) (where_other j z.bans (passed t ∷ []) [] (λ e. let l = c.loop-place-test.true in absurd (omega arith))) inv.walks)
    (stride (checks t) u w (z.slots + j + 1) n n n _ [] (ap tale (c.check-seen.ensures.banned hit')) c.check-seen.ensures.turn (i, j, number_is, on_ban u z j size c.loop-place-test.true, refl, refl) (check_hits (hold u i) (z.slots + j + 1) (u.size.slots + u.size.bans) n hit'))

pub returns-clause-moments : goal.returns-clause-moments
returns-clause-moments g c = let v : View = c.args.seat.now.place.me.0 in let u : View = c.loop-place.seat.place.me.0 in let j : ℕ = c.loop-place.place in let z : Size = c.args.self.now.words.size in let inv = c.loop-place.invariant in let t : ℕ = c.args.ticket.now.id.number in
    let last : j ≡ z.bans = omega arith in
    subst (Walks (checks t) v u) (where_same j z.bans (passed t ∷ []) [] last ∙ child_passes c.args.ticket.now (λ e. c.key_of-parent.ensures.some.0 (inv.of_ticket ∙ e))) inv.walks
