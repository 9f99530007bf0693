use Rattle.std.proofs.Common.{rules, arith, ◌≡◌, ℕ, ◌+◌, ◌<◌, ◌≤◌, List, [], ◌∷◌, ◌++◌, Option, length, length-set, set, take, slice_index, get_or, sym, refl, ap, ◌∙◌, subst, append_assoc, append-nil}
use Rattle.std.proofs.lemmas.Grind.{get_or_default_zero}
use Rattle.std.proofs.lemmas.List.{take_more_set}
use Rattle.race_board.specs.Words.{banned, by}
use Rattle.race_board.specs.Board.{ban, In}
use Rattle.race_board.specs.Steps.{banning}
use Rattle.race_board.specs.Calls.{Longer}
use Rattle.race_board.specs.Walks.{Walks}
use Rattle.race_board.specs.Events.{Event, listed}
use Rattle.race_board.specs.Kinds.{lists}
use Rattle.race_board.specs.Lists.{Listing, HandsOver, new_to, as_list, marks_with, done_at, pass_events}
use Rattle.race_board.specs.declared.views.Size.{Size}
use Rattle.race_board.specs.declared.views.Ban.{Ban}
use Rattle.race_board.specs.declared.views.View.{View}
use Rattle.race_board.proofs.Parts.{banned_ban, by_ban}
use Rattle.race_board.proofs.Gained.{longer_same, longer_trans}
use Rattle.race_board.proofs.Listed.{listing_first, listing_passes, listing_marked, listing_ban, stands_on, stands_past}
use Rattle.race_board.proofs.News.{new_more, marked_then}
use Rattle.race_board.proofs.Handed.{SameFrom, same_news, same_after, handed_more, list_more}
use Rattle.race_board.proofs.Passing.{lasts_passed}
use Rattle.race_board.proofs.Doing.{where_same, where_other}
use Rattle.race_board.proofs.Own.{stops_all, lasts_same}
use Rattle.race_board.proofs.Known.{in_taken}
use Rattle.race_board.proofs.Walking.{walk_none, walk_on}
use Rattle.race_board.proofs.board.RaceBoard.list.Goals.{in-Some, in_default}
use Rattle.race_board.proofs.board.RaceBoard.list.Goals as goal

pub overflow_cast-cancel : goal.overflow_cast-cancel
overflow_cast-cancel g c = let seat = c.args.seat.now in let j : ℕ = c.args.place in let near : j < length seat.bans.items = (let a = seat.sized.0 in let b = c.requires.ban.0 in let d = ap (λ (z : Size). z.bans) c.requires.fits.1 in omega arith) in
    let word : slice_index seat.bans.items j ≡ c.index-2.result.now = sym (get_or_default_zero seat.bans.items j c.index-2.result.now near) ∙ sym c.index-2.ensures in let stands = seat.standing j in
    let is : c.by_of-cancel.result ≡ (ban seat.place.me.0 j).cancel = c.by_of-cancel.ensures ∙ (ap by (sym word ∙ stands.0) ∙ by_ban (ban seat.place.me.0 j).parent (ban seat.place.me.0 j).cancel stands.1) in let small = stands.2 in omega arith

pub loop-slot-init : goal.loop-slot-init
loop-slot-init g c = let seat = c.args.seat.now in let v : View = seat.place.me.0 in let j : ℕ = c.args.place in let near : j < length seat.bans.items = (let a = seat.sized.0 in let b = c.requires.ban.0 in let d = ap (λ (z : Size). z.bans) c.requires.fits.1 in omega arith) in
    let inside : j < length v.bans = (let a = seat.sized in omega arith) in
    let word : slice_index seat.bans.items j ≡ c.index.result.now = sym (get_or_default_zero seat.bans.items j c.index.result.now near) ∙ sym c.index.ensures in
    let word2 : slice_index seat.bans.items j ≡ c.index-2.result.now = sym (get_or_default_zero seat.bans.items j c.index-2.result.now near) ∙ sym c.index-2.ensures in let stands = seat.standing j in
    record {
      table = refl;
      parent = c.banned_of-parent.ensures ∙ (ap banned (sym word ∙ stands.0) ∙ banned_ban (ban v j).parent (ban v j).cancel stands.1);
      cancel = c.by_of-cancel.ensures ∙ (ap by (sym word2 ∙ stands.0) ∙ by_ban (ban v j).parent (ban v j).cancel stands.1);
      inside = inside;
      on = listing_first v j inside c.requires.ban.2 seat.idle.0 seat.idle.1;
      same = λ k _. refl;
      handed = refl;
      longer = longer_same v;
      walks = subst (Walks (lists j c.by_of-cancel.result) v v) (sym (where_other 0 c.args.self.now.words.size.slots (listed j ∷ []) [] (λ e. let l : 0 < c.args.self.now.words.size.slots = search rules in absurd (omega arith)))) (walk_none (lists j c.by_of-cancel.result) v);
      few = omega arith;
      room = c.requires.room;
    }

-- what holds after a slot, of the view after its pass and of the numbers that are handed over then
abbrev pub After : View → View → Size → ℕ → ℕ → ℕ → ℕ → List ℕ → Type 0
After v w z p j k i ns = Listing v w j i (v.marked ++ new_to v ns) × SameFrom v w i × HandsOver v w p k i ns × Longer v w × Walks (lists j k) v w (marks_with k (new_to v ns) ++ done_at z j i)

pub loop-slot-preserved : goal.loop-slot-preserved
loop-slot-preserved g c = let v : View = c.args.seat.now.place.me.0 in let u : View = c.loop-slot.seat.place.me.0 in let w : View = c.pass_slot.new.seat.me.0 in let j : ℕ = c.args.place in let i : ℕ = c.loop-slot.slot in let inv = c.loop-slot.invariant in let z : Size = c.args.self.now.words.size in
    let p : ℕ = c.banned_of-parent.result in let k : ℕ = c.by_of-cancel.result in let got = c.pass_slot.result in let ns : List ℕ = take c.loop-slot.count c.loop-slot.found in let lasts = c.args.seat.now.lasts in let told = c.pass_slot.ensures in
    let news : new_to u (as_list got) ≡ new_to v (as_list got) = same_news v u i (new_to v ns) got lasts inv.same (ap (λ (q : View). q.marked) inv.on) told.last in
    let all : new_to v ns ++ new_to v (as_list got) ≡ new_to v (ns ++ as_list got) = sym (new_more v ns (as_list got)) in
    let on : Listing v w j (i + 1) (v.marked ++ new_to v (ns ++ as_list got)) = listing_marked v w j (i + 1) _ _ (append_assoc v.marked (new_to v ns) (new_to v (as_list got)) ∙ ap (λ (l : List ℕ). v.marked ++ l) all) (listing_passes v u w j i (v.marked ++ new_to v ns) (new_to v (as_list got)) got inv.inside inv.on news told.passes) in
    let more : Walks (lists j k) u w (pass_events z j k i (new_to v (as_list got))) = subst (λ (l : List ℕ). Walks (lists j k) u w (pass_events z j k i l)) news told.moments in
    let walks : Walks (lists j k) v w (marks_with k (new_to v (ns ++ as_list got)) ++ done_at z j (i + 1)) = subst (Walks (lists j k) v w) (list_more z j k i (new_to v ns) (new_to v (as_list got)) (λ e. let l = c.loop-slot-test.true in absurd (omega arith)) ∙ ap (λ (l : List ℕ). marks_with k l ++ done_at z j (i + 1)) all)
    (walk_on (lists j k) more.0 v u w (marks_with k (new_to v ns) ++ done_at z j i) (pass_events z j k i (new_to v (as_list got))) inv.walks more.1) in
    let same : SameFrom v w (i + 1) = same_after v u w i got inv.same (ap (λ (q : View). q.last) told.passes) in
    let handed : HandsOver v w p k (i + 1) (ns ++ as_list got) = handed_more v u w p k i ns got lasts inv.same inv.longer told.steps told.last inv.handed told.hands in
    let after : After v w z p j k (i + 1) (ns ++ as_list got) = (on, same, handed, longer_trans v u w inv.longer told.steps, walks) in
    let table : c.pass_slot.new.seat.table_id ≡ c.args.seat.now.place.table_id = told.fits.0 ∙ inv.table in let few : c.loop-slot.count ≤ i = inv.few in
    let room : c.loop-slot.count < length c.loop-slot.found = (let a = inv.room in let d = c.loop-slot-test.true in omega arith) in
    elim c.match-pass_slot.branch [
      | in-Some b ↦ (let r = b.in-Some.number in
          let now : ns ++ as_list got ≡ take c.match-pass_slot.count c.match-pass_slot.found = ap (λ (o : Option ℕ). ns ++ as_list o) b.in-Some.is ∙ (sym (take_more_set c.loop-slot.found c.loop-slot.count r room) ∙ (λ y. take (sym b.count-is y) (sym b.found-is y))) in
          let t : After v c.match-pass_slot.seat.place.me.0 z p j k (i + 1) (take c.match-pass_slot.count c.match-pass_slot.found) = subst (λ (q : View × List ℕ). After v q.0 z p j k (i + 1) q.1) (λ y. ((ap (λ s. s.place.me.0) (sym b.seat-is)) y, now y)) after in
          record { table = ap (λ s. s.place.table_id) b.seat-is ∙ table; parent = inv.parent; cancel = inv.cancel; inside = inv.inside; on = t.0; same = t.1; handed = t.2; longer = t.3; walks = t.4; few = omega arith; room = search rules })
      | in_default b ↦ (let now : ns ++ as_list got ≡ take c.match-pass_slot.count c.match-pass_slot.found = ap (λ (o : Option ℕ). ns ++ as_list o) b.in_default.is ∙ (append-nil ns ∙ (λ y. take (sym b.count-is y) (sym b.found-is y))) in
          let t : After v c.match-pass_slot.seat.place.me.0 z p j k (i + 1) (take c.match-pass_slot.count c.match-pass_slot.found) = subst (λ (q : View × List ℕ). After v q.0 z p j k (i + 1) q.1) (λ y. ((ap (λ s. s.place.me.0) (sym b.seat-is)) y, now y)) after in
          record { table = ap (λ s. s.place.table_id) b.seat-is ∙ table; parent = inv.parent; cancel = inv.cancel; inside = inv.inside; on = t.0; same = t.1; handed = t.2; longer = t.3; walks = t.4; few = omega arith; room = search rules })
    ]

pub returns-clause-known : goal.returns-clause-known
returns-clause-known g c k l = let v : View = c.args.seat.now.place.me.0 in let inv = c.loop-slot.invariant in let few = inv.few in let room = inv.room in
    subst (In (get_or c.loop-slot.found k 0)) (sym (ap (λ (q : View). q.marked) inv.on)) (marked_then v (get_or c.loop-slot.found k 0) (take c.loop-slot.count c.loop-slot.found) (in_taken c.loop-slot.found c.loop-slot.count k (omega arith) (omega arith)))

pub returns-clause-moments : goal.returns-clause-moments
returns-clause-moments g c = let v : View = c.args.seat.now.place.me.0 in let w : View = c.loop-slot.seat.place.me.0 in let j : ℕ = c.args.place in let z : Size = c.args.self.now.words.size in let inv = c.loop-slot.invariant in let ns : List ℕ = new_to v (take c.loop-slot.count c.loop-slot.found) in
    let last : c.loop-slot.slot ≡ z.slots = omega arith in
    subst (λ (t : ℕ × List Event). Walks (lists j t.0) v w (marks_with t.0 ns ++ t.1)) (λ y. (inv.cancel y, (where_same c.loop-slot.slot z.slots (listed j ∷ []) [] last) y)) inv.walks

pub returns-clause-handed : goal.returns-clause-handed
returns-clause-handed g c = let v : View = c.args.seat.now.place.me.0 in let w : View = c.loop-slot.seat.place.me.0 in let inv = c.loop-slot.invariant in
    let last : c.loop-slot.slot ≡ c.args.self.now.words.size.slots = omega arith in
    subst (λ (t : ℕ × (ℕ × ℕ)). HandsOver v w t.0 t.1.0 t.1.1 (take c.loop-slot.count c.loop-slot.found)) (λ y. (inv.parent y, (inv.cancel y, last y))) inv.handed

pub returns-clause-done : goal.returns-clause-done
returns-clause-done g c = let v : View = c.args.seat.now.place.me.0 in let w : View = c.loop-slot.seat.place.me.0 in let j : ℕ = c.args.place in let z : Size = c.args.self.now.words.size in let inv = c.loop-slot.invariant in
    let last : c.loop-slot.slot ≡ z.slots = omega arith in let here = listing_ban v w j c.loop-slot.slot (v.marked ++ new_to v (take c.loop-slot.count c.loop-slot.found)) inv.inside inv.on in
    (c.requires.ban.0, (λ e. c.requires.ban.1 (sym (ap (λ (b : Ban). b.parent) here) ∙ e)), ap (λ (b : Ban). b.next) here ∙ last, ap (λ (q : View). q.about) inv.on)

pub returns-clause-stops : goal.returns-clause-stops
returns-clause-stops g c s at = let w : View = c.loop-slot.seat.place.me.0 in let role = c.loop-slot.seat.role in stops_all c.args.self.now.words.size w s at (λ e. absurd (omega arith)) c.args.place (returns-clause-done g c)

pub invariant_of-seat : goal.invariant_of-seat
invariant_of-seat g c = let seat = c.loop-slot.seat in let u : View = seat.place.me.0 in let w : View = c.pass_slot.new.seat.me.0 in let j : ℕ = c.args.place in let i : ℕ = c.loop-slot.slot in let r : ℕ = c.in-Some.number in let inv = c.loop-slot.invariant in
    let b : Ban = banning (ban u j).parent (ban u j).cancel (i + 1) in
    let pass = c.in-Some.ensures.passes in let size : w.size ≡ u.size = ap (λ (q : View). q.size) pass in
    let last : w.last ≡ set u.last i r = ap (λ (q : View). q.last) pass in
    let bans : length u.bans ≡ length c.args.seat.now.place.me.0.bans = (ap (λ (q : View). length q.bans) inv.on) ∙ length-set c.args.seat.now.place.me.0.bans j _ in let near : j < length u.bans = (let a = inv.inside in omega arith) in
    let low : i < u.size.slots = (let a = c.loop-slot-test.true in let d = ap (λ (q : View). q.size.slots) inv.on in let f = ap (λ (q : Size). q.slots) c.requires.fits.1 in omega arith) in
    let inside : i < length u.last = (let a = seat.latest.0 in let d = ap (λ (l : List ℕ). length l) seat.latest.1 in omega arith) in
    record {
      bare = c.pass_slot.ensures.fits.1;
      role = ap (λ (q : View). q.lead) pass ∙ seat.role;
      sized = (seat.sized.0 ∙ sym (ap (λ (q : Size). q.bans) size), ap (λ (q : View). length q.bans) pass ∙ (length-set u.bans j b ∙ (seat.sized.1 ∙ sym (ap (λ (q : Size). q.bans) size))));
      latest = (length-set seat.marked.items i r ∙ (seat.latest.0 ∙ sym (ap (λ (q : Size). q.slots) size)), (λ x. set (seat.latest.1 x) i r) ∙ sym last);
      lasts = lasts_passed u w i r inside last (ap (λ (q : View). q.marked) pass) c.in-Some.ensures.last seat.lasts;
      idle = (ap (λ (q : View). q.about) pass, ap (λ (q : View). q.loaded) pass, ap (λ (q : View). q.half) pass ∙ seat.idle.2);
      whole = (ap (λ (q : View). q.to_deal) pass ∙ seat.whole.0, ap (λ (q : View). q.joined) pass ∙ seat.whole.1, ap (λ (q : View). q.taken) pass ∙ seat.whole.2);
      standing = stands_on seat.bans.items (set u.bans j b) w.bans (ap (λ (q : View). q.bans) pass) (stands_past seat.bans.items u.bans j (i + 1) near seat.standing);
    }

pub invariant_of-seat-in_default-clause-lasts : goal.invariant_of-seat-in_default-clause-lasts
invariant_of-seat-in_default-clause-lasts g c = let u : View = c.loop-slot.seat.place.me.0 in let pass = c.in_default.ensures.passes in
    lasts_same u c.pass_slot.new.seat.me.0 (ap (λ (q : View). q.last) pass) (ap (λ (q : View). q.marked) pass ∙ append-nil u.marked) c.loop-slot.seat.lasts

pub invariant_of-seat-in_default-clause-standing : goal.invariant_of-seat-in_default-clause-standing
invariant_of-seat-in_default-clause-standing g c = let seat = c.loop-slot.seat in let u : View = seat.place.me.0 in let v : View = c.args.seat.now.place.me.0 in let j : ℕ = c.args.place in let i : ℕ = c.loop-slot.slot in let inv = c.loop-slot.invariant in
    let near : j < length u.bans = (let a = inv.inside in let b = (ap (λ (q : View). length q.bans) inv.on) ∙ length-set v.bans j _ in omega arith) in
    stands_on seat.bans.items (set u.bans j (banning (ban u j).parent (ban u j).cancel (i + 1))) c.pass_slot.new.seat.me.0.bans (ap (λ (q : View). q.bans) c.in_default.ensures.passes) (stands_past seat.bans.items u.bans j (i + 1) near seat.standing)
