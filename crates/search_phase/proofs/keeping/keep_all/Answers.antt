-- The keys so far are the first of those that came; there is room for each that will be kept, as `keep` requires.
use Rattle.std.proofs.Common.{◌≤◌, ◌∷◌, ◌++◌, length, take, [], sym, ap, ◌∙◌, arith, subst, heap_items}
use Rattle.std.specs.BinaryHeap.{IsHeap}
use Rattle.std.proofs.lemmas.List.{append-nil, append_assoc, length-append, map-id}
use Rattle.std.proofs.lemmas.List.Sorted.{IsPermutation-refl}
use Rattle.std.proofs.lemmas.Iterator.Adapters.{YieldsList-from_vec}
use Rattle.std.proofs.lemmas.Iterator.Consumers.{YieldsList-turn, YieldsList-end}
use Rattle.task_events.specs.HitOrder.{hit_cmp, in_hit_order}
use Rattle.search_phase.proofs.Kept.{first_push, all_fit}
use Rattle.search_phase.proofs.keeping.keep_all.Goals as goal

pub loop-key-init : goal.loop-key-init
loop-key-init c =
    let same = c.in_ok-reserve.ensures.items in
    let ok = c.reserve.new.self.data.ok in
    let old = ap length same in (
      subst (IsHeap hit_cmp) (sym same) c.requires.ordered,
      omega (arith, ok.0, old, c.requires.few),
      omega arith,
      c.in_ok-reserve.ensures.ok,
      all_fit _ _ c.args.most (subst (λ keys. Rattle.std.proofs.Common.IsPermutation keys (heap_items c.reserve.new.self)) (sym (append-nil (heap_items c.reserve.new.self))) (IsPermutation-refl _))
          (subst (λ keys. length keys ≤ c.args.most) (sym (append-nil (heap_items c.reserve.new.self))) (omega (arith, old, c.requires.few))),
    )

pub keep-requires-clause-ordered : goal.keep-requires-clause-ordered
keep-requires-clause-ordered c = c.loop-key.invariant.0

pub keep-requires-clause-few : goal.keep-requires-clause-few
keep-requires-clause-few c = c.loop-key.invariant.1

pub keep-requires-clause-room : goal.keep-requires-clause-room
keep-requires-clause-room c =
    let i = c.loop-key.invariant in
    let gives = c.into_iter-key-iterator.ensures.into_iter_gives in
    let turn = YieldsList-turn (YieldsList-from_vec {s = c.into_iter-key-iterator.result} c.args.found.items gives.0 (gives.1 ∙ c.args.found.ok.0)) c.loop-key.yielded c.loop-key.key-iterator c.loop-key.yielded_by c.next.result c.next.new.self c.in-Some.key c.in-Some.is c.next.ensures.steps in
    λ few. omega (arith, i.2, i.3, turn.0, few, c.min-room.ensures, c.len.ensures, c.len-2.ensures, c.args.found.ok.0, c.in_ok-reserve.ensures.len)

pub loop-key-preserved : goal.loop-key-preserved
loop-key-preserved c =
    let e = c.keep.ensures in
    let i = c.loop-key.invariant in
    let before = heap_items c.reserve.new.self in (
      e.still_ordered,
      e.still_few,
      omega (arith, e.one_more, i.2, length-append c.loop-key.yielded (c.in-Some.key ∷ [])),
      omega (arith, e.still_room, i.3),
      first_push c.args.most c.in-Some.key (heap_items c.loop-key.first) (before ++ c.loop-key.yielded) (heap_items c.keep.new.first) i.4 e.keys
          ∙ ap (λ keys. take c.args.most (in_hit_order keys)) (append_assoc before c.loop-key.yielded (c.in-Some.key ∷ [])),
    )

pub returns-clause-still_ordered : goal.returns-clause-still_ordered
returns-clause-still_ordered c = c.loop-key.invariant.0

pub returns-clause-ok : goal.returns-clause-ok
returns-clause-ok c =
    let gives = c.into_iter-key-iterator.ensures.into_iter_gives in
    let end = YieldsList-end (YieldsList-from_vec {s = c.into_iter-key-iterator.result} c.args.found.items gives.0 (gives.1 ∙ c.args.found.ok.0)) c.loop-key.yielded c.loop-key.key-iterator c.loop-key.yielded_by c.next.result c.next.new.self c.in-None.is c.next.ensures.steps in
    c.loop-key.invariant.4 ∙ ap (λ keys. take c.args.most (in_hit_order (keys ++ c.loop-key.yielded))) c.in_ok-reserve.ensures.items
    ∙ ap (λ keys. take c.args.most (in_hit_order (heap_items c.args.first.now ++ keys))) (sym (map-id c.loop-key.yielded) ∙ end.0)
