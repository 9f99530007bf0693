-- The keys, sorted, are in hit order.
use Rattle.std.proofs.Common.{sym, ap, ◌∙◌, subst, heap_items}
use Rattle.std.specs.BinaryHeap.{IsHeap}
use Rattle.task_events.specs.HitOrder.{hit_cmp, in_hit_order}
use Rattle.search_phase.specs.Queries.{QueryState}
use Rattle.search_phase.proofs.Ordered.{in_hit_order-sorted}
use Rattle.search_phase.proofs.query.ShardQuery.give_top.Goals as goal

pub returns-clause-top : goal.returns-clause-top
returns-clause-top c =
    let heap = subst (λ first. IsHeap hit_cmp (heap_items first)) (sym c.replace-first.ensures.value) c.self.invariant.0 in
    let sorted = in_hit_order-sorted (heap_items c.replace-first.result) c.into_sorted_vec.result.items c.into_sorted_vec.ensures.permutation (c.into_sorted_vec.ensures.sorted heap) in
    let keys = c.from_vec.ensures ∙ sorted ∙ ap (λ first. in_hit_order (heap_items first)) c.replace-first.ensures.value in
    (λ i. record { shard = (c.get.ensures i).shard; version = c.args.version; count = c.self.inside.count; keys = keys i })
    ∙ ap (λ (q : QueryState). record { shard = q.ask.shard; version = c.args.version; count = q.count; keys = q.keys }) c.self.view_is
