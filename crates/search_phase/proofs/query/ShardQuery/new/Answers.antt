-- The heap of no key is no key.
use Rattle.std.proofs.Common.{None, sym, ap, subst, heap_items}
use Rattle.task_events.specs.declared.request.ShardAsk.{ShardAsk}
use Rattle.task_events.specs.HitOrder.{in_hit_order}
use Rattle.search_phase.specs.Queries.{IsQueried}
use Rattle.search_phase.proofs.Growing.{new_query-queried}
use Rattle.search_phase.proofs.query.ShardQuery.new.Goals as goal

pub returns-clause-queried : goal.returns-clause-queried
returns-clause-queried c = λ writes.
    let no_key = subst (λ keys. IsQueried (record { ask = c.args.ask; version = c.args.ask.version; turns = 0; last = None; count = 0; keys = keys }) writes) (sym (ap in_hit_order c.new.ensures.items)) (new_query-queried c.args.ask writes) in
    subst (λ (a : ShardAsk). IsQueried (record { ask = c.args.ask; version = a.version; turns = 0; last = None; count = 0; keys = in_hit_order (heap_items c.new.result) }) writes) (sym c.get.ensures) no_key
