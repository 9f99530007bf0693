use Rattle.std.proofs.Common.{◌≡◌, ◌≤◌, take, length, heap_items}
use Rattle.std.specs.BinaryHeap.{IsHeap}
use Rattle.task_events.specs.Answers.{window}
use Rattle.task_events.specs.HitOrder.{hit_cmp, in_hit_order}
use Rattle.search_phase.specs.Queries.{next_rows, keys_of_rows, first_keys}
use Rattle.search_phase.proofs.query.ShardQuery.find.Given as goal

-- in order; few; what the first rows come to
abbrev pub invariant-loop-place : goal.invariant-loop-place
invariant-loop-place l =
    let rows = take l.place-index (next_rows l.self l.version l.shard.writes) in
    IsHeap hit_cmp (heap_items l.found.first)
    × (length (heap_items l.found.first) ≤ window l.self.ask.body)
    × (l.found.count ≡ length (keys_of_rows l.self.ask rows))
    × (in_hit_order (heap_items l.found.first) ≡ first_keys l.self.ask (keys_of_rows l.self.ask rows))
