use Rattle.std.proofs.Common.{◌≡◌, ◌+◌, ◌≤◌, ◌++◌, length, take, heap_items, heap_len}
use Rattle.std.specs.BinaryHeap.{IsHeap, heap_capacity}
use Rattle.task_events.specs.HitOrder.{hit_cmp, in_hit_order}
use Rattle.search_phase.proofs.keeping.keep_all.Given as goal

-- in order; few; at most one more for each key; there is room for as many as will be kept; the first of what came so far
abbrev pub invariant-loop-key : goal.invariant-loop-key
invariant-loop-key l =
    IsHeap hit_cmp (heap_items l.first)
    × (heap_len l.first ≤ l.most)
    × (heap_len l.first ≤ heap_len l.initial.first + length l.yielded)
    × (heap_len l.initial.first + l.room ≤ heap_capacity l.first)
    × (in_hit_order (heap_items l.first) ≡ take l.most (in_hit_order (heap_items l.initial.first ++ l.yielded)))
