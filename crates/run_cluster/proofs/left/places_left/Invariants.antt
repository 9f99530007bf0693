use Rattle.std.proofs.Common.{◌≡◌, List, ◌++◌, length, reverse}
use Rattle.run_inboxes.specs.Pairs.{Threewise}
use Rattle.run_threads.specs.Jobs.{lists_of}
use Rattle.run_cluster.specs.Crews.{IsLeftBy}
use Rattle.run_cluster.proofs.left.places_left.Given as goal

abbrev pub invariant-loop-control : goal.invariant-loop-control
invariant-loop-control g l =
    (goal.iterator-loop-control g).can_next l.control-iterator × (goal.iterator-loop-control g).is_finite l.control-iterator
    × (l.yielded ++ l.control-iterator.rest.items ≡ l.fn.controls.items)
    × ((gone : List _) × (gone ++ reverse l.datas.items ≡ l.fn.datas.items) × (length gone ≡ length l.yielded)
    × Threewise IsLeftBy l.yielded (lists_of gone) l.places.items)
