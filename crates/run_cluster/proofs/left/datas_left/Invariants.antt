use Rattle.std.proofs.Common.{◌≡◌, ◌++◌}
use Rattle.std.specs.Prelude.{map}
use Rattle.run_cluster.specs.Crews.{seat_left, ends_left}
use Rattle.run_cluster.proofs.left.datas_left.Given as goal

abbrev pub invariant-loop-own : goal.invariant-loop-own
invariant-loop-own g l =
    (goal.iterator-loop-own g).can_next l.own-iterator × (goal.iterator-loop-own g).is_finite l.own-iterator
    × (l.yielded ++ l.own-iterator.rest.items ≡ l.fn.datas.items)
    × (map seat_left l.yielded ≡ l.left.seats.items)
    × (map ends_left l.yielded ≡ l.left.ends.items)
