use Rattle.std.proofs.Common.{◌≡◌, ℕ, List, ◌++◌, length, reverse, Some}
use Rattle.std.specs.Prelude.{slice_get}
use Rattle.run_inboxes.specs.Pairs.{Pairwise}
use Rattle.run_cluster.specs.Crews.{BeginsWith, IsDataOn}
use Rattle.run_cluster.proofs.jobs.Ground.datas.Given as goal

abbrev pub invariant-loop-own : goal.invariant-loop-own
invariant-loop-own g l =
    (goal.iterator-loop-own g).can_next l.own-iterator × (goal.iterator-loop-own g).is_finite l.own-iterator
    × (l.yielded ++ l.own-iterator.rest.items ≡ l.fn.ends.items)
    × ((gone : List _) × (gone ++ reverse l.seats.items ≡ l.fn.seats.items) × (length gone ≡ length l.yielded))
    × (l.worker ≡ length l.yielded)
    × Pairwise BeginsWith l.yielded l.datas.items
    × ((k : ℕ) (w : _) → slice_get l.datas.items k ≡ Some w → IsDataOn l.fn.self.cluster l.fn.self.corpus.now l.fn.self.workers l.fn.board k w)
