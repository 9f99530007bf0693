use Rattle.std.proofs.Common.{◌≡◌, ◌++◌, length}
use Rattle.run_inboxes.specs.Pairs.{Pairwise}
use Rattle.run_threads.specs.Jobs.{lists_of}
use Rattle.run_cluster.specs.Places.{AreDealt, AreWide}
use Rattle.run_cluster.specs.Crews.{IsControlOn, AreDatasOn, ControlBegins, DatasBegin}
use Rattle.run_cluster.proofs.Manning.{AreOn}
use Rattle.run_cluster.proofs.jobs.Ground.crew.Given as goal

abbrev pub invariant-loop-place : goal.invariant-loop-place
invariant-loop-place g l =
    (goal.iterator-loop-place g).can_next l.place-iterator × (goal.iterator-loop-place g).is_finite l.place-iterator
    × AreDealt l.fn.seats.items l.fn.ends.items (l.yielded ++ l.place-iterator.rest.items) l.crew.driver
    × (l.before ≡ length l.yielded)
    × Pairwise ControlBegins l.yielded l.crew.controls.items
    × Pairwise DatasBegin l.yielded (lists_of l.crew.datas.items)
    × AreOn (IsControlOn l.fn.self.cluster l.fn.self.workers) l.fn.boards l.crew.controls.items
    × AreOn (AreDatasOn l.fn.self.cluster l.fn.self.corpus.now l.fn.self.workers) l.fn.boards (lists_of l.crew.datas.items)
    × AreWide l.fn.self.workers (l.yielded ++ l.place-iterator.rest.items)
