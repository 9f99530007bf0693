use Rattle.std.proofs.Common.{◌≡◌, ◌++◌}
use Rattle.run_threads.specs.Jobs.{all_jobs, lists_of}
use Rattle.run_threads.proofs.start.start_each.Given as goal

abbrev pub invariant-loop-jobs : goal.invariant-loop-jobs
invariant-loop-jobs g l =
    (goal.iterator-loop-jobs g).can_next l.jobs-iterator × (goal.iterator-loop-jobs g).is_finite l.jobs-iterator
    × (all_jobs l.started.items ≡ all_jobs l.initial.started.items ++ lists_of l.yielded)
    × (l.yielded ++ l.jobs-iterator.rest.items ≡ l.fn.lists.items)
    × (g.P.Spawner.faults l.spawner ≡ g.P.Spawner.faults l.initial.spawner)
