use Rattle.std.proofs.Common.{◌≡◌, ◌++◌}
use Rattle.run_threads.specs.Jobs.{jobs_of}
use Rattle.run_threads.proofs.start.start_all.Given as goal

abbrev pub invariant-loop-job : goal.invariant-loop-job
invariant-loop-job g l =
    (goal.iterator-loop-job g).can_next l.job-iterator × (goal.iterator-loop-job g).is_finite l.job-iterator
    × (jobs_of l.started.items ≡ jobs_of l.initial.started.items ++ l.yielded)
    × (l.yielded ++ l.job-iterator.rest.items ≡ l.fn.jobs.items)
    × (g.P.Spawner.faults l.spawner ≡ g.P.Spawner.faults l.initial.spawner)
