use Rattle.std.proofs.Common.{◌≡◌, ◌++◌, None}
use Rattle.run_inboxes.specs.Pairs.{Pairwise}
use Rattle.node_worker.specs.Job.{Gives}
use Rattle.run_threads.specs.Causes.{IsNoLater, AllEnded}
use Rattle.run_threads.specs.Jobs.{jobs_of, Drained}
use Rattle.run_threads.proofs.finish.finish_all.Given as goal

abbrev pub invariant-loop-thread : goal.invariant-loop-thread
invariant-loop-thread g l =
    (goal.iterator-loop-thread g).can_next l.thread-iterator × (goal.iterator-loop-thread g).is_finite l.thread-iterator
    × (l.yielded ++ l.thread-iterator.rest.items ≡ l.fn.started.items)
    × IsNoLater l.fn.met l.met
    × (l.met ≡ None → (l.fn.met ≡ None) × Pairwise (Drained g.T.Turns.did g.T.Turns.at_rest g.T.Turns.fits) (jobs_of l.yielded) l.rests.items)
    × AllEnded (Gives {N = g.row.N.Denot} g.T.Turns.did g.T.Turns.at_rest g.T.Turns.fits) (jobs_of l.yielded) l.met
