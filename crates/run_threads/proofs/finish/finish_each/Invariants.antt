use Rattle.std.proofs.Common.{◌≡◌, ◌++◌, None}
use Rattle.run_inboxes.specs.Pairs.{Pairwise}
use Rattle.node_worker.specs.Job.{Gives}
use Rattle.run_threads.specs.Causes.{IsNoLater, EachEnded}
use Rattle.run_threads.specs.Jobs.{all_jobs, lists_of, Drained}
use Rattle.run_threads.proofs.finish.finish_each.Given as goal

abbrev pub invariant-loop-threads : goal.invariant-loop-threads
invariant-loop-threads g l =
    (goal.iterator-loop-threads g).can_next l.threads-iterator × (goal.iterator-loop-threads g).is_finite l.threads-iterator
    × (l.yielded ++ l.threads-iterator.rest.items ≡ l.fn.started.items)
    × IsNoLater l.fn.met l.met
    × (l.met ≡ None → (l.fn.met ≡ None) × Pairwise (Pairwise (Drained g.T.Turns.did g.T.Turns.at_rest g.T.Turns.fits)) (all_jobs l.yielded) (lists_of l.rests.items))
    × EachEnded (Gives {N = g.row.N.Denot} g.T.Turns.did g.T.Turns.at_rest g.T.Turns.fits) (all_jobs l.yielded) l.met
