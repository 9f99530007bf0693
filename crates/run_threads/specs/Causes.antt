-- Which of several causes is told.
use Rattle.std.specs.Prelude.{◌≡◌, ℕ, ◌≤◌, List, slice_get, Option, None, Some}
use Rattle.es_io.specs.Count.{Rose}
use Rattle.task_events.specs.declared.stop.Stop.{Stop}
use Rattle.task_events.specs.declared.stop.Stop.TheVariants.{HistoryFull, NumbersSpent, Memory}
use Rattle.node_worker.specs.declared.worker.WorkerOut.{WorkerOut}
use Rattle.node_worker.specs.declared.worker.WorkerOut.TheVariants as ended
use Rattle.run_inboxes.specs.Pairs.{Pairwise}
use Rattle.run_threads.specs.declared.cause.RunStop.{RunStop}
use Rattle.run_threads.specs.declared.cause.RunStop.TheVariants.{NoThread, NoMemory, Stopped}

-- the lower comes first
abbrev pub rank : Stop → ℕ
rank NumbersSpent = 0
rank HistoryFull = 1
rank Memory = 2

-- where a cause was met before, one is told that comes no later
abbrev pub IsNoLater : Option Stop → Option Stop → Type 0
IsNoLater None told = Unit {0}
IsNoLater (Some before) None = ⊥
IsNoLater (Some before) (Some told) = rank told ≤ rank before

-- over the spawner's count of faults: NoThread is told exactly where a thread could not be started
abbrev pub IsCauseOf : ℕ → ℕ → RunStop → Type 0
IsCauseOf before after NoThread = Rose before after
IsCauseOf before after NoMemory = after ≡ before
IsCauseOf before after (Stopped stop) = after ≡ before

-- why a worker had to stop
abbrev pub cause_of : {R : Type 0} → WorkerOut R → Option Stop
cause_of (ended.Drained rest) = None
cause_of (ended.Stopped stop rest) = Some stop

module _ {J R : Type 0} (gives : J → WorkerOut R → Type 0) where
  -- what this job owes, and if it had to stop, what is told comes no later than its cause
  pub record EndedBy (told : Option Stop) (job : J) (out : WorkerOut R) : Type 0 where
    pub gave : gives job out
    pub cause : IsNoLater (cause_of out) told

  -- each of these jobs has ended
  pub record AllEnded (jobs : List J) (told : Option Stop) : Type 0 where
    pub outs : List (WorkerOut R)
    pub each : Pairwise (EndedBy told) jobs outs

  -- so have those of each list
  abbrev pub EachEnded : List (List J) → Option Stop → Type 0
  EachEnded lists told = (k : ℕ) (jobs : List J) → slice_get lists k ≡ Some jobs → AllEnded jobs told

-- this holds of the cause for which a worker or the driver stopped
abbrev pub IfStopped : (Stop → Type 0) → RunStop → Type 0
IfStopped holds NoThread = Unit {0}
IfStopped holds NoMemory = Unit {0}
IfStopped holds (Stopped stop) = holds stop
