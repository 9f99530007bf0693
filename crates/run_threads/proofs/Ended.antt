-- Jobs that have ended, one more at a time.
use Rattle.std.proofs.Common.{◌≡◌, List, [], ◌∷◌, ◌++◌, Option, Some, subst}
use Rattle.node_link.proofs.Counts.{each_more}
use Rattle.task_events.specs.declared.stop.Stop.{Stop}
use Rattle.node_worker.specs.declared.worker.WorkerOut.{WorkerOut}
use Rattle.run_inboxes.specs.Pairs.{Pairwise}
use Rattle.run_inboxes.proofs.Pairs.{pairs_push}
use Rattle.run_threads.specs.Causes.{IsNoLater, cause_of, EndedBy, AllEnded, EachEnded}
use Rattle.run_threads.proofs.Causes.{later_on}

module _ {J R : Type 0} (gives : J → WorkerOut R → Type 0) where
  -- another cause is told, which comes no later
  ended_on : (before after : Option Stop) → IsNoLater before after → (jobs : List J) (outs : List (WorkerOut R)) → Pairwise (EndedBy gives before) jobs outs → Pairwise (EndedBy gives after) jobs outs
  ended_on before after later [] [] all = tt
  ended_on before after later [] (out ∷ outs) all = absurd all
  ended_on before after later (job ∷ jobs) [] all = absurd all
  ended_on before after later (job ∷ jobs) (out ∷ outs) all = (
    record { gave = all.0.gave; cause = later_on (cause_of out) before after all.0.cause later },
    ended_on before after later jobs outs all.1,
  )

  pub ended_more : (jobs : List J) (job : J) (out : WorkerOut R) (before after : Option Stop) → AllEnded gives jobs before → IsNoLater before after → gives job out → IsNoLater (cause_of out) after → AllEnded gives (jobs ++ job ∷ []) after
  ended_more jobs job out before after all later gave cause = record {
    outs = all.outs ++ out ∷ [];
    each = pairs_push (EndedBy gives after) jobs all.outs job out (ended_on before after later jobs all.outs all.each) (record { gave = gave; cause = cause });
  }

  -- these jobs have ended, and after others of them a cause is told
  pub all_ended : (jobs started : List J) (met told : Option Stop) (stop : Stop) → started ≡ jobs → AllEnded gives started met → IsNoLater met told → told ≡ Some stop → AllEnded gives jobs (Some stop)
  all_ended jobs started met told stop are all later is = subst (λ l. AllEnded gives l (Some stop)) are (record { outs = all.outs; each = ended_on met (Some stop) (subst (IsNoLater met) is later) started all.outs all.each })

  all_on : (jobs : List J) (before after : Option Stop) → AllEnded gives jobs before → IsNoLater before after → AllEnded gives jobs after
  all_on jobs before after all later = record { outs = all.outs; each = ended_on before after later jobs all.outs all.each }

  each_on : (lists : List (List J)) (before after : Option Stop) → EachEnded gives lists before → IsNoLater before after → EachEnded gives lists after
  each_on lists before after each later k jobs at = all_on jobs before after (each k jobs at) later

  -- the jobs of one list more have ended
  pub each_list : (lists : List (List J)) (jobs : List J) (before met after : Option Stop) → EachEnded gives lists before → IsNoLater before met → AllEnded gives jobs met → IsNoLater met after → EachEnded gives (lists ++ jobs ∷ []) after
  each_list lists jobs before met after each first all later =
      each_more (λ k own. AllEnded gives own after) lists jobs (each_on lists before after each (later_on before met after first later)) (all_on jobs met after all later)

  -- the same of lists of jobs as `all_ended`
  pub each_ended : (lists started : List (List J)) (met told : Option Stop) (stop : Stop) → started ≡ lists → EachEnded gives started met → IsNoLater met told → told ≡ Some stop → EachEnded gives lists (Some stop)
  each_ended lists started met told stop are each later is = subst (λ l. EachEnded gives l (Some stop)) are (each_on started met (Some stop) each (subst (IsNoLater met) is later))
