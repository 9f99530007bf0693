-- What a call keeps is a first part of the run of what it read, so the laws of such runs are so of it.
use Rattle.std.proofs.Common.{◌<◌, ◌≤◌, List, length}
use Rattle.task_ids.specs.declared.cluster.Cluster.{Cluster}
use Rattle.task_ids.specs.declared.corpus.Corpus.{Corpus}
use Rattle.task_events.specs.declared.event.Event.{Event}
use Rattle.task_events.specs.declared.history.TheConstants.{MAX_EVENTS}
use Rattle.task_events.specs.declared.stop.Stop.TheVariants as stops
use Rattle.script_lang.specs.declared.command.Script.{Script}
use Rattle.world_steps.specs.Scripts.{IsRun, IsRunSoFar, StopsRun}
use Rattle.task_top.specs.declared.kept.Kept.{Kept}
use Rattle.top_parts.specs.declared.status.Status.{Status}
use Rattle.top_parts.specs.declared.status.Status.TheVariants.{Done, Usage, Refused, ReadFault, WriteFault, Memory, NoThread, HistoryFull, NumbersSpent}
use Rattle.task_top.specs.Kept.{HasCause, IsAfterReading, IsWholeOrNone, RanAsRead}

module _ (cluster : Cluster) (whole : (c : Cluster) (corpus : Corpus) (script : Script) (h : List Event) → IsRun c corpus script h → IsRunSoFar c corpus script h) where
  -- what ran is a first part of the run of what was read
  pub ran_so_far : (status : Status) (kept : Kept) → IsAfterReading status → RanAsRead cluster status kept → IsRunSoFar cluster kept.corpus kept.script kept.history
  ran_so_far Done kept after ran = whole cluster kept.corpus kept.script kept.history ran
  ran_so_far WriteFault kept after ran = whole cluster kept.corpus kept.script kept.history ran
  ran_so_far Memory kept after ran = ran
  ran_so_far HistoryFull kept after ran = ran
  ran_so_far NumbersSpent kept after ran = ran
  ran_so_far Usage kept after ran = absurd after
  ran_so_far (Refused line cause) kept after ran = absurd after
  ran_so_far ReadFault kept after ran = absurd after
  ran_so_far NoThread kept after ran = absurd after

module _ (cluster : Cluster) (full : (c : Cluster) (corpus : Corpus) (script : Script) (past h : List Event) → StopsRun c corpus script past stops.HistoryFull → IsRun c corpus script h → MAX_EVENTS < length h)
    (spent : (c : Cluster) (corpus : Corpus) (script : Script) (past h : List Event) → StopsRun c corpus script past stops.NumbersSpent → IsRun c corpus script h → ⊥) where
  -- and by the cause of its end it is whole, or no whole run can come
  pub whole_or_none : (status : Status) (kept : Kept) (source sink : Type 0) → length kept.history ≤ MAX_EVENTS → RanAsRead cluster status kept → HasCause cluster status kept source sink → IsWholeOrNone cluster status kept
  whole_or_none Done kept source sink fits ran cause = (ran, fits)
  whole_or_none WriteFault kept source sink fits ran cause = (ran, fits)
  whole_or_none HistoryFull kept source sink fits ran cause = λ h run. full cluster kept.corpus kept.script kept.history h cause run
  whole_or_none NumbersSpent kept source sink fits ran cause = λ h run. spent cluster kept.corpus kept.script kept.history h cause run
  whole_or_none Memory kept source sink fits ran cause = tt
  whole_or_none Usage kept source sink fits ran cause = tt
  whole_or_none (Refused line reason) kept source sink fits ran cause = tt
  whole_or_none ReadFault kept source sink fits ran cause = tt
  whole_or_none NoThread kept source sink fits ran cause = tt
