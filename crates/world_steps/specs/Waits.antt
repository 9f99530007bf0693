-- What the live tasks wait for once all has settled.
use Rattle.std.specs.Prelude.{◌≡◌, ◌⊎◌, ℕ, true, List, Some}
use Rattle.task_ids.specs.declared.cluster.Cluster.{Cluster}
use Rattle.task_ids.specs.declared.corpus.Corpus.{Corpus}
use Rattle.task_ids.specs.declared.task_id.TaskId.{TaskId}
use Rattle.task_events.specs.declared.event.Event.{Event}
use Rattle.task_events.specs.Tasks.{descends, is_live}
use Rattle.script_lang.specs.declared.command.Script.{Script}
use Rattle.world_steps.specs.Draining.{due_of}

module _ (cluster : Cluster) (corpus : Corpus) (script : Script) where
  -- the task itself, or a live descendant of it, waits for a moment
  abbrev pub WaitsBelow : TaskId → List Event → Type 0
  WaitsBelow t h = (u : TaskId) × (moment : ℕ) × ((u ≡ t) ⊎ (descends t u h ≡ true)) × (due_of cluster corpus script u h ≡ Some moment)

  -- So it is of each live task: it waits for a moment, or stands above a live task that does.
  abbrev pub EachWaits : List Event → Type 0
  EachWaits h = (t : TaskId) → is_live t h ≡ true → WaitsBelow t h
