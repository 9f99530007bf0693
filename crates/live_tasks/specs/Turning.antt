-- A turn of a live task over its shard.
use Rattle.std.specs.Prelude.{◌≡◌, ℕ, ◌++◌, List}
use Rattle.task_ids.specs.declared.task_id.TaskId.{TaskId}
use Rattle.task_ids.specs.declared.doc.Doc.{Doc}
use Rattle.task_events.specs.declared.request.Request.{Request}
use Rattle.task_events.specs.Kind.{Progress}
use Rattle.task_work.specs.declared.work.Work.{Work}
use Rattle.task_work.specs.Plans.{IsWorkAt, progress_with_turn}
use Rattle.task_work.specs.Works.{HasTurned, IsWorkOn, docs_next, with_turn, work_notes}

-- One more turn was taken: over the writes of the shard before it, which has what it wrote after it.
pub record TurnedOn (before after : Work) (writes now : List Doc) : Type 0 where
  pub written : now ≡ writes ++ docs_next before
  pub turned : HasTurned before writes after
  pub done : IsWorkOn before writes → after ≡ with_turn before writes
  pub on : IsWorkOn before writes → IsWorkOn after now
  pub at : (task : TaskId) (request : Request) (shards : ℕ) (p : Progress) → IsWorkAt task request shards p writes before → IsWorkAt task request shards (progress_with_turn p writes (work_notes before writes)) now after
