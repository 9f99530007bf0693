-- What a kind of task is, of one request of it. Each kind has a file of its own (SearchTask, ReindexTask and so on), and Kinds lists them.
use Rattle.std.specs.Prelude.{ℕ, List, Bool, Option}
use Rattle.task_ids.specs.declared.action.Action.{Action}
use Rattle.task_ids.specs.declared.cluster.Cluster.{Cluster}
use Rattle.task_ids.specs.declared.corpus.Corpus.{Corpus}
use Rattle.task_ids.specs.declared.doc.Doc.{Doc}
use Rattle.task_ids.specs.declared.task_id.TaskId.{TaskId}
use Rattle.task_events.specs.declared.context.Context.{Context}
use Rattle.task_events.specs.declared.reply.Counts.{Counts}
use Rattle.task_events.specs.declared.reply.Reply.{Reply}
use Rattle.task_events.specs.declared.step.Asked.{Asked}
use Rattle.task_events.specs.declared.step.Do.{Do}

-- How far a task has come.
pub record Progress : Type 0 where
  -- the context of which it shows a page, as that stood when the task took it
  pub page : Option Context
  -- its asks in order, each with its answer once it has come
  pub asked : List Asked
  -- the moment at which each of them was answered, 0 before
  pub came : List ℕ
  -- how many turns of work it has taken
  pub turns : ℕ
  -- how many writes its shard had at the first of them
  pub version : Option ℕ
  -- how many documents it has created, and how many it has replaced
  pub created : ℕ
  pub updated : ℕ

pub record Kind : Type 0 where
  -- the action of its task
  pub action : Action
  -- what its task works on, as a detailed task list shows it
  pub description : List ℕ
  -- the index and the shard of it on which it works, where it works on one
  pub place : Option (List ℕ × ℕ)
  -- the documents that it writes to that shard, in order
  pub docs : List Doc
  -- what it does next, where these documents were written so far, by how far it has come and the moment
  pub step : Cluster → Corpus → TaskId → Progress → ℕ → Do
  -- what it has counted so far, which it tells where it is cancelled
  pub counts : Progress → Counts
  -- each number that it counts is below this
  pub limit : ℕ
  -- the replies that it can have in a cluster with so many shards, beside a cancellation and a rejection
  pub replies : ℕ → Reply → Bool
