-- The kinds of tasks, and what is so of each request by its kind.
use Rattle.std.specs.Prelude.{ℕ, List, Bool, true}
use Rattle.std.specs.Option.{option_map_or}
use Rattle.task_ids.specs.declared.action.Action.{Action}
use Rattle.task_ids.specs.declared.cluster.Cluster.{Cluster}
use Rattle.task_ids.specs.declared.task_id.TaskId.{TaskId}
use Rattle.task_ids.specs.Placing.{node_of}
use Rattle.task_events.specs.declared.request.Request.{Request}
use Rattle.task_events.specs.declared.request.Request.TheVariants.{Search, Query, Fetch, Scroll, Reindex, Slice, Bulk, BulkShard}
use Rattle.task_events.specs.declared.reply.Reply.{Reply}
use Rattle.task_events.specs.declared.reply.Reply.TheVariants.{Cancelled, Rejected}
use Rattle.task_events.specs.BulkShardTask.{bulk_shard_task}
use Rattle.task_events.specs.BulkTask.{bulk_task}
use Rattle.task_events.specs.Counting.{are_below}
use Rattle.task_events.specs.FetchTask.{fetch_task}
use Rattle.task_events.specs.Kind.{Kind}
use Rattle.task_events.specs.QueryTask.{query_task}
use Rattle.task_events.specs.ReindexTask.{reindex_task}
use Rattle.task_events.specs.ScrollTask.{scroll_task}
use Rattle.task_events.specs.SearchTask.{search_task}
use Rattle.task_events.specs.SliceTask.{slice_task}

abbrev pub kind_of : Request → Kind
kind_of (Search ask) = search_task ask
kind_of (Query ask) = query_task ask
kind_of (Fetch ask) = fetch_task ask
kind_of (Scroll ask) = scroll_task ask
kind_of (Reindex ask) = reindex_task ask
kind_of (Slice ask) = slice_task ask
kind_of (Bulk ask) = bulk_task ask
kind_of (BulkShard ask) = bulk_shard_task ask

-- the action of the task that a request asks for
abbrev pub action_of : Request → Action
action_of request = (kind_of request).action

-- what that task works on, as a detailed task list shows it
abbrev pub description_of : Request → List ℕ
description_of request = (kind_of request).description

-- the node on which a request of a task is worked: that of its shard, or else the task's own
abbrev pub node_for : Cluster → TaskId → Request → ℕ
node_for cluster t request = option_map_or (λ place. node_of place.1 cluster.nodes) (kind_of request).place t.node

-- Each request can be rejected, or cancelled with what was counted. Otherwise its reply is of its own kind.
abbrev pub can_have : ℕ → Request → Reply → Bool
can_have shards request (Cancelled task cancel counts) = are_below (kind_of request).limit counts
can_have shards request (Rejected node) = true
can_have shards request reply = (kind_of request).replies shards reply
