-- A request as its answer tells it.
use Rattle.std.specs.Prelude.{length}
use Rattle.task_events.specs.declared.request.Request.{Request}
use Rattle.task_events.specs.declared.request.Request.TheVariants as asked
use Rattle.task_events.specs.declared.answered.AnsweredRequest.{AnsweredRequest}
use Rattle.task_events.specs.declared.answered.AnsweredRequest.TheVariants as told

-- in place of a batch it has the number of its documents; all else is the request's
abbrev pub as_answered : Request → AnsweredRequest
as_answered (asked.Search ask) = told.Search ask
as_answered (asked.Query ask) = told.Query ask
as_answered (asked.Fetch ask) = told.Fetch ask
as_answered (asked.Scroll ask) = told.Scroll ask
as_answered (asked.Reindex ask) = told.Reindex ask
as_answered (asked.Slice ask) = told.Slice ask
as_answered (asked.Bulk ask) = told.Bulk ask.dest (length ask.docs)
as_answered (asked.BulkShard ask) = told.BulkShard ask.dest ask.shard (length ask.docs)
