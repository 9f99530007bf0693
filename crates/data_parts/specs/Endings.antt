-- The replies of tasks that end.
use Rattle.std.specs.Prelude.{ℕ, Option, Some, None}
use Rattle.task_ids.specs.declared.task_id.TaskId.{TaskId}
use Rattle.task_events.specs.declared.reply.Reply.{Reply}
use Rattle.task_events.specs.declared.reply.Reply.TheVariants.{Cancelled}
use Rattle.task_events.specs.NoCounts.{no_counts}
use Rattle.task_work.specs.declared.work.Work.{Work}
use Rattle.task_work.specs.Works.{counts_of}
use Rattle.data_parts.specs.declared.ending.Ending.{Ending}
use Rattle.data_parts.specs.declared.ending.Ending.TheVariants.{Refused, Marked, Finished}

-- The reply of a plan holds where the end gave no mark. One that was refused has counted nothing, whatever mark it has.
abbrev pub reply_of : TaskId → Ending → Option ℕ → Work → Reply
reply_of task (Refused cancel) mark work = Cancelled task cancel no_counts
reply_of task (Marked cancel) mark work = Cancelled task cancel (counts_of work)
reply_of task (Finished reply) (Some cancel) work = Cancelled task cancel (counts_of work)
reply_of task (Finished reply) None work = reply
