-- The contexts of scrolls that tasks open and use, by the work of the tasks.
use Rattle.std.specs.Prelude.{◌≡◌, ℕ, true, Option, Some, None, option_map, if◌then◌else◌, ⊤}
use Rattle.task_ids.specs.declared.task_id.TaskId.{TaskId}
use Rattle.task_events.specs.declared.context.Context.{Context}
use Rattle.task_events.specs.declared.reply.Reply.{Reply}
use Rattle.task_events.specs.declared.reply.Reply.TheVariants as replies
use Rattle.task_events.specs.Contexts.{opens_context, opened}
use Rattle.task_events.specs.Counts.{AreCounts}
use Rattle.task_work.specs.declared.work.Work.{Work}
use Rattle.task_work.specs.declared.work.Work.TheVariants.{Search}
use Rattle.node_parts.specs.declared.running.Running.{Running}

-- The context that the end of a task opens at this moment: a search with hits opens one, where it is to.
abbrev pub opened_by : Work → TaskId → Reply → ℕ → Option Context
opened_by (Search s) task (replies.Search reply) now = if opens_context s.reading.ask then Some (opened task s.reading.ask reply now) else None
opened_by _ task reply now = None

-- Where the end of a task opens a context, this can keep what was read in the shards.
abbrev pub FitsContext : Work → Reply → Type 0
FitsContext (Search s) (replies.Search reply) = opens_context s.reading.ask ≡ true → AreCounts reply.shards
FitsContext _ reply = ⊤

-- the context that a live task uses: that of which it shows a page, once it has passed
abbrev pub used_by : Running → Option TaskId
used_by running = if running.is_new then None else option_map (λ page. page.id) running.page
