-- The contexts of slices in a core: pages use them, and searches open them.
use Rattle.std.specs.Prelude.{◌≡◌, ℕ, Bool, true, false, ◌&&◌, ◌==◌, is_some, Option, Some, None, Result, Ok, Err, if◌then◌else◌, ⊤}
use Rattle.std.specs.FinMap as finite
use Rattle.std.specs.FinMap.{FinMap}
use Rattle.std.specs.Option.{option_map_or}
use Rattle.task_ids.specs.declared.task_id.TaskId.{TaskId}
use Rattle.task_ids.specs.TaskIdOrder.{task_id_cmp}
use Rattle.task_events.specs.declared.context.Context.{Context}
use Rattle.task_events.specs.declared.request.Request.{Request}
use Rattle.task_events.specs.declared.request.Request.TheVariants as asks
use Rattle.task_events.specs.declared.request.ScrollAsk.{ScrollAsk}
use Rattle.task_events.specs.declared.request.HitKey.{HitKey}
use Rattle.task_events.specs.declared.reply.Reply.{Reply}
use Rattle.task_events.specs.declared.reply.Reply.TheVariants as replies
use Rattle.task_events.specs.Contexts.{with_use, given_back, cursor_in, without_owned}
use Rattle.task_events.specs.Counts.{AreCounts}
use Rattle.scroll_table.specs.Contexts.{answer_for}
use Rattle.scroll_table.specs.declared.context.PageError.{PageError}
use Rattle.task_work.specs.declared.work.Work.{Work}
use Rattle.task_work.specs.declared.work.Work.TheVariants as works
use Rattle.node_parts.specs.Opening.{opened_by}

abbrev pub Contexts : Type 0
Contexts = FinMap task_id_cmp Context

-- ---- a page of a slice

abbrev pub if_ok : Result Context PageError → Option Context
if_ok (Ok c) = Some c
if_ok (Err e) = None

-- the context of which a request asks for a page, where its task may use it at a moment
abbrev pub context_for : Contexts → Request → ℕ → Option Context
context_for contexts (asks.Scroll ask) now = if_ok (answer_for ask.owner now (finite.get contexts ask.id))
context_for contexts _ now = None

-- a task uses it from this moment on, where it may
abbrev pub used : Contexts → TaskId → ScrollAsk → ℕ → Option Context → Contexts
used contexts task ask now (Some c) = finite.insert contexts ask.id (with_use now ask.keep task c)
used contexts task ask now None = contexts

abbrev pub with_use_by : Contexts → TaskId → Request → ℕ → Contexts
with_use_by contexts task (asks.Scroll ask) now = used contexts task ask now (context_for contexts (asks.Scroll ask) now)
with_use_by contexts task _ now = contexts

-- ---- the end of a task

-- it is the task that uses the context
abbrev pub is_used_by : TaskId → Context → Bool
is_used_by task c = option_map_or (λ user. (task.node == user.node) && (task.number == user.number)) c.busy false

-- a context is given back, if this task uses it
abbrev pub returned : Contexts → TaskId → TaskId → Option HitKey → ℕ → Option Context → Contexts
returned contexts task id after now None = contexts
returned contexts task id after now (Some c) = if is_used_by task c then finite.insert contexts id (given_back after now c) else contexts

-- a page gives its context back, with its last row as the cursor where it shows one
abbrev pub with_return : Contexts → TaskId → Option TaskId → Reply → ℕ → Contexts
with_return contexts task None reply now = contexts
with_return contexts task (Some id) reply now = returned contexts task id (cursor_in reply) now (finite.get contexts id)

-- it is a search whose context belongs to a task
abbrev pub opens_owned : Work → Bool
opens_owned (works.Search s) = is_some s.reading.ask.owner
opens_owned _ = false

-- a context can keep what the reply tells of shards
abbrev pub CanKeep : Reply → Type 0
CanKeep (replies.Search reply) = AreCounts reply.shards
CanKeep reply = ⊤

-- such a search opens its context here, unless one of its id is here
pub record OpensHere (contexts : Contexts) (task : TaskId) (work : Work) (reply : Reply) : Type 0 where
  pub owned : opens_owned work ≡ true
  pub free : finite.get contexts task ≡ None
  pub kept : CanKeep reply

abbrev pub with_context : Contexts → TaskId → Option Context → Contexts
with_context contexts task None = contexts
with_context contexts task (Some c) = finite.insert contexts task c

-- The end of a task with this work and this reply opens the context that its search is to open, and leaves the others.
pub record Opens (contexts after : Contexts) (task : TaskId) (work : Work) (reply : Reply) (now : ℕ) : Type 0 where
  pub here : OpensHere contexts task work reply → after ≡ with_context contexts task (opened_by work task reply now)
  pub no_other : (OpensHere contexts task work reply → ⊥) → after ≡ contexts

-- What the end of a task does to the contexts: a page gives its own back, a search of a slice opens one, and a slice leaves none behind.
abbrev pub Settles : Contexts → Contexts → TaskId → Option TaskId → Work → Reply → ℕ → Type 0
Settles before after task page work reply now = (mid : Contexts)
    × Opens (with_return before task page reply now) mid task work reply now
    × ((id : TaskId) → finite.get after id ≡ without_owned task (finite.get mid id))
