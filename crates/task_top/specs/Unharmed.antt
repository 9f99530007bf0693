-- A search to which nothing happened has no failed shard.
use Rattle.std.specs.Prelude.{◌≡◌, ℕ, List, [], Some, None}
use Rattle.task_ids.specs.declared.task_id.TaskId.{TaskId}
use Rattle.script_lang.specs.declared.command.Script.{Script}
use Rattle.task_events.specs.declared.event.Event.{Event}
use Rattle.task_events.specs.declared.reply.Reply.{Reply}
use Rattle.task_events.specs.declared.reply.Reply.TheVariants.{Search}
use Rattle.task_events.specs.declared.request.Request.TheVariants as asks
use Rattle.task_events.specs.declared.request.SearchAsk.{SearchAsk}
use Rattle.task_events.specs.Asks.{rejection_of}
use Rattle.task_events.specs.Bans.{mark_of}
use Rattle.task_events.specs.Requests.{request_of}
use Rattle.task_events.specs.Tasks.{parent_of, refusal_of, reply_of}
use Rattle.command_roots.specs.Roots.{scripted}

-- Neither the task nor a child of it is marked or refused, and none of its requests was rejected.
pub record IsUnharmed (t : TaskId) (h : List Event) : Type 0 where
  pub unmarked : mark_of t h ≡ None
  pub not_refused : refusal_of t h ≡ None
  pub children_unmarked : (u : TaskId) → parent_of u h ≡ Some t → mark_of u h ≡ None
  pub children_not_refused : (u : TaskId) → parent_of u h ≡ Some t → refusal_of u h ≡ None
  pub none_rejected : (k : ℕ) → rejection_of t k h ≡ None

-- an answer in which no shard failed
abbrev pub IsWholeAnswer : Reply → Type 0
IsWholeAnswer (Search reply) = reply.failed ≡ []
IsWholeAnswer _ = ⊥

-- Each search that has ended unharmed replied with an answer in which no shard failed.
abbrev pub AnswersWholly : Script → List Event → Type 0
AnswersWholly script h = (t : TaskId) (ask : SearchAsk) (reply : Reply) → request_of (scripted script) t h ≡ Some (asks.Search ask) → reply_of t h ≡ Some reply → IsUnharmed t h → IsWholeAnswer reply
