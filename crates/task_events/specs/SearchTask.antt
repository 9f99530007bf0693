-- A search: it asks for the query of each shard and then for fetches, and replies with the plain answer.
use Rattle.std.specs.Prelude.{ℕ, ◌^◌, List, [], ◌++◌, length, codes, Bool, true, false, not, ◌&&◌, nat_lt, nat_le, Option, Some, None, is_some, slice_get}
use Rattle.task_ids.specs.declared.action.Action.TheVariants as actions
use Rattle.task_events.specs.declared.request.Request.{Request}
use Rattle.task_events.specs.declared.request.SearchAsk.{SearchAsk}
use Rattle.task_events.specs.declared.reply.Reply.{Reply}
use Rattle.task_events.specs.declared.reply.Reply.TheVariants.{Search, AllFailed}
use Rattle.task_events.specs.declared.reply.SearchReply.{SearchReply}
use Rattle.task_events.specs.declared.step.Asked.{Asked}
use Rattle.task_events.specs.declared.step.Do.{Do}
use Rattle.task_events.specs.declared.step.Do.TheVariants.{AskNext, Wait, Finish}
use Rattle.task_events.specs.Contexts.{opens_context}
use Rattle.task_events.specs.Kind.{Kind}
use Rattle.task_events.specs.Readings.{Reading, search_reading}
use Rattle.task_events.specs.Searches.{requests_of, are_answered, search_reply}
use Rattle.task_events.specs.Tasks.{no_counts}

abbrev pub ask_or_end : Option Request → Bool → Reply → Do
ask_or_end (Some request) answered reply = AskNext request
ask_or_end None true reply = Finish reply
ask_or_end None false reply = Wait None

-- so a page does, over what it reads
abbrev pub search_step : Reading → List Asked → Do
search_step r asked = ask_or_end (slice_get (requests_of r asked) (length asked)) (are_answered asked) (search_reply r asked)

abbrev agree : Bool → Bool → Bool
agree true b = b
agree false b = not b

-- an answer with a context exactly where one is opened, in which not all shards failed, with at most as many hits as are asked for
abbrev pub is_answer_for : ℕ → SearchAsk → SearchReply → Bool
is_answer_for shards ask reply =
    agree (opens_context ask) (is_some reply.context) && nat_lt (length reply.failed) shards
    && nat_le (length reply.hits) ask.body.size && nat_lt reply.total (2 ^ 36)

abbrev pub search_can_have : SearchAsk → ℕ → Reply → Bool
search_can_have ask shards (Search reply) = is_answer_for shards ask reply
search_can_have ask shards (AllFailed failed) = true
search_can_have ask shards _ = false

abbrev pub search_task : SearchAsk → Kind
search_task ask = record {
  action = actions.Search;
  description = codes "indices[" ++ ask.index ++ codes "]";
  place = None;
  docs = [];
  step = λ cluster corpus t p now. search_step (search_reading t ask cluster.shards) p.asked;
  counts = λ p. no_counts;
  limit = 1;
  replies = search_can_have ask;
}
