-- The next page of a search: it asks as a search does, of the shards of its context alone, at their versions and after the cursor.
use Rattle.std.specs.Prelude.{ℕ, ◌^◌, List, [], length, ◌++◌, codes, Bool, true, false, ◌&&◌, nat_lt, nat_le, Option, Some, None}
use Rattle.std.specs.Option.{option_map_or}
use Rattle.task_ids.specs.declared.action.Action.TheVariants as actions
use Rattle.task_ids.specs.TaskId.{task_id_text}
use Rattle.task_events.specs.declared.context.Context.{Context}
use Rattle.task_events.specs.declared.request.ScrollAsk.{ScrollAsk}
use Rattle.task_events.specs.declared.reply.Reply.{Reply}
use Rattle.task_events.specs.declared.reply.Reply.TheVariants.{Search, AllFailed}
use Rattle.task_events.specs.declared.reply.SearchReply.{SearchReply}
use Rattle.task_events.specs.declared.step.Asked.{Asked}
use Rattle.task_events.specs.declared.step.Do.{Do}
use Rattle.task_events.specs.declared.step.Do.TheVariants.{Wait}
use Rattle.task_events.specs.Kind.{Kind}
use Rattle.task_events.specs.Readings.{page_reading}
use Rattle.task_events.specs.Same.{same_task}
use Rattle.task_events.specs.SearchTask.{search_step}
use Rattle.task_events.specs.Tasks.{no_counts}

-- a page starts only where its context stands
abbrev pub scroll_step : Option Context → List Asked → Do
scroll_step None asked = Wait None
scroll_step (Some context) asked = search_step (page_reading context) asked

-- an answer that names the context, in which not all shards failed, with at most as many hits as any search shows
abbrev pub is_page_for : ℕ → ScrollAsk → SearchReply → Bool
is_page_for shards ask reply = option_map_or (same_task ask.id) reply.context false && nat_lt (length reply.failed) shards && nat_le (length reply.hits) 10000 && nat_lt reply.total (2 ^ 36)

abbrev pub scroll_can_have : ScrollAsk → ℕ → Reply → Bool
scroll_can_have ask shards (Search reply) = is_page_for shards ask reply
scroll_can_have ask shards (AllFailed failed) = true
scroll_can_have ask shards _ = false

abbrev pub scroll_task : ScrollAsk → Kind
scroll_task ask = record {
  action = actions.Scroll;
  description = codes "scrollId[" ++ task_id_text ask.id ++ codes "]";
  place = None;
  docs = [];
  step = λ cluster corpus t p now. scroll_step p.page p.asked;
  counts = λ p. no_counts;
  limit = 1;
  replies = scroll_can_have ask;
}
