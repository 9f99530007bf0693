-- A reindex: with one slice it does the work of that slice itself, and with more it asks for each of them.
use Rattle.std.specs.Prelude.{ℕ, ◌^◌, List, [], length, ◌==◌, None, option_map, if◌then◌else◌}
use Rattle.task_ids.specs.declared.action.Action.TheVariants as actions
use Rattle.task_ids.specs.declared.task_id.TaskId.{TaskId}
use Rattle.task_events.specs.declared.request.ReindexAsk.{ReindexAsk}
use Rattle.task_events.specs.declared.request.Request.TheVariants as asks
use Rattle.task_events.specs.declared.reply.Counts.{Counts}
use Rattle.task_events.specs.declared.reply.Reply.TheVariants.{Wrote}
use Rattle.task_events.specs.declared.step.Asked.{Asked}
use Rattle.task_events.specs.declared.step.Do.{Do}
use Rattle.task_events.specs.Counting.{answers_in, sums_of, wrote_can_have}
use Rattle.task_events.specs.Kind.{Kind}
use Rattle.task_events.specs.SearchTask.{ask_or_end}
use Rattle.task_events.specs.Searches.{are_answered}
use Rattle.task_events.specs.SliceTask.{slice_step, slice_counts, reindex_description}
use Rattle.task_events.specs.Slicing.{slice_at}

-- it asks for its slices in order, and ends once all have answered
abbrev pub cut_step : ReindexAsk → List Asked → Do
cut_step ask asked = ask_or_end (option_map asks.Slice (slice_at ask (length asked))) (are_answered asked) (Wrote (sums_of (answers_in asked)))

abbrev pub reindex_step : TaskId → ReindexAsk → ℕ → List Asked → List ℕ → ℕ → Do
reindex_step t ask shards asked came now = if ask.slices == 1 then slice_step t ask 0 shards asked came now else cut_step ask asked

abbrev pub reindex_counts : ReindexAsk → List Asked → Counts
reindex_counts ask asked = if ask.slices == 1 then slice_counts asked else sums_of (answers_in asked)

abbrev pub reindex_task : ReindexAsk → Kind
reindex_task ask = record {
  action = actions.Reindex;
  description = reindex_description ask;
  place = None;
  docs = [];
  step = λ cluster corpus t p now. reindex_step t ask cluster.shards p.asked p.came now;
  counts = λ p. reindex_counts ask p.asked;
  limit = 2 ^ 56;
  replies = λ shards reply. wrote_can_have (2 ^ 56) reply;
}
