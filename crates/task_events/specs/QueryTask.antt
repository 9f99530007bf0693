-- The query of a shard: it looks at the rows of a version that have what it picks, and replies with the first of those that match.
use Rattle.std.specs.Prelude.{ℕ, ◌^◌, List, [], ◌∷◌, length, Bool, true, false, ◌&&◌, ◌==◌, nat_lt, nat_le, Option, Some, unwrap_or}
use Rattle.std.specs.List.{list_all}
use Rattle.std.specs.Option.{option_map_or}
use Rattle.std.specs.Ordering.{is_lt}
use Rattle.task_ids.specs.declared.action.Action.TheVariants as actions
use Rattle.task_ids.specs.declared.cluster.Cluster.{Cluster}
use Rattle.task_ids.specs.declared.corpus.Corpus.{Corpus}
use Rattle.task_ids.specs.declared.doc.Doc.{Doc}
use Rattle.task_ids.specs.Rows.{Row, rows_at}
use Rattle.task_events.specs.declared.request.HitKey.{HitKey}
use Rattle.task_events.specs.declared.request.ShardAsk.{ShardAsk}
use Rattle.task_events.specs.declared.reply.Reply.{Reply}
use Rattle.task_events.specs.declared.reply.Reply.TheVariants.{Top}
use Rattle.task_events.specs.declared.reply.ShardTop.{ShardTop}
use Rattle.task_events.specs.declared.step.Do.{Do}
use Rattle.task_events.specs.Answers.{candidates, window, shard_top}
use Rattle.task_events.specs.Documents.{writes_of}
use Rattle.task_events.specs.HitOrder.{hit_cmp, is_after}
use Rattle.task_events.specs.Kind.{Kind, Progress}
use Rattle.task_events.specs.Looking.{is_done, shard_description, work_or_end}
use Rattle.task_events.specs.Tasks.{no_counts}

-- the rows that a query looks at, of a version of its shard
abbrev pub rows_for : ShardAsk → ℕ → List Doc → List Row
rows_for ask version writes = candidates ask.body.query (rows_at version writes)

-- a query looks at these rows, and ends with its top
abbrev pub query_step : ShardAsk → ℕ → ℕ → List Doc → Do
query_step ask version turns writes = work_or_end (is_done turns (length (rows_for ask version writes))) (Top (shard_top ask version writes))

-- the version that a query reads: the one that it names, or else all that was written by its first turn
abbrev pub version_due : ShardAsk → Option ℕ → List Doc → ℕ
version_due ask version writes = unwrap_or ask.version (unwrap_or version (length writes))

abbrev pub query_step_in : ShardAsk → Cluster → Corpus → Progress → Do
query_step_in ask cluster corpus p =
    let writes = writes_of corpus cluster.shards ask.index ask.shard in
    query_step ask (version_due ask p.version writes) p.turns writes

-- each key stands before the next in hit order
abbrev pub ascend : List HitKey → Bool
ascend [] = true
ascend (key ∷ []) = true
ascend (key ∷ next ∷ later) = is_lt (hit_cmp key next) && ascend (next ∷ later)

-- a top of the shard, at the version that is asked for, with keys of that shard after the cursor, in hit order, at most as many as are asked for
abbrev pub is_top_for : ShardAsk → ShardTop → Bool
is_top_for ask top =
    (top.shard == ask.shard) && option_map_or (λ version. top.version == version) ask.version true && nat_lt top.count (2 ^ 32)
    && nat_le (length top.keys) (window ask.body) && list_all (λ key. (key.shard == ask.shard) && is_after ask.after key) top.keys && ascend top.keys

abbrev pub query_can_have : ShardAsk → Reply → Bool
query_can_have ask (Top top) = is_top_for ask top
query_can_have ask _ = false

abbrev pub query_task : ShardAsk → Kind
query_task ask = record {
  action = actions.Query;
  description = shard_description ask.index ask.shard;
  place = Some (ask.index, ask.shard);
  docs = [];
  step = λ cluster corpus t p now. query_step_in ask cluster corpus p;
  counts = λ p. no_counts;
  limit = 1;
  replies = λ shards reply. query_can_have ask reply;
}
