-- What became of the shards of a search, as its own children tell: those that it asked for the query of a shard and for its fetch. A request that was rejected has no child.
use Rattle.std.specs.Prelude.{ℕ, Bool, true, false, not, ◌&&◌, ◌||◌, ◌==◌, List, [], ◌∷◌, filter_map, if◌then◌else◌, Option, Some, None, is_some, option_map, option_and_then}
use Rattle.std.specs.Option.{option_or, option_map_or}
use Rattle.task_ids.specs.declared.doc.Doc.{Doc}
use Rattle.task_ids.specs.declared.task_id.TaskId.{TaskId}
use Rattle.task_events.specs.declared.event.Event.{Event}
use Rattle.task_events.specs.declared.event.Event.TheVariants.{Ask}
use Rattle.task_events.specs.declared.request.Request.{Request}
use Rattle.task_events.specs.declared.request.Request.TheVariants.{Query, Fetch}
use Rattle.task_events.specs.declared.reading.ShardRead.{ShardRead}
use Rattle.task_events.specs.declared.request.SearchAsk.{SearchAsk}
use Rattle.task_events.specs.declared.reply.FailedShard.{FailedShard}
use Rattle.task_events.specs.declared.reply.ShardCount.{ShardCount}
use Rattle.task_events.specs.declared.reply.ShardFailure.{ShardFailure}
use Rattle.task_events.specs.declared.reply.ShardTop.{ShardTop}
use Rattle.task_events.specs.declared.reply.Reply.{Reply}
use Rattle.task_events.specs.declared.reply.Reply.TheVariants.{Hits}
use Rattle.task_events.specs.Answers.{count_read}
use Rattle.task_events.specs.Asks.{answer_of}
use Rattle.task_events.specs.Readings.{Reading, shard_read}
use Rattle.task_events.specs.Same.{same_task}
use Rattle.task_events.specs.Searches.{top_of, failure_in}

-- ---- the children of a search or of a page

-- this asks for the query of the shard, and below for its fetch
abbrev pub is_query_of : ℕ → Request → Bool
is_query_of shard (Query ask) = shard == ask.shard
is_query_of shard _ = false

abbrev pub is_fetch_of : ℕ → Request → Bool
is_fetch_of shard (Fetch ask) = shard == ask.shard
is_fetch_of shard _ = false

-- the number of the first ask with which a task asked for such a thing
abbrev pub ask_for : (Request → Bool) → TaskId → List Event → Option ℕ
ask_for test t [] = None
ask_for test t (Ask p k n r ∷ h) = option_or (ask_for test t h) (if same_task t p && test r then Some k else None)
ask_for test t (_ ∷ h) = ask_for test t h

-- what the child replied that was put for this ask, or that the request was rejected
abbrev pub answer_for : (Request → Bool) → TaskId → List Event → Option Reply
answer_for test t h = option_and_then (λ k. answer_of t k h) (ask_for test t h)

-- ---- the shards that answered

-- what the query child of a shard found, where it ended good
abbrev pub found_in : TaskId → List Event → ℕ → Option ShardTop
found_in t h shard = option_and_then top_of (answer_for (is_query_of shard) t h)

-- how many rows match in a shard whose query child ended good, and the version that this child read
abbrev pub count_found : SearchAsk → (ℕ → List Doc) → TaskId → List Event → ShardRead → Option ShardCount
count_found ask writes t h at = option_map (λ top. count_read ask writes at top.version) (found_in t h (shard_read at))

-- the shards that answered, of those that are read
abbrev pub answered_shards : Reading → (ℕ → List Doc) → TaskId → List Event → List ShardCount
answered_shards r writes t h = filter_map (count_found r.ask writes t h) r.shards

-- ---- the shards that failed

abbrev pub are_hits : Reply → Bool
are_hits (Hits hits) = true
are_hits _ = false

-- the fetch child of a shard did not end good, or its request was rejected
abbrev pub fetch_failed : TaskId → List Event → ℕ → Bool
fetch_failed t h shard = option_map_or (λ reply. not (are_hits reply)) (answer_for (is_fetch_of shard) t h) false

-- A shard failed that did not answer the query, or whose fetch failed.
abbrev pub shard_failed : TaskId → List Event → ℕ → Bool
shard_failed t h shard = not (is_some (found_in t h shard)) || fetch_failed t h shard

-- the child was cancelled or refused, or its request was rejected
abbrev pub failure_for : (Request → Bool) → TaskId → List Event → Option ShardFailure
failure_for test t h = option_and_then failure_in (answer_for test t h)

-- why a shard failed: by its query, or else by its fetch
abbrev pub why_failed : TaskId → List Event → ℕ → Option ShardFailure
why_failed t h shard = option_or (failure_for (is_query_of shard) t h) (failure_for (is_fetch_of shard) t h)

abbrev pub failure_told : TaskId → List Event → ℕ → Option FailedShard
failure_told t h shard = option_map (λ failure. record { shard = shard; failure = failure }) (why_failed t h shard)

-- the shards that failed, of those that are read, each with why
abbrev pub failed_shards : Reading → TaskId → List Event → List FailedShard
failed_shards r t h = filter_map (λ at. failure_told t h (shard_read at)) r.shards
