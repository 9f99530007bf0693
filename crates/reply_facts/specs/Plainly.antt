-- What queries, fetches, searches and pages reply over rows that stay as they are.
use Rattle.std.specs.Prelude.{◌≡◌, ℕ, Bool, true, ◌||◌, List, [], length, filter, is_some, map}
use Rattle.std.specs.List.{AllByRecursion}
use Rattle.task_ids.specs.declared.doc.Doc.{Doc}
use Rattle.task_events.specs.Answers.{count_at, has_failed, plain_answer, shard_top}
use Rattle.task_events.specs.Counts.{version_in}
use Rattle.task_events.specs.Readings.{Reading, shard_read}
use Rattle.task_events.specs.declared.reply.FailedShard.{FailedShard}
use Rattle.task_events.specs.declared.reply.Reply.{Reply}
use Rattle.task_events.specs.declared.reply.Reply.TheVariants.{Search, AllFailed}
use Rattle.task_events.specs.declared.reply.ShardCount.{ShardCount}
use Rattle.task_events.specs.declared.reply.ShardTop.{ShardTop}
use Rattle.task_events.specs.declared.request.SearchAsk.{SearchAsk}
use Rattle.task_events.specs.declared.request.ShardAsk.{ShardAsk}

-- what a query finds among all rows of its shard
abbrev pub top_over : ShardAsk → List Doc → ShardTop
top_over ask rows = shard_top ask (length rows) rows

-- how many of all rows of a shard match
abbrev pub count_over : SearchAsk → (ℕ → List Doc) → ℕ → ShardCount
count_over ask rows shard = count_at ask rows (shard, length (rows shard))

-- each of these counts is that of all rows of its shard
abbrev pub AreWhole : SearchAsk → (ℕ → List Doc) → List ShardCount → Type 0
AreWhole ask rows counts = AllByRecursion (λ n. n ≡ count_over ask rows n.shard) counts

-- ---- the reply of a search or of a page

-- the shards that it counts, and those that it tells as failed
abbrev pub counts_told : Reply → List ShardCount
counts_told (Search answer) = answer.shards
counts_told _ = []

abbrev pub failures_told : Reply → List FailedShard
failures_told (Search answer) = answer.failed
failures_told (AllFailed failed) = failed
failures_told _ = []

abbrev pub is_counted : Reply → ℕ → Bool
is_counted reply shard = is_some (version_in shard (counts_told reply))

abbrev pub is_lost : Reply → ℕ → Bool
is_lost reply shard = has_failed (failures_told reply) shard

-- The reply of what looks through these shards, each of which has these rows.
pub record IsPlainOver (rows : ℕ → List Doc) (r : Reading) (reply : Reply) : Type 0 where
  -- the plain answer over the shards that it counts, without those that it tells as failed
  pub plain : reply ≡ plain_answer r rows (counts_told reply) (failures_told reply)
  -- of each shard that it counts all rows were read
  pub counts : AreWhole r.ask rows (counts_told reply)
  -- each shard is counted or told as failed
  pub whole : AllByRecursion (λ at. (is_counted reply (shard_read at) || is_lost reply (shard_read at)) ≡ true) r.shards
  -- and none is that is not read, nor twice
  pub counted : map (λ (n : ShardCount). n.shard) (counts_told reply) ≡ filter (is_counted reply) (map shard_read r.shards)
  pub lost : map (λ (f : FailedShard). f.shard) (failures_told reply) ≡ filter (is_lost reply) (map shard_read r.shards)
