-- The shards of a context.
use Rattle.std.specs.Prelude.{◌≡◌, ℕ, List, ◌<◌, ◌≤◌, ◌^◌, ◌==◌, nat_lt, true, length, find, Option, option_map}
use Rattle.std.specs.List.{AllAdjacentBelow, list_all}
use Rattle.task_events.specs.declared.reply.ShardCount.{ShardCount}

-- each shard is below the next
abbrev pub Ascend : List ShardCount → Type 0
Ascend counts = AllAdjacentBelow (λ one next. one.shard < next.shard) counts (length counts)

-- What a context keeps of its shards, of which an index has at most 15: each is below the next, and fewer than 2^32 rows match in each.
pub record AreCounts (counts : List ShardCount) : Type 0 where
  pub few : length counts ≤ 15
  pub low : list_all (λ n. nat_lt n.count (2 ^ 32)) counts ≡ true
  pub ascend : Ascend counts

-- the version that was read of a shard, where it was read
abbrev pub version_in : ℕ → List ShardCount → Option ℕ
version_in shard counts = option_map (λ n. n.version) (find (λ n. n.shard == shard) counts)
