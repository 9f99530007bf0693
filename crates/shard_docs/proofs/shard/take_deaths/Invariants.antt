use Rattle.std.proofs.Common.{◌≡◌, ℕ, ◌<◌, ◌≤◌, drop, get_or}
use Rattle.shard_docs.proofs.shard.take_deaths.Given as goal

-- so many were taken, none of which is above
abbrev pub invariant-loop-count : goal.invariant-loop-count
invariant-loop-count l = record {
  left : l.deaths.items ≡ drop l.count l.fn.deaths.items;
  before : (k : ℕ) → k < l.count → get_or l.fn.deaths.items k 0 ≤ l.oldest;
}
