-- What a search asks for is of one shard, and which replies that can have does not depend on the number of shards.
use Rattle.std.proofs.Common.{◌≡◌, ℕ, zero, suc, Bool, true, false, cond, List, [], ◌∷◌, ◌++◌, length, map, Some, refl, subst}
use Rattle.std.specs.Prelude.{slice_get, is_some}
use Rattle.task_events.specs.declared.reading.ShardRead.{ShardRead}
use Rattle.task_events.specs.declared.reply.Reply.{Reply}
use Rattle.task_events.specs.declared.reply.Reply.TheVariants.{Search, Top, Hits, AllFailed, Wrote, Cancelled, Rejected}
use Rattle.task_events.specs.declared.request.FetchAsk.{FetchAsk}
use Rattle.task_events.specs.declared.request.Request.{Request}
use Rattle.task_events.specs.declared.request.Request.TheVariants as asks
use Rattle.task_events.specs.declared.step.Asked.{Asked}
use Rattle.task_events.specs.Kinds.{kind_of, can_have}
use Rattle.task_events.specs.Readings.{Reading}
use Rattle.task_events.specs.Searches.{requests_of, query_of, fetches_of, tops_in, has_queried}

-- a request of one shard
abbrev pub IsPart : Request → Type 0
IsPart r = is_some (kind_of r).place ≡ true

query_parts : (r : Reading) (xs : List ShardRead) (rest : List Request) (k : ℕ) (q : Request) → ((j : ℕ) → slice_get rest j ≡ Some q → IsPart q)
    → slice_get (map (λ at. asks.Query (query_of r at)) xs ++ rest) k ≡ Some q → IsPart q
query_parts r [] rest k q parts e = parts k e
query_parts r (x ∷ xs) rest zero q parts e = let same : asks.Query (query_of r x) ≡ q = cc in subst IsPart same refl
query_parts r (x ∷ xs) rest (suc k) q parts e = query_parts r xs rest k q parts e

fetch_parts : (b : Bool) (ys : List FetchAsk) (j : ℕ) (q : Request) → slice_get (cond b (map asks.Fetch ys) []) j ≡ Some q → IsPart q
fetch_parts false ys j q e = absurd (cc)
fetch_parts true [] j q e = absurd (cc)
fetch_parts true (y ∷ ys) zero q e = let same : asks.Fetch y ≡ q = cc in subst IsPart same refl
fetch_parts true (y ∷ ys) (suc j) q e = fetch_parts true ys j q e

-- each request of the plan is
pub plan_parts : (r : Reading) (asked : List Asked) (k : ℕ) (q : Request) → slice_get (requests_of r asked) k ≡ Some q → IsPart q
plan_parts r asked k q e =
    query_parts r r.shards (cond (has_queried (length r.shards) asked) (map asks.Fetch (fetches_of r.ask (tops_in (length r.shards) asked))) []) k q
    (λ j f. fetch_parts (has_queried (length r.shards) asked) (fetches_of r.ask (tops_in (length r.shards) asked)) j q f) e

pub any_shards : (n m : ℕ) (q : Request) (reply : Reply) → IsPart q → can_have n q reply ≡ can_have m q reply
any_shards n m (asks.Search ask) reply part = absurd (let f : false ≡ true = part in cc)
any_shards n m (asks.Scroll ask) reply part = absurd (let f : false ≡ true = part in cc)
any_shards n m (asks.Query ask) (Search found) part = refl
any_shards n m (asks.Query ask) (Top top) part = refl
any_shards n m (asks.Query ask) (Hits hits) part = refl
any_shards n m (asks.Query ask) (Wrote counts) part = refl
any_shards n m (asks.Query ask) (AllFailed failed) part = refl
any_shards n m (asks.Query ask) (Cancelled task cancel counts) part = refl
any_shards n m (asks.Query ask) (Rejected node) part = refl
any_shards n m (asks.Fetch ask) (Search found) part = refl
any_shards n m (asks.Fetch ask) (Top top) part = refl
any_shards n m (asks.Fetch ask) (Hits hits) part = refl
any_shards n m (asks.Fetch ask) (Wrote counts) part = refl
any_shards n m (asks.Fetch ask) (AllFailed failed) part = refl
any_shards n m (asks.Fetch ask) (Cancelled task cancel counts) part = refl
any_shards n m (asks.Fetch ask) (Rejected node) part = refl
any_shards n m (asks.Reindex ask) reply part = absurd (let f : false ≡ true = part in cc)
any_shards n m (asks.Slice ask) reply part = absurd (let f : false ≡ true = part in cc)
any_shards n m (asks.Bulk ask) reply part = absurd (let f : false ≡ true = part in cc)
any_shards n m (asks.BulkShard ask) (Search found) part = refl
any_shards n m (asks.BulkShard ask) (Top top) part = refl
any_shards n m (asks.BulkShard ask) (Hits hits) part = refl
any_shards n m (asks.BulkShard ask) (AllFailed failed) part = refl
any_shards n m (asks.BulkShard ask) (Wrote counts) part = refl
any_shards n m (asks.BulkShard ask) (Cancelled task cancel counts) part = refl
any_shards n m (asks.BulkShard ask) (Rejected node) part = refl
