-- Whether a request, as its answer tells it, is the one that an ask of a search awaits.
use Rattle.std.specs.Prelude.{◌≡◌}
use Rattle.task_events.specs.declared.answered.AnsweredRequest.{AnsweredRequest}
use Rattle.task_events.specs.declared.answered.AnsweredRequest.TheVariants.{Query, Fetch}
use Rattle.task_events.specs.declared.request.FetchAsk.{FetchAsk}
use Rattle.task_events.specs.declared.request.ShardAsk.{ShardAsk}
use Rattle.task_events.specs.declared.request.Request.{Request}
use Rattle.task_events.specs.declared.request.Request.TheVariants as asks

-- two queries are of the same shard, at the same version and after the same cursor
pub record IsSameQuery (one other : ShardAsk) : Type 0 where
  pub shard_is : one.shard ≡ other.shard
  pub version_is : one.version ≡ other.version
  pub after_is : one.after ≡ other.after

-- two fetches are of the same places of a shard, at the same version
pub record IsSameFetch (one other : FetchAsk) : Type 0 where
  pub shard_is : one.shard ≡ other.shard
  pub version_is : one.version ≡ other.version
  pub places_are : one.places ≡ other.places

-- an answer is to what was asked, as far as a run compares it
abbrev pub LooksAlike : Request → AnsweredRequest → Type 0
LooksAlike (asks.Query own) (Query ask) = IsSameQuery ask own
LooksAlike (asks.Fetch own) (Fetch ask) = IsSameFetch own ask
LooksAlike _ _ = ⊥
