-- Whether work waits for an answer to this request is decided.
use Rattle.std.proofs.Common.{◌≡◌, inl, inr, ℕ, Option, None, Some, refl}
use Rattle.std.specs.Prelude.{IsSomeAnd}
use Rattle.std.specs.Ordering.{is_eq}
use Rattle.task_events.specs.declared.answered.AnsweredRequest.{AnsweredRequest}
use Rattle.task_events.specs.declared.answered.AnsweredRequest.TheVariants as told
use Rattle.task_events.specs.declared.request.FetchAsk.{FetchAsk}
use Rattle.task_events.specs.declared.request.HitKey.{HitKey}
use Rattle.task_events.specs.declared.request.Request.{Request}
use Rattle.task_events.specs.declared.request.Request.TheVariants as asks
use Rattle.task_events.specs.declared.request.ShardAsk.{ShardAsk}
use Rattle.task_events.specs.HitOrder.{hit_cmp}
use Rattle.task_events.proofs.HitKeys.{same_by_cmp}
use Rattle.search_phase.specs.Awaiting.{IsSameQuery, IsSameFetch, LooksAlike}
use Rattle.search_phase.specs.Searching.{awaited}
use Rattle.task_work.specs.declared.work.Work.{Work}
use Rattle.task_work.specs.declared.work.Work.TheVariants as work
use Rattle.task_work.specs.Awaiting.{IsAskedBy}
use Rattle.run_cluster.proofs.Decisions.{Decided, both_three, decided_by, decided_number, decided_option, decided_list}

decided_key : (a b : HitKey) → Decided (a ≡ b)
decided_key a b = decided_by (is_eq (hit_cmp a b)) (same_by_cmp a b (hit_cmp a b) (is_eq (hit_cmp a b)) refl refl)

decided_query : (one other : ShardAsk) → Decided (IsSameQuery one other)
decided_query one other = elim (both_three (decided_number one.shard other.shard) (decided_option decided_number one.version other.version) (decided_option decided_key one.after other.after)) [
  | inl same ↦ inl (record { shard_is = same.0; version_is = same.1; after_is = same.2 })
  | inr never ↦ inr (λ same. never (same.shard_is, same.version_is, same.after_is))
]

decided_fetch : (one other : FetchAsk) → Decided (IsSameFetch one other)
decided_fetch one other = elim (both_three (decided_number one.shard other.shard) (decided_number one.version other.version) (decided_list decided_number one.places other.places)) [
  | inl same ↦ inl (record { shard_is = same.0; version_is = same.1; places_are = same.2 })
  | inr never ↦ inr (λ same. never (same.shard_is, same.version_is, same.places_are))
]

decided_alike : (own : Request) (request : AnsweredRequest) → Decided (LooksAlike own request)
decided_alike (asks.Query own) (told.Query ask) = decided_query ask own
decided_alike (asks.Fetch own) (told.Fetch ask) = decided_fetch own ask
decided_alike _ _ = inr (λ p. p)

decided_own : (o : Option Request) (request : AnsweredRequest) → Decided (IsSomeAnd o (λ own. LooksAlike own request))
decided_own None request = inr (λ p. p)
decided_own (Some own) request = decided_alike own request

pub asked_decided : (w : Work) (ask : ℕ) (request : AnsweredRequest) → Decided (IsAskedBy w ask request)
asked_decided (work.Search s) ask request = decided_own (awaited s ask) request
asked_decided (work.Scroll s) ask request = decided_own (awaited s ask) request
asked_decided _ ask request = inl tt
