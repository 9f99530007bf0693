-- A request looks as what a search asks for at a place, past its queries, where the fetch phase asks for such a thing there.
use Rattle.std.proofs.Common.{◌≡◌, ℕ, ◌-◌, Bool, true, false, length, Option, Some, None, refl, sym, subst, ◌∙◌}
use Rattle.std.specs.Prelude.{◌↔◌, IsSomeAnd, IsTrue, slice_get}
use Rattle.task_events.specs.declared.answered.AnsweredRequest.{AnsweredRequest}
use Rattle.task_events.specs.declared.request.FetchAsk.{FetchAsk}
use Rattle.task_events.specs.declared.request.Request.{Request}
use Rattle.task_events.specs.declared.request.Request.TheVariants as asks
use Rattle.task_events.specs.Readings.{Reading}
use Rattle.search_phase.specs.declared.fetching.Fetching.{Fetching}
use Rattle.search_phase.specs.Awaiting.{LooksAlike}
use Rattle.search_phase.specs.FetchPhase.{fetch_by, request_by}

past_queries : (r : Reading) (fetching : Option Fetching) (place : ℕ) → slice_get r.shards place ≡ None → request_by r fetching place ≡ fetch_by fetching (place - length r.shards)
past_queries r fetching place none = rw none refl

module _ (r : Reading) (fetching : Option Fetching) (place : ℕ) (request : AnsweredRequest) (none : slice_get r.shards place ≡ None) where
  abbrev pub Says : Bool → Option Request → Type 0
  Says b o = IsTrue b ↔ IsSomeAnd o (λ own. LooksAlike own request)

  pub fetch_told : (f : FetchAsk) (b : Bool) → Some (asks.Fetch f) ≡ fetch_by fetching (place - length r.shards) → (IsTrue b ↔ LooksAlike (asks.Fetch f) request) → Says b (request_by r fetching place)
  fetch_told f b at same = subst (Says b) (at ∙ sym (past_queries r fetching place none)) same

  pub none_told : None ≡ fetch_by fetching (place - length r.shards) → Says false (request_by r fetching place)
  none_told at = subst (Says false) (at ∙ sym (past_queries r fetching place none)) (λ yes. absurd (cc), λ is. absurd is)
