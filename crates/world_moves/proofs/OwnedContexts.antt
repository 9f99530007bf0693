-- What an event leaves of a context that belongs to a task.
use Rattle.std.proofs.Common.{◌≡◌, ◌≢◌, ◌⊎◌, ℕ, true, false, Option, Some, None, List, refl, sym, ap, ◌∙◌, inl, inr}
use Rattle.task_ids.specs.declared.task_id.TaskId.{TaskId}
use Rattle.task_events.specs.declared.context.Context.{Context}
use Rattle.task_events.specs.declared.event.Event.{Event}
use Rattle.task_events.specs.declared.reply.Reply.{Reply}
use Rattle.task_events.specs.declared.reply.Reply.TheVariants.{Search, Top, Hits, AllFailed, Wrote, Cancelled, Rejected}
use Rattle.task_events.specs.declared.request.Request.{Request}
use Rattle.task_events.specs.declared.request.Request.TheVariants as asks
use Rattle.task_events.specs.declared.request.SearchAsk.{SearchAsk}
use Rattle.task_events.specs.Contexts.{is_busy, is_owned_by, after_begin, after_taking, after_end, unexpired, without_owned, context_at}
use Rattle.task_events.specs.Requests.{Scripted}
use Rattle.task_events.specs.Same.{same_task}
use Rattle.task_laws.proofs.Same.{same_task_tells}
use Rattle.search_phase.proofs.Sorting.{by_test}
use Rattle.world_moves.specs.Owning.{MayTakeFree}

module _ (owner : TaskId) (c : Context) (owned : c.owner ≡ Some owner) where
  not_free : is_owned_by None c ≡ false
  not_free = rw owned refl

  owned_apart : (t : TaskId) → same_task owner t ≡ false → is_owned_by (Some t) c ≡ false
  unfolding same_task
  owned_apart t apart = rw owned apart

  -- a command does not clear it
  pub not_cleared : (cleared : Option TaskId) (id : TaskId) → after_begin cleared id (Some c) ≡ Some c
  not_cleared None id = refl
  not_cleared (Some other) id = by_test (same_task other id) (λ same. rw (same, not_free) refl) (λ apart. rw apart refl)

  -- nor does the end of another task than its owner
  pub not_left : (t : TaskId) → same_task owner t ≡ false → without_owned t (Some c) ≡ Some c
  not_left t apart = rw (owned_apart t apart) refl

  -- nor does a root take it
  pub not_taken : (said : Scripted) (h : List Event) (now : ℕ) (t id : TaskId) (o : Option Request) → context_at said id h ≡ Some c → MayTakeFree said o h → after_taking now t o id (Some c) ≡ Some c
  not_taken said h now t id None at free = refl
  not_taken said h now t id (Some (asks.Search ask)) at free = refl
  not_taken said h now t id (Some (asks.Query ask)) at free = refl
  not_taken said h now t id (Some (asks.Fetch ask)) at free = refl
  not_taken said h now t id (Some (asks.Reindex ask)) at free = refl
  not_taken said h now t id (Some (asks.Slice ask)) at free = refl
  not_taken said h now t id (Some (asks.Bulk ask)) at free = refl
  not_taken said h now t id (Some (asks.BulkShard ask)) at free = refl
  not_taken said h now t id (Some (asks.Scroll ask)) at free = of_case (same_task_tells ask.id id)
    where
      of_case : ((same_task ask.id id ≡ true) × (ask.id ≡ id)) ⊎ ((same_task ask.id id ≡ false) × (ask.id ≢ id)) → after_taking now t (Some (asks.Scroll ask)) id (Some c) ≡ Some c
      of_case (inl (is_one, same)) =
          let none : c.owner ≡ None = free c (ap (λ x. context_at said x h) same ∙ at) in
          absurd (let f : Some owner ≡ None = sym owned ∙ none in cc)
      of_case (inr (differs, apart)) = rw differs refl

-- it does not expire
pub not_expired : (c : Context) → c.keep_ms ≡ None → (now : ℕ) → unexpired now (Some c) ≡ Some c
not_expired c kept now = by_test (is_busy c) (λ busy. rw (busy, kept) refl) (λ free. rw (free, kept) refl)

-- the end of a search opens another context
pub opens_other : (now : ℕ) (t : TaskId) (ask : SearchAsk) (reply : Reply) (id : TaskId) (c : Context) → same_task t id ≡ false → after_end now t (Some (asks.Search ask)) reply id (Some c) ≡ Some c
opens_other now t ask (Search found) id c apart = rw apart refl
opens_other now t ask (Top top) id c apart = refl
opens_other now t ask (Hits hits) id c apart = refl
opens_other now t ask (Wrote counts) id c apart = refl
opens_other now t ask (AllFailed failed) id c apart = refl
opens_other now t ask (Cancelled task cancel counts) id c apart = refl
opens_other now t ask (Rejected node) id c apart = refl
