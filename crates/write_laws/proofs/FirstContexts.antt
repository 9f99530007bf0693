-- A search that shows a page, and is to open a context, has opened it with this page.
use Rattle.std.proofs.Common.{◌≡◌, ◌≢◌, ◌⊎◌, inl, inr, ℕ, Bool, true, false, cond, List, [], ◌∷◌, Option, Some, None, refl, sym, ap, ◌∙◌}
use Rattle.std.specs.Prelude.{option_map}
use Rattle.std.specs.Option.{option_or}
use Rattle.task_ids.specs.declared.cluster.Cluster.{Cluster}
use Rattle.task_ids.specs.declared.task_id.TaskId.{TaskId}
use Rattle.task_events.specs.declared.context.Context.{Context}
use Rattle.task_events.specs.declared.event.Event.{Event}
use Rattle.task_events.specs.declared.event.Event.TheVariants.{End, Put, Refuse, Root}
use Rattle.task_events.specs.declared.reply.Reply.{Reply}
use Rattle.task_events.specs.declared.reply.Reply.TheVariants as replies
use Rattle.task_events.specs.declared.reply.SearchReply.{SearchReply}
use Rattle.task_events.specs.declared.request.Request.{Request}
use Rattle.task_events.specs.declared.request.Request.TheVariants as asks
use Rattle.task_events.specs.declared.request.SearchAsk.{SearchAsk}
use Rattle.task_events.specs.Clock.{clock}
use Rattle.task_events.specs.Contexts.{after_end, cursor_in, given_back, opened, opens_context}
use Rattle.task_events.specs.Lawful.{Lawful}
use Rattle.task_events.specs.Requests.{Scripted, request_of}
use Rattle.task_events.specs.Same.{same_task}
use Rattle.task_events.specs.Tasks.{reply_of}
use Rattle.task_laws.proofs.Asks.{ask_facts}
use Rattle.task_laws.proofs.Same.{same_task_tells}
use Rattle.world_moves.proofs.OwnTasks.{ended_apart, fresh_ended, replied_ended}
use Rattle.world_steps.specs.PagesFollow.{first_context}

no_context : (b : Bool) (f : Context → Context) → cond b (option_map f None) None ≡ None
no_context true f = refl
no_context false f = refl

-- the end of another task opens no context of the id
none_opened : (now : ℕ) (t id : TaskId) → same_task t id ≡ false → (q : Option Request) (reply : Reply) → after_end now t q reply id None ≡ None
none_opened now t id other None reply = refl
none_opened now t id other (Some (asks.Query ask)) reply = refl
none_opened now t id other (Some (asks.Fetch ask)) reply = refl
none_opened now t id other (Some (asks.Reindex ask)) reply = refl
none_opened now t id other (Some (asks.Slice ask)) reply = refl
none_opened now t id other (Some (asks.Bulk ask)) reply = refl
none_opened now t id other (Some (asks.BulkShard ask)) reply = refl
none_opened now t id other (Some (asks.Scroll ask)) reply = no_context (same_task ask.id id) (given_back (cursor_in reply) now)
none_opened now t id other (Some (asks.Search ask)) (replies.Search found) = rw other refl
none_opened now t id other (Some (asks.Search ask)) (replies.Top top) = refl
none_opened now t id other (Some (asks.Search ask)) (replies.Hits hits) = refl
none_opened now t id other (Some (asks.Search ask)) (replies.AllFailed failed) = refl
none_opened now t id other (Some (asks.Search ask)) (replies.Wrote counts) = refl
none_opened now t id other (Some (asks.Search ask)) (replies.Cancelled u c counts) = refl
none_opened now t id other (Some (asks.Search ask)) (replies.Rejected n) = refl

module _ (cluster : Cluster) (said : Scripted) (id : TaskId) (ask : SearchAsk) (found : SearchReply) (opens : opens_context ask ≡ true) where
  abbrev IsFirst : List Event → Type 0
  IsFirst h = (now : ℕ) × (first_context said id h ≡ Some (opened id ask found now))

  pub first_opened : (h : List Event) → Lawful cluster h → reply_of id h ≡ Some (replies.Search found) → request_of said id h ≡ Some (asks.Search ask) → IsFirst h
  first_opened [] l told asked = absurd (cc)
  first_opened (Root k u ∷ h) l told asked = let apart = ended_apart id u h (replied_ended id h (replies.Search found) told) (fresh_ended cluster said h (ask_facts cluster h l.1) u l.0.takes.next) in first_opened h l.1 told (rw apart at asked)
  first_opened (Put u q j ∷ h) l told asked = let apart = ended_apart id u h (replied_ended id h (replies.Search found) told) (fresh_ended cluster said h (ask_facts cluster h l.1) u l.0.takes.next) in first_opened h l.1 told (rw apart at asked)
  first_opened (Refuse u c ∷ h) l told asked = by_case (same_task_tells id u) (λ was. first_opened h l.1 was asked)
    where
      by_case : ((same_task id u ≡ true) × (id ≡ u)) ⊎ ((same_task id u ≡ false) × (id ≢ u)) → (reply_of id h ≡ Some (replies.Search found) → IsFirst h) → IsFirst h
      by_case (inl (is_one, same)) before = absurd (let f = rw is_one at told in cc)
      by_case (inr (differs, apart)) before = before (rw differs at told)
  first_opened (End u reply ∷ h) l told asked = by_case (same_task_tells u id) (same_task_tells id u) (λ was. first_opened h l.1 was asked)
    where
      by_case : ((same_task u id ≡ true) × (u ≡ id)) ⊎ ((same_task u id ≡ false) × (u ≢ id)) → ((same_task id u ≡ true) × (id ≡ u)) ⊎ ((same_task id u ≡ false) × (id ≢ u)) → (reply_of id h ≡ Some (replies.Search found) → IsFirst h) → IsFirst (End u reply ∷ h)
      by_case (inl (one, same)) (inl (is_one, is_same)) before =
          let replied = rw is_one at told in
          let good : reply ≡ replies.Search found = cc in
          let search : request_of said u h ≡ Some (asks.Search ask) = ap (λ x. request_of said x h) same ∙ asked in
          (clock h, rw (search, good, one, opens) refl)
      by_case (inl (one, same)) (inr (differs, apart)) before = absurd (apart (sym same))
      by_case (inr (other, apart)) (inl (is_one, same)) before = absurd (apart (sym same))
      by_case (inr (other, apart)) (inr (differs, also)) before =
          let was = before (rw differs at told) in
          (was.0, ap (λ o. option_or o (first_context said id h)) (none_opened (clock h) u id other (request_of said u h) reply) ∙ was.1)
  first_opened (_ ∷ h) l told asked = first_opened h l.1 told asked
