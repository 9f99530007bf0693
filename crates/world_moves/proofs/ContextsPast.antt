-- What is so of the contexts that stand in any past.
use Rattle.std.proofs.Common.{◌≡◌, ◌⊎◌, ℕ, ◌+◌, Bool, true, false, cond, List, [], ◌∷◌, Option, Some, None, refl, sym, ap, ◌∙◌, inl, inr, arith}
use Rattle.std.specs.Prelude.{◌&&◌, option_map}
use Rattle.task_ids.specs.declared.task_id.TaskId.{TaskId}
use Rattle.task_events.specs.declared.context.Context.{Context}
use Rattle.task_events.specs.declared.event.Event.{Event}
use Rattle.task_events.specs.declared.event.Event.TheVariants.{Begin, Root, Pass, Refuse, End, Tick}
use Rattle.task_events.specs.declared.reply.Reply.{Reply}
use Rattle.task_events.specs.declared.reply.Reply.TheVariants.{Search, Top, Hits, AllFailed, Wrote, Cancelled, Rejected}
use Rattle.task_events.specs.declared.reply.SearchReply.{SearchReply}
use Rattle.task_events.specs.declared.request.Request.{Request}
use Rattle.task_events.specs.declared.request.Request.TheVariants as asks
use Rattle.task_events.specs.declared.request.SearchAsk.{SearchAsk}
use Rattle.task_events.specs.Clock.{clock}
use Rattle.task_events.specs.Contexts.{is_expired, can_clear, opens_context, opened, with_use, given_back, cursor_in, after_begin, after_taking, after_end, unexpired, without_owned, context_at}
use Rattle.task_events.specs.Requests.{Scripted, request_of}
use Rattle.task_events.specs.Same.{same_task}
use Rattle.task_events.specs.Tasks.{has_ended}
use Rattle.task_laws.proofs.Same.{same_tests}
use Rattle.search_phase.proofs.Sorting.{by_test}

-- ---- what an event makes of one context

-- what a test leaves was there before
left_there : {X : Type 0} (b : Bool) (o : Option X) (x : X) → cond b None o ≡ Some x → o ≡ Some x
left_there true o x e = absurd (cc)
left_there false o x e = e

pub begun_there : (cleared : Option TaskId) (id : TaskId) (o : Option Context) (c : Context) → after_begin cleared id o ≡ Some c → o ≡ Some c
begun_there None id o c e = e
begun_there (Some other) id o c e = left_there (same_task other id && can_clear None o) o c e

pub unexpired_there : (now : ℕ) (o : Option Context) (c : Context) → unexpired now o ≡ Some c → o ≡ Some c
unexpired_there now None c e = absurd (cc)
unexpired_there now (Some d) c e = left_there (is_expired now d) (Some d) c e

pub left_owned : (t : TaskId) (o : Option Context) (c : Context) → without_owned t o ≡ Some c → o ≡ Some c
left_owned t o c e = left_there (can_clear (Some t) o) o c e

-- it was there before, and only who uses it, until when it is kept and how far it was shown is other
abbrev pub WasThere : Option Context → Context → Type 0
WasThere o c = (d : Context) × (o ≡ Some d) × (c.id ≡ d.id) × (c.shards ≡ d.shards) × (c.ask ≡ d.ask)

changed_there : (b : Bool) (f : Context → Context) → ((d : Context) → ((f d).id ≡ d.id) × ((f d).shards ≡ d.shards) × ((f d).ask ≡ d.ask)) → (o : Option Context) (c : Context) → cond b (option_map f o) o ≡ Some c → WasThere o c
changed_there true f keeps None c e = absurd (cc)
changed_there true f keeps (Some d) c e = let is : f d ≡ c = cc in (d, refl, ap (λ x. x.id) (sym is) ∙ (keeps d).0, ap (λ x. x.shards) (sym is) ∙ (keeps d).1, ap (λ x. x.ask) (sym is) ∙ (keeps d).2)
changed_there false f keeps o c e = (c, e, refl, refl, refl)

pub taken_there : (now : ℕ) (t : TaskId) (request : Option Request) (id : TaskId) (o : Option Context) (c : Context) → after_taking now t request id o ≡ Some c → WasThere o c
taken_there now t None id o c e = (c, e, refl, refl, refl)
taken_there now t (Some (asks.Search ask)) id o c e = (c, e, refl, refl, refl)
taken_there now t (Some (asks.Query ask)) id o c e = (c, e, refl, refl, refl)
taken_there now t (Some (asks.Fetch ask)) id o c e = (c, e, refl, refl, refl)
taken_there now t (Some (asks.Reindex ask)) id o c e = (c, e, refl, refl, refl)
taken_there now t (Some (asks.Slice ask)) id o c e = (c, e, refl, refl, refl)
taken_there now t (Some (asks.Bulk ask)) id o c e = (c, e, refl, refl, refl)
taken_there now t (Some (asks.BulkShard ask)) id o c e = (c, e, refl, refl, refl)
taken_there now t (Some (asks.Scroll ask)) id o c e = changed_there (same_task ask.id id) (with_use now ask.keep t) (λ d. (refl, refl, refl)) o c e

-- the end of a search has opened it
abbrev pub IsOpened : ℕ → TaskId → Option Request → Reply → TaskId → Context → Type 0
IsOpened now t request reply id c = (ask : SearchAsk) × (found : SearchReply) × (request ≡ Some (asks.Search ask)) × (reply ≡ Search found) × (same_task t id ≡ true) × (c ≡ opened id ask found now)

search_there : (now : ℕ) (t : TaskId) (ask : SearchAsk) (found : SearchReply) (id : TaskId) (o : Option Context) (c : Context) → cond (same_task t id && opens_context ask) (Some (opened id ask found now)) o ≡ Some c
    → IsOpened now t (Some (asks.Search ask)) (Search found) id c ⊎ WasThere o c
search_there now t ask found id o c e =
    by_test (same_task t id)
    (λ same. by_test (opens_context ask)
    (λ opens. let f : Some (opened id ask found now) ≡ Some c = rw (same, opens) at e in let g : opened id ask found now ≡ c = cc in inl (ask, found, refl, refl, same, sym g))
    (λ none. inr (c, rw (same, none) at e, refl, refl, refl)))
    (λ other. inr (c, rw other at e, refl, refl, refl))

pub ended_there : (now : ℕ) (t : TaskId) (request : Option Request) (reply : Reply) (id : TaskId) (o : Option Context) (c : Context) → after_end now t request reply id o ≡ Some c → IsOpened now t request reply id c ⊎ WasThere o c
ended_there now t None reply id o c e = inr (c, e, refl, refl, refl)
ended_there now t (Some (asks.Query ask)) reply id o c e = inr (c, e, refl, refl, refl)
ended_there now t (Some (asks.Fetch ask)) reply id o c e = inr (c, e, refl, refl, refl)
ended_there now t (Some (asks.Reindex ask)) reply id o c e = inr (c, e, refl, refl, refl)
ended_there now t (Some (asks.Slice ask)) reply id o c e = inr (c, e, refl, refl, refl)
ended_there now t (Some (asks.Bulk ask)) reply id o c e = inr (c, e, refl, refl, refl)
ended_there now t (Some (asks.BulkShard ask)) reply id o c e = inr (c, e, refl, refl, refl)
ended_there now t (Some (asks.Scroll ask)) reply id o c e = inr (changed_there (same_task ask.id id) (given_back (cursor_in reply) now) (λ d. (refl, refl, refl)) o c e)
ended_there now t (Some (asks.Search ask)) (Search found) id o c e = search_there now t ask found id o c e
ended_there now t (Some (asks.Search ask)) (Top top) id o c e = inr (c, e, refl, refl, refl)
ended_there now t (Some (asks.Search ask)) (Hits hits) id o c e = inr (c, e, refl, refl, refl)
ended_there now t (Some (asks.Search ask)) (Wrote counts) id o c e = inr (c, e, refl, refl, refl)
ended_there now t (Some (asks.Search ask)) (AllFailed failed) id o c e = inr (c, e, refl, refl, refl)
ended_there now t (Some (asks.Search ask)) (Cancelled task cancel counts) id o c e = inr (c, e, refl, refl, refl)
ended_there now t (Some (asks.Search ask)) (Rejected node) id o c e = inr (c, e, refl, refl, refl)

-- ---- every past

module _ (said : Scripted) (id : TaskId) where
  -- a context stands only once its search has ended
  pub stands_ended : (h : List Event) (c : Context) → context_at said id h ≡ Some c → has_ended id h ≡ true
  stands_ended [] c e = absurd (cc)
  stands_ended (Begin k ∷ h) c e = stands_ended h c (begun_there (said.clears k h) id (context_at said id h) c e)
  stands_ended (Root k t ∷ h) c e = let was = taken_there (clock h) t (said.root k h) id (context_at said id h) c e in stands_ended h was.0 was.1
  stands_ended (Pass t ∷ h) c e = let was = taken_there (clock h) t (request_of said t h) id (context_at said id h) c e in stands_ended h was.0 was.1
  stands_ended (Tick ms ∷ h) c e = stands_ended h c (unexpired_there (clock h + ms) (context_at said id h) c e)
  stands_ended (Refuse u k ∷ h) c e = still (same_task id u) (stands_ended h c e)
    where
      still : (b : Bool) → has_ended id h ≡ true → cond b true (has_ended id h) ≡ true
      still true before = refl
      still false before = before
  stands_ended (End t reply ∷ h) c e = of_end (stands_ended h) (ended_there (clock h) t (request_of said t h) reply id (context_at said id h) c (left_owned t (after_end (clock h) t (request_of said t h) reply id (context_at said id h)) c e))
    where
      still : (b : Bool) → has_ended id h ≡ true → cond b true (has_ended id h) ≡ true
      still true before = refl
      still false before = before

      of_end : ((d : Context) → context_at said id h ≡ Some d → has_ended id h ≡ true) → IsOpened (clock h) t (request_of said t h) reply id c ⊎ WasThere (context_at said id h) c → has_ended id (End t reply ∷ h) ≡ true
      of_end before (inl (ask, found, request, good, same, is)) = let back : same_task id t ≡ true = grind (arith, same_tests) in rw back refl
      of_end before (inr (d, was, own, shards, ask)) = still (same_task id t) (before d was)
  stands_ended (_ ∷ h) c e = stands_ended h c e

  -- it has the id at which it stands
  pub own_id : (h : List Event) (c : Context) → context_at said id h ≡ Some c → c.id ≡ id
  own_id [] c e = absurd (cc)
  own_id (Begin k ∷ h) c e = own_id h c (begun_there (said.clears k h) id (context_at said id h) c e)
  own_id (Root k t ∷ h) c e = let was = taken_there (clock h) t (said.root k h) id (context_at said id h) c e in was.2 ∙ own_id h was.0 was.1
  own_id (Pass t ∷ h) c e = let was = taken_there (clock h) t (request_of said t h) id (context_at said id h) c e in was.2 ∙ own_id h was.0 was.1
  own_id (Tick ms ∷ h) c e = own_id h c (unexpired_there (clock h + ms) (context_at said id h) c e)
  own_id (End t reply ∷ h) c e = of_end (own_id h) (ended_there (clock h) t (request_of said t h) reply id (context_at said id h) c (left_owned t (after_end (clock h) t (request_of said t h) reply id (context_at said id h)) c e))
    where
      of_end : ((d : Context) → context_at said id h ≡ Some d → d.id ≡ id) → IsOpened (clock h) t (request_of said t h) reply id c ⊎ WasThere (context_at said id h) c → c.id ≡ id
      of_end before (inl (ask, found, request, good, same, is)) = ap (λ x. x.id) is
      of_end before (inr (d, was, own, shards, ask)) = own ∙ before d was
  own_id (_ ∷ h) c e = own_id h c e
