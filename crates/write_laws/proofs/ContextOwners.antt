-- A context that stands is what its search was asked for, and belongs to whom this was asked for; so no root has taken one that belongs to a task.
use Rattle.std.proofs.Common.{◌≡◌, ◌≢◌, ◌⊎◌, inl, inr, ◌+◌, ℕ, Bool, true, false, cond, ◌&&◌, List, [], ◌∷◌, Option, Some, None, refl, sym, ap, subst, ◌∙◌, arith}
use Rattle.std.specs.Prelude.{IsSomeAnd, option_map}
use Rattle.task_ids.specs.declared.cluster.Cluster.{Cluster}
use Rattle.task_ids.specs.declared.corpus.Corpus.{Corpus}
use Rattle.task_ids.specs.declared.task_id.TaskId.{TaskId}
use Rattle.task_events.specs.declared.context.Context.{Context}
use Rattle.task_events.specs.declared.event.Event.{Event}
use Rattle.task_events.specs.declared.event.Event.TheVariants.{Begin, End, Pass, Put, Root, Tick}
use Rattle.task_events.specs.declared.reply.Reply.{Reply}
use Rattle.task_events.specs.declared.reply.Reply.TheVariants as replies
use Rattle.task_events.specs.declared.request.Request.{Request}
use Rattle.task_events.specs.declared.request.Request.TheVariants as asks
use Rattle.task_events.specs.declared.request.ScrollAsk.{ScrollAsk}
use Rattle.task_events.specs.declared.request.SearchAsk.{SearchAsk}
use Rattle.task_events.specs.Clock.{clock}
use Rattle.task_events.specs.Contexts.{after_end, after_taking, context_at, cursor_in, given_back, is_busy, opened, opens_context, with_use}
use Rattle.task_events.specs.Lawful.{Lawful}
use Rattle.task_events.specs.Requests.{Scripted, request_of}
use Rattle.task_events.specs.Same.{same_task}
use Rattle.task_events.specs.Tasks.{child_of, parent_of}
use Rattle.script_lang.specs.declared.command.Script.{Script}
use Rattle.command_roots.specs.Roots.{scripted}
use Rattle.task_laws.proofs.Same.{same_task_tells, same_tests}
use Rattle.world_moves.proofs.ContextsPast.{begun_there, left_owned, unexpired_there}
use Rattle.world_moves.specs.Owning.{FindsFree, MayTakeFree}
use Rattle.write_laws.proofs.ByKind.{unborn_request}
use Rattle.write_laws.proofs.OwnSearches.{page_of_parent}
use Rattle.write_laws.proofs.Pasts.{IsPast, earlier}
use Rattle.write_laws.proofs.RootsFit.{RootFits}

module _ (cluster : Cluster) (said : Scripted) where
  -- what a task was asked to do stays
  pub request_stays : (e : Event) (h : List Event) → Lawful cluster (e ∷ h) → (t : TaskId) (request : Request) → request_of said t h ≡ Some request → request_of said t (e ∷ h) ≡ Some request
  request_stays (Root k u) h l t request e = let none = unborn_request cluster said h l.1 t in grind (arith, same_tests, none, l.0.takes.next)
  request_stays (Put u q j) h l t request e = let none = unborn_request cluster said h l.1 t in grind (arith, same_tests, none, l.0.takes.next)
  request_stays _ h l t request e = e

-- ---- contexts that stand

-- it is what its search was asked for, and belongs to whom this was asked for
abbrev IsAsAsked : Option Request → Context → Type 0
IsAsAsked request c = (request ≡ Some (asks.Search c.ask)) × (c.owner ≡ c.ask.owner)

abbrev AllAsAsked : Option Request → Option Context → Type 0
AllAsAsked request o = (c : Context) → o ≡ Some c → IsAsAsked request c

changed : (request : Option Request) (b : Bool) (f : Context → Context) → ((d : Context) → ((f d).ask ≡ d.ask) × ((f d).owner ≡ d.owner)) → (o : Option Context) → AllAsAsked request o → AllAsAsked request (cond b (option_map f o) o)
changed request true f keeps None all c e = absurd (cc)
changed request true f keeps (Some d) all c e =
    let is : f d ≡ c = cc in
    let was = all d refl in
    subst (IsAsAsked request) is (was.0 ∙ ap (λ a. Some (asks.Search a)) (sym (keeps d).0), (keeps d).1 ∙ was.1 ∙ ap (λ (a : SearchAsk). a.owner) (sym (keeps d).0))
changed request false f keeps o all c e = all c e

taken : (request : Option Request) (now : ℕ) (t : TaskId) (q : Option Request) (id : TaskId) (o : Option Context) → AllAsAsked request o → AllAsAsked request (after_taking now t q id o)
taken request now t None id o all = all
taken request now t (Some (asks.Search ask)) id o all = all
taken request now t (Some (asks.Query ask)) id o all = all
taken request now t (Some (asks.Fetch ask)) id o all = all
taken request now t (Some (asks.Reindex ask)) id o all = all
taken request now t (Some (asks.Slice ask)) id o all = all
taken request now t (Some (asks.Bulk ask)) id o all = all
taken request now t (Some (asks.BulkShard ask)) id o all = all
taken request now t (Some (asks.Scroll ask)) id o all = changed request (same_task ask.id id) (with_use now ask.keep t) (λ d. (refl, refl)) o all

-- the request of the id, which is the search that ends or another
ended : (now : ℕ) (t id : TaskId) (request q : Option Request) → (same_task t id ≡ true → request ≡ q) → (reply : Reply) (o : Option Context) → AllAsAsked request o → AllAsAsked request (after_end now t q reply id o)
ended now t id request None own reply o all = all
ended now t id request (Some (asks.Query ask)) own reply o all = all
ended now t id request (Some (asks.Fetch ask)) own reply o all = all
ended now t id request (Some (asks.Reindex ask)) own reply o all = all
ended now t id request (Some (asks.Slice ask)) own reply o all = all
ended now t id request (Some (asks.Bulk ask)) own reply o all = all
ended now t id request (Some (asks.BulkShard ask)) own reply o all = all
ended now t id request (Some (asks.Scroll ask)) own reply o all = changed request (same_task ask.id id) (given_back (cursor_in reply) now) (λ d. (refl, refl)) o all
ended now t id request (Some (asks.Search ask)) own (replies.Top top) o all = all
ended now t id request (Some (asks.Search ask)) own (replies.Hits hits) o all = all
ended now t id request (Some (asks.Search ask)) own (replies.AllFailed failed) o all = all
ended now t id request (Some (asks.Search ask)) own (replies.Wrote counts) o all = all
ended now t id request (Some (asks.Search ask)) own (replies.Cancelled u c counts) o all = all
ended now t id request (Some (asks.Search ask)) own (replies.Rejected n) o all = all
ended now t id request (Some (asks.Search ask)) own (replies.Search found) o all = by_tests (same_task t id) refl (opens_context ask)
  where
    by_tests : (b : Bool) → same_task t id ≡ b → (opens : Bool) → AllAsAsked request (cond (b && opens) (Some (opened id ask found now)) o)
    by_tests true one true c e = let is : opened id ask found now ≡ c = cc in subst (IsAsAsked request) is (own one, refl)
    by_tests true one false c e = all c e
    by_tests false other opens c e = all c e

module _ (cluster : Cluster) (said : Scripted) (id : TaskId) where
  -- a request that stays, where there was one
  kept : (e : Event) (h : List Event) → Lawful cluster (e ∷ h) → (o : Option Context) → AllAsAsked (request_of said id h) o → AllAsAsked (request_of said id (e ∷ h)) o
  kept e h l o all c there = let was = all c there in (request_stays cluster said e h l id (asks.Search c.ask) was.0, was.1)

  pub as_asked : (h : List Event) → Lawful cluster h → AllAsAsked (request_of said id h) (context_at said id h)
  as_asked [] l c e = absurd (cc)
  as_asked (Begin k ∷ h) l c e = as_asked h l.1 c (begun_there (said.clears k h) id (context_at said id h) c e)
  as_asked (Root k t ∷ h) l c e = kept (Root k t) h l (after_taking (clock h) t (said.root k h) id (context_at said id h)) (taken (request_of said id h) (clock h) t (said.root k h) id (context_at said id h) (as_asked h l.1)) c e
  as_asked (Put u q j ∷ h) l c e = kept (Put u q j) h l (context_at said id h) (as_asked h l.1) c e
  as_asked (Pass t ∷ h) l c e = taken (request_of said id h) (clock h) t (request_of said t h) id (context_at said id h) (as_asked h l.1) c e
  as_asked (Tick ms ∷ h) l c e = as_asked h l.1 c (unexpired_there (clock h + ms) (context_at said id h) c e)
  as_asked (End t reply ∷ h) l c e =
      ended (clock h) t id (request_of said id h) (request_of said t h) own reply (context_at said id h) (as_asked h l.1) c
      (left_owned t (after_end (clock h) t (request_of said t h) reply id (context_at said id h)) c e)
    where
      own : same_task t id ≡ true → request_of said id h ≡ request_of said t h
      own one = by_case (same_task_tells t id)
        where
          by_case : ((same_task t id ≡ true) × (t ≡ id)) ⊎ ((same_task t id ≡ false) × (t ≢ id)) → request_of said id h ≡ request_of said t h
          by_case (inl (is_one, same)) = ap (λ x. request_of said x h) (sym same)
          by_case (inr (other, apart)) = absurd (let no : true ≡ false = sym one ∙ other in cc)
  as_asked (_ ∷ h) l c e = as_asked h l.1 c e

-- ---- pages of contexts

module _ (cluster : Cluster) (corpus : Corpus) (script : Script) where
  -- it was opened by a search that nobody owns
  abbrev pub IsOfNobody : TaskId → List Event → Type 0
  IsOfNobody id h = (ask : SearchAsk) × (request_of (scripted script) id h ≡ Some (asks.Search ask)) × (ask.owner ≡ None)

  of_nobody_stays : (e : Event) (h : List Event) → Lawful cluster (e ∷ h) → (id : TaskId) → IsOfNobody id h → IsOfNobody id (e ∷ h)
  of_nobody_stays e h l id was = (was.0, request_stays cluster (scripted script) e h l id (asks.Search was.0) was.1, was.2)

  root_takes : (h : List Event) → Lawful cluster h → (s : ScrollAsk) → FindsFree (λ id. context_at (scripted script) id h) (Some (asks.Scroll s)) → MayTakeFree (scripted script) (Some (asks.Scroll s)) h → IsOfNobody s.id h
  root_takes h l s finds free = by_context (context_at (scripted script) s.id h) refl finds
    where
      by_context : (o : Option Context) → context_at (scripted script) s.id h ≡ o → IsSomeAnd o (λ c. is_busy c ≡ false) → IsOfNobody s.id h
      by_context None there found = absurd (found)
      by_context (Some c) there found = let is = as_asked cluster (scripted script) s.id h l c there in (c.ask, is.0, sym is.1 ∙ free c there)

  -- the page that a root shows is of such a context
  pub page_of_root : (h : List Event) → IsPast cluster corpus script h → (u : TaskId) (s : ScrollAsk) → parent_of u h ≡ None → request_of (scripted script) u h ≡ Some (asks.Scroll s) → IsOfNobody s.id h
  page_of_root [] past u s root asked = absurd (cc)
  page_of_root (Root k v ∷ h) past u s root asked = of_nobody_stays (Root k v) h past.lawful s.id (by_task (same_task u v) refl (page_of_root h (earlier cluster corpus script (Root k v) h past) u s root))
    where
      by_task : (b : Bool) → same_task u v ≡ b → (request_of (scripted script) u h ≡ Some (asks.Scroll s) → IsOfNobody s.id h) → IsOfNobody s.id h
      by_task true own before =
          let made : (scripted script).root k h ≡ Some (asks.Scroll s) = rw own at asked in
          let fits = subst (λ o. RootFits (scripted script) o h) made past.fit.0 in
          root_takes h past.lawful.1 s fits.0 fits.1
      by_task false other before = before (rw other at asked)
  page_of_root (Put v q j ∷ h) past u s root asked = of_nobody_stays (Put v q j) h past.lawful s.id (by_task (same_task u v) refl (page_of_root h (earlier cluster corpus script (Put v q j) h past) u s))
    where
      by_task : (b : Bool) → same_task u v ≡ b → (parent_of u h ≡ None → request_of (scripted script) u h ≡ Some (asks.Scroll s) → IsOfNobody s.id h) → IsOfNobody s.id h
      by_task true own before = absurd (let no : Some q ≡ None = rw own at root in cc)
      by_task false other before = before (rw other at root) (rw other at asked)
  page_of_root (e ∷ h) past u s root asked = of_nobody_stays e h past.lawful s.id (page_of_root h (earlier cluster corpus script e h past) u s root asked)

  -- a context that belongs to the task of its search is shown by children of this task alone
  pub shown_by_child : (h : List Event) → IsPast cluster corpus script h → (u id owner : TaskId) (s : ScrollAsk) (ask : SearchAsk) → request_of (scripted script) u h ≡ Some (asks.Scroll s) → s.id ≡ id
      → request_of (scripted script) id h ≡ Some (asks.Search ask) → ask.owner ≡ Some owner → (q : TaskId) × (parent_of u h ≡ Some q) × (child_of q 1 h ≡ Some id)
  shown_by_child h past u id owner s ask asked shows search owned = by_parent (parent_of u h) refl
    where
      by_parent : (o : Option TaskId) → parent_of u h ≡ o → (q : TaskId) × (parent_of u h ≡ Some q) × (child_of q 1 h ≡ Some id)
      by_parent (Some q) parent = (q, parent, page_of_parent cluster corpus script h past u q s parent asked ∙ ap Some shows)
      by_parent None parent =
          let was = page_of_root h past u s parent asked in
          let one : Some (asks.Search was.0) ≡ Some (asks.Search ask) = sym was.1 ∙ ap (λ x. request_of (scripted script) x h) shows ∙ search in
          let same : was.0 ≡ ask = cc in
          absurd (let no : None ≡ Some owner = sym was.2 ∙ ap (λ (a : SearchAsk). a.owner) same ∙ owned in cc)
