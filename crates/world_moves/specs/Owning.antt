-- The contexts that belong to tasks: a task has them opened by searches that it asks for, and asks for their pages one after the other.
use Rattle.std.specs.Prelude.{◌≡◌, ℕ, true, false, List, [], ◌∷◌, Option, Some, None, nat_le, IsSomeAnd, ⊤}
use Rattle.task_ids.specs.declared.task_id.TaskId.{TaskId}
use Rattle.task_events.specs.declared.context.Context.{Context}
use Rattle.task_events.specs.declared.event.Event.{Event}
use Rattle.task_events.specs.declared.event.Event.TheVariants.{Root, Ask, Pass}
use Rattle.task_events.specs.declared.reply.Reply.TheVariants as replies
use Rattle.task_events.specs.declared.reply.SearchReply.{SearchReply}
use Rattle.task_events.specs.declared.request.Request.{Request}
use Rattle.task_events.specs.declared.request.Request.TheVariants as asks
use Rattle.task_events.specs.declared.request.ScrollAsk.{ScrollAsk}
use Rattle.task_events.specs.declared.request.SearchAsk.{SearchAsk}
use Rattle.task_events.specs.Asks.{request_of_ask, is_unanswered}
use Rattle.task_events.specs.Contexts.{is_busy, context_at}
use Rattle.task_events.specs.Requests.{Scripted, request_of}
use Rattle.task_events.specs.Tasks.{is_live, has_ended, is_new, parent_of, reply_of}

-- a search that a task asked for, with a context of its own, and that ended with hits
pub record IsSearchOf (said : Scripted) (owner search : TaskId) (h : List Event) : Type 0 where
  pub ask : SearchAsk
  pub found : SearchReply
  pub parent : parent_of search h ≡ Some owner
  pub asked : request_of said search h ≡ Some (asks.Search ask)
  pub own : ask.owner ≡ Some owner
  pub ended : reply_of search h ≡ Some (replies.Search found)

-- a live child of the owner that has passed shows a page of its context
pub record IsShownBy (said : Scripted) (owner id user : TaskId) (h : List Event) : Type 0 where
  pub ask : ScrollAsk
  pub live : is_live user h ≡ true
  pub passed : is_new user h ≡ false
  pub parent : parent_of user h ≡ Some owner
  pub asked : request_of said user h ≡ Some (asks.Scroll ask)
  pub shows : ask.id ≡ id

-- no other task uses it
abbrev pub IsUsedByOwn : Scripted → TaskId → TaskId → List Event → Option TaskId → Type 0
IsUsedByOwn said owner id h None = ⊤
IsUsedByOwn said owner id h (Some user) = IsShownBy said owner id user h

-- the context of a task's search stands, belongs to the task, and does not expire
pub record Stands (said : Scripted) (owner id : TaskId) (h : List Event) : Type 0 where
  pub context : Context
  pub there : context_at said id h ≡ Some context
  pub owned : context.owner ≡ Some owner
  pub kept : context.keep_ms ≡ None
  pub used : IsUsedByOwn said owner id h context.busy

-- a page is that of a context which the task's own search has opened, and gives it no keep-alive
pub record IsOwnPage (said : Scripted) (p : TaskId) (ask : ScrollAsk) (h : List Event) : Type 0 where
  pub own : ask.owner ≡ Some p
  pub no_keep : ask.keep ≡ None
  pub opened : IsSearchOf said p ask.id h

-- a search that a task asks for has a context of its own, which does not expire, and shows the first rows, one at least
pub record IsOwnSearch (p : TaskId) (ask : SearchAsk) : Type 0 where
  pub own : ask.owner ≡ Some p
  pub no_keep : ask.scroll ≡ None
  pub from : ask.body.from ≡ 0
  pub some : nat_le 1 ask.body.size ≡ true

-- a task waits for a page
pub record AwaitsPage (p : TaskId) (k : ℕ) (h : List Event) : Type 0 where
  pub ask : ScrollAsk
  pub waits : is_unanswered p k h ≡ true
  pub asked : request_of_ask p k h ≡ Some (asks.Scroll ask)

pub record Owning (said : Scripted) (h : List Event) : Type 0 where
  -- the contexts of a task's searches stand until it ends
  pub stands : (owner search : TaskId) → IsSearchOf said owner search h → has_ended owner h ≡ false → Stands said owner search h
  -- a task asks for contexts of its own, and for their pages
  pub searches : (p : TaskId) (k : ℕ) (ask : SearchAsk) → request_of_ask p k h ≡ Some (asks.Search ask) → IsOwnSearch p ask
  pub pages : (p : TaskId) (k : ℕ) (ask : ScrollAsk) → request_of_ask p k h ≡ Some (asks.Scroll ask) → IsOwnPage said p ask h
  -- and waits for one of these at a time
  pub alone : (p : TaskId) (j k : ℕ) → AwaitsPage p j h → AwaitsPage p k h → j ≡ k

-- a task may ask for this: a page where all its earlier asks are answered
abbrev pub MayAskOwn : Scripted → TaskId → Request → List Event → Type 0
MayAskOwn said p (asks.Search ask) h = IsOwnSearch p ask
MayAskOwn said p (asks.Scroll ask) h = IsOwnPage said p ask h × ((j : ℕ) → is_unanswered p j h ≡ false)
MayAskOwn said p _ h = ⊤

-- a root may ask for this: a page of a context that belongs to no task
abbrev pub MayTakeFree : Scripted → Option Request → List Event → Type 0
MayTakeFree said (Some (asks.Scroll ask)) h = (c : Context) → context_at said ask.id h ≡ Some c → c.owner ≡ None
MayTakeFree said _ h = ⊤

-- the event leaves owned contexts as they should be
abbrev pub LeavesOwned : Scripted → Event → List Event → Type 0
LeavesOwned said (Ask p k n r) h = MayAskOwn said p r h
LeavesOwned said (Root k t) h = MayTakeFree said (said.root k h) h
LeavesOwned said _ h = ⊤

-- ---- one page at a time

-- where a page is asked for, its context stands and no task uses it
abbrev pub FindsFree : (TaskId → Option Context) → Option Request → Type 0
FindsFree look (Some (asks.Scroll ask)) = IsSomeAnd (look ask.id) (λ c. is_busy c ≡ false)
FindsFree look _ = ⊤

-- what a task asks for opens no context but one of its own
abbrev pub AsksForOwn : TaskId → Request → Type 0
AsksForOwn p (asks.Search ask) = IsOwnSearch p ask
AsksForOwn p _ = ⊤

-- Each page began where no task used its context, and each context that a task had opened was its own.
abbrev pub OneAtATime : Scripted → List Event → Type 0
OneAtATime said [] = ⊤
OneAtATime said (Root k t ∷ h) = FindsFree (λ id. context_at said id h) (said.root k h) × OneAtATime said h
OneAtATime said (Pass t ∷ h) = FindsFree (λ id. context_at said id h) (request_of said t h) × OneAtATime said h
OneAtATime said (Ask p k n r ∷ h) = AsksForOwn p r × OneAtATime said h
OneAtATime said (_ ∷ h) = OneAtATime said h
