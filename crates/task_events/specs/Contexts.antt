-- The contexts of scrolls: a search opens one, its pages use it one after the other, and it is gone once it was not used for its keep-alive,
-- or is cleared.
use Rattle.std.specs.Prelude.{ℕ, ◌+◌, List, [], ◌∷◌, Bool, false, not, ◌&&◌, ◌||◌, ◌==◌, nat_le, Option, Some, None, is_some, option_map, if◌then◌else◌}
use Rattle.std.specs.Option.{option_eq, option_or}
use Rattle.std.specs.Str.{bytes_eq}
use Rattle.task_ids.specs.declared.task_id.TaskId.{TaskId}
use Rattle.task_events.specs.declared.context.Context.{Context}
use Rattle.task_events.specs.declared.event.Event.{Event}
use Rattle.task_events.specs.declared.event.Event.TheVariants.{Begin, Root, Pass, End, Tick}
use Rattle.task_events.specs.declared.reply.Reply.{Reply}
use Rattle.task_events.specs.declared.reply.Reply.TheVariants.{Search}
use Rattle.task_events.specs.declared.reply.SearchReply.{SearchReply}
use Rattle.task_events.specs.declared.request.HitKey.{HitKey}
use Rattle.task_events.specs.declared.request.Request.{Request}
use Rattle.task_events.specs.declared.request.Request.TheVariants as asks
use Rattle.task_events.specs.declared.request.SearchAsk.{SearchAsk}
use Rattle.task_events.specs.Clock.{clock}
use Rattle.task_events.specs.Counts.{version_in}
use Rattle.task_events.specs.Requests.{Scripted, request_of}
use Rattle.task_events.specs.Same.{same_task}

-- ---- one context

abbrev pub is_busy : Context → Bool
is_busy c = is_some c.busy

-- a time that began at a moment is over, where it ends
abbrev pub is_over : ℕ → ℕ → Option ℕ → Bool
is_over now since None = false
is_over now since (Some keep) = nat_le (since + keep) now

-- it was not used for its keep-alive, and no task uses it
abbrev pub is_expired : ℕ → Context → Bool
is_expired now c = not (is_busy c) && is_over now c.last_ms c.keep_ms

-- it belongs to this task, or to none where this is none
abbrev pub is_owned_by : Option TaskId → Context → Bool
is_owned_by by c = option_eq (λ a b. (a.node == b.node) && (a.number == b.number)) c.owner by

-- the version that a context keeps of a shard of an index, where it keeps one
abbrev pub version_kept : List ℕ → ℕ → Context → Option ℕ
version_kept index shard c = if bytes_eq c.ask.index index then version_in shard c.shards else None

-- ---- how it changes

-- a search opens a context where it has a keep-alive or an owner
abbrev pub opens_context : SearchAsk → Bool
opens_context ask = is_some ask.scroll || is_some ask.owner

-- the context that a search opens has the search's own id
abbrev pub context_of : TaskId → SearchAsk → Option TaskId
context_of task ask = if opens_context ask then Some task else None

-- It keeps what was read in the shards that answered, and the last row that was shown.
abbrev pub opened : TaskId → SearchAsk → SearchReply → ℕ → Context
opened id ask reply now = record { id = id; ask = ask; shards = reply.shards; after = reply.last; keep_ms = ask.scroll; last_ms = now; owner = ask.owner; busy = None }

-- a task uses it from this moment on, with another keep-alive where one is given
abbrev pub with_use : ℕ → Option ℕ → TaskId → Context → Context
with_use now keep user c = record c { keep_ms = option_or keep c.keep_ms; last_ms = now; busy = Some user }

-- no task uses it from this moment on, and its cursor is another where one is given
abbrev pub given_back : Option HitKey → ℕ → Context → Context
given_back after now c = record c { after = option_or after c.after; last_ms = now; busy = None }

-- one is there that belongs to this task, and no task uses it
abbrev pub can_clear : Option TaskId → Option Context → Bool
can_clear by None = false
can_clear by (Some c) = is_owned_by by c && not (is_busy c)

-- what is left at an id without what has expired
abbrev pub unexpired : ℕ → Option Context → Option Context
unexpired now None = None
unexpired now (Some c) = if is_expired now c then None else Some c

-- ---- what an event makes of the context of an id

-- a command that clears a context takes it away, unless a task uses it
abbrev pub after_begin : Option TaskId → TaskId → Option Context → Option Context
after_begin None id c = c
after_begin (Some cleared) id c = if same_task cleared id && can_clear None c then None else c

-- a task that asks for a page takes it at this moment
abbrev pub after_taking : ℕ → TaskId → Option Request → TaskId → Option Context → Option Context
after_taking now t (Some (asks.Scroll ask)) id c = if same_task ask.id id then option_map (with_use now ask.keep t) c else c
after_taking now t _ id c = c

-- the last row that a page showed, where it is a good one
abbrev pub cursor_in : Reply → Option HitKey
cursor_in (Search reply) = reply.last
cursor_in _ = None

-- A search with hits opens its context. A page gives it back however it ends, and moves the cursor where it ends well.
abbrev pub after_end : ℕ → TaskId → Option Request → Reply → TaskId → Option Context → Option Context
after_end now t (Some (asks.Search ask)) (Search reply) id c = if same_task t id && opens_context ask then Some (opened id ask reply now) else c
after_end now t (Some (asks.Scroll ask)) reply id c = if same_task ask.id id then option_map (given_back (cursor_in reply) now) c else c
after_end now t _ reply id c = c

-- a task that has ended leaves no context behind that belongs to it, unless a task uses it
abbrev pub without_owned : TaskId → Option Context → Option Context
without_owned t c = if can_clear (Some t) c then None else c

-- ---- the past

-- The context of an id, where it stands.
abbrev pub context_at : Scripted → TaskId → List Event → Option Context
context_at script id [] = None
context_at script id (Begin k ∷ h) = after_begin (script.clears k h) id (context_at script id h)
context_at script id (Root k t ∷ h) = after_taking (clock h) t (script.root k h) id (context_at script id h)
context_at script id (Pass t ∷ h) = after_taking (clock h) t (request_of script t h) id (context_at script id h)
context_at script id (End t reply ∷ h) = without_owned t (after_end (clock h) t (request_of script t h) reply id (context_at script id h))
context_at script id (Tick ms ∷ h) = unexpired (clock h + ms) (context_at script id h)
context_at script id (_ ∷ h) = context_at script id h

-- the context of which a request asks for a page
abbrev pub asked_page : (TaskId → Option Context) → Option Request → Option Context
asked_page look (Some (asks.Scroll ask)) = look ask.id
asked_page look _ = None

-- The context of which a task shows a page, as it stood when the task took it: a root when it started, a child when it passed.
abbrev pub page_of : Scripted → TaskId → List Event → Option Context
page_of script t [] = None
page_of script t (Root k u ∷ h) = if same_task t u then asked_page (λ id. context_at script id h) (script.root k h) else page_of script t h
page_of script t (Pass u ∷ h) = if same_task t u then asked_page (λ id. context_at script id h) (request_of script t h) else page_of script t h
page_of script t (_ ∷ h) = page_of script t h
