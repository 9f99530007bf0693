-- What each letter of a run tells, by what is known of the run.
use Rattle.std.specs.Prelude.{◌≡◌, true, List, length, Option, Some, None, IfSome, ⊤}
use Rattle.task_events.specs.Answered.{as_answered}
use Rattle.task_events.specs.Answers.{fetched}
use Rattle.task_events.specs.Readings.{page_reading, search_reading}
use Rattle.task_events.specs.Searches.{failure_in}
use Rattle.task_events.specs.declared.answered.AnsweredRequest.{AnsweredRequest}
use Rattle.task_events.specs.declared.answered.AnsweredRequest.TheVariants as told
use Rattle.task_events.specs.declared.context.Context.{Context}
use Rattle.task_events.specs.declared.reply.Hit.{Hit}
use Rattle.task_events.specs.declared.reply.Reply.{Reply}
use Rattle.task_events.specs.declared.reply.Reply.TheVariants.{Top, Hits}
use Rattle.task_events.specs.declared.reply.ShardTop.{ShardTop}
use Rattle.task_events.specs.declared.request.FetchAsk.{FetchAsk}
use Rattle.task_events.specs.declared.request.Request.{Request}
use Rattle.task_events.specs.declared.request.Request.TheVariants as asks
use Rattle.task_events.specs.declared.request.ScrollAsk.{ScrollAsk}
use Rattle.task_events.specs.declared.request.ShardAsk.{ShardAsk}
use Rattle.task_ids.specs.declared.task_id.TaskId.{TaskId}
use Rattle.node_link.specs.Lawful.{is_page}
use Rattle.node_link.specs.declared.body.Asked.{Asked}
use Rattle.node_link.specs.declared.body.Body.{Body}
use Rattle.node_link.specs.declared.body.Body.TheVariants as says
use Rattle.node_link.specs.declared.body.Place.{Place}
use Rattle.node_link.specs.declared.body.Start.{Start}
use Rattle.node_link.specs.declared.page.Page.{Page}
use Rattle.reply_facts.specs.Plainly.{AreWhole, IsPlainOver, top_over}
use Rattle.reply_facts.specs.Settings.{IsSteady, Setting, Sought, lines_in, sought_at, sought_by}

-- ---- what is asked

-- A query of a search. In an index that stays it reads all lines of its shard.
pub record IsQueryFor (run : Setting) (q : Sought) (ask : ShardAsk) : Type 0 where
  pub index : ask.index ≡ q.index
  pub body : ask.body ≡ q.body
  pub slice : ask.slice ≡ q.slice
  pub reads : IsSteady run q.index → IfSome ask.version (λ version. version ≡ length (lines_in run q.index ask.shard))

-- And so does a fetch.
pub record IsFetchFor (run : Setting) (q : Sought) (ask : FetchAsk) : Type 0 where
  pub index : ask.index ≡ q.index
  pub reads : IsSteady run q.index → ask.version ≡ length (lines_in run q.index ask.shard)

-- A request of the task at a place: where it belongs to a search of which it is known what it looks for, it is for that. Of the searches of a reindex nothing is known, and it writes to an index that the run may write.
abbrev pub IsRequestAt : Setting → Place → AnsweredRequest → Type 0
IsRequestAt run place (told.Search ask) = IfSome (sought_at run place) (λ q. sought_by ask ≡ q)
IsRequestAt run place (told.Query ask) = IfSome (sought_at run place) (λ q. IsQueryFor run q ask)
IsRequestAt run place (told.Fetch ask) = IfSome (sought_at run place) (λ q. IsFetchFor run q ask)
IsRequestAt run place (told.Scroll ask) = ⊤
IsRequestAt run place (told.Reindex ask) = (sought_at run place ≡ None) × (run.is_written ask.dest ≡ true)
IsRequestAt run place (told.Slice ask) = (sought_at run place ≡ None) × (run.is_written ask.reindex.dest ≡ true)
IsRequestAt run place (told.Bulk dest docs) = run.is_written dest ≡ true
IsRequestAt run place (told.BulkShard dest shard docs) = run.is_written dest ≡ true

-- A page of a search. Its context counts all lines of an index that stays.
pub record IsPageFor (run : Setting) (q : Sought) (page : Page) : Type 0 where
  pub looks : sought_by page.ask ≡ q
  pub counts : IsSteady run q.index → AreWhole page.ask (lines_in run q.index) page.shards

abbrev pub IsPageAt : Setting → Place → Page → Type 0
IsPageAt run place page = IfSome (sought_at run place) (λ q. IsPageFor run q page)

-- ---- what is replied

-- the context that a page stands for
abbrev pub context_of_page : ScrollAsk → Page → Context
context_of_page ask page = record { id = ask.id; ask = page.ask; shards = page.shards; after = page.after; keep_ms = None; last_ms = 0; owner = ask.owner; busy = None }

-- the context of a start, where it starts a scroll
abbrev pub context_of_start : Request → Option Page → Option Context
context_of_start (asks.Scroll ask) (Some page) = Some (context_of_page ask page)
context_of_start _ _ = None

-- The reply to a request about an index that stays, if it is none of a failure: what a query and a fetch find among the lines of their shard, and the plain answer of a search and of a page.
abbrev pub RepliesTo : Setting → AnsweredRequest → Option Page → Reply → Type 0
RepliesTo run (told.Search ask) page reply = failure_in reply ≡ None → (task : TaskId) × IsPlainOver (lines_in run ask.index) (search_reading task ask run.shards) reply
RepliesTo run (told.Query ask) page reply = (top : ShardTop) → reply ≡ Top top → top ≡ top_over ask (lines_in run ask.index ask.shard)
RepliesTo run (told.Fetch ask) page reply = (hits : List Hit) → reply ≡ Hits hits → hits ≡ fetched ask (lines_in run ask.index ask.shard)
RepliesTo run (told.Scroll ask) page reply = failure_in reply ≡ None → IfSome page (λ p. IsPlainOver (lines_in run p.ask.index) (page_reading (context_of_page ask p)) reply)
RepliesTo run (told.Reindex ask) page reply = ⊤
RepliesTo run (told.Slice ask) page reply = ⊤
RepliesTo run (told.Bulk dest docs) page reply = ⊤
RepliesTo run (told.BulkShard dest shard docs) page reply = ⊤

-- What an answer tells of the task at a place.
pub record IsAnswerAt (run : Setting) (place : Place) (request : AnsweredRequest) (page : Option Page) (reply : Reply) : Type 0 where
  pub asked : IsRequestAt run place request
  pub shown : IfSome page (IsPageAt run place)
  pub replied : IfSome (sought_at run place) (λ q. IsSteady run q.index → RepliesTo run request page reply)

-- ---- letters

-- A child is asked for this. Only slices ask for pages.
pub record IsAskOf (run : Setting) (a : Asked) : Type 0 where
  pub request : IsRequestAt run a.place (as_answered a.request)
  pub page : is_page (as_answered a.request) ≡ true → sought_at run a.place ≡ None

-- A command starts a task for this.
pub record IsStartOf (run : Setting) (s : Start) : Type 0 where
  pub request : IsRequestAt run s.place (as_answered s.request)
  pub page : IfSome s.page (IsPageAt run s.place)

-- What a letter tells: who asks and who starts says for what, and each answer is over the run's lines.
abbrev pub TellsPlainly : Setting → Body → Type 0
TellsPlainly run (says.Request asked) = IsAskOf run asked
TellsPlainly run (says.Start start) = IsStartOf run start
TellsPlainly run (says.Answer a) = IsAnswerAt run a.place a.request a.page a.reply
TellsPlainly run (says.RootAnswer a) = IsAnswerAt run a.place a.request a.page a.reply
TellsPlainly run _ = ⊤
