-- The contexts of a book: a search's answer opens one, a page is read from it and turns it, and it goes.
use Rattle.std.specs.Prelude.{◌≡◌, ℕ, true, Option, None, Some, IsSomeAnd, is_some, option_map, Result, Ok, Err, if◌then◌else◌}
use Rattle.std.specs.FinMap.{FinMap, get, insert}
use Rattle.node_link.specs.Lawful.{IsCommand}
use Rattle.node_link.specs.declared.page.Page.{Page}
use Rattle.reply_facts.specs.Letters.{IsPageFor}
use Rattle.reply_facts.specs.Settings.{Setting}
use Rattle.run_book.specs.declared.contexts.Contexts.{Contexts}
use Rattle.scroll_table.specs.declared.context.PageError.{PageError}
use Rattle.scroll_table.specs.Contexts.{answer_for}
use Rattle.task_events.specs.Allowed.{is_rejection}
use Rattle.task_events.specs.Contexts.{given_back, with_use}
use Rattle.task_events.specs.Counts.{AreCounts}
use Rattle.task_events.specs.declared.answered.AnsweredRequest.{AnsweredRequest}
use Rattle.task_events.specs.declared.answered.AnsweredRequest.TheVariants as told
use Rattle.task_events.specs.declared.context.Context.{Context}
use Rattle.task_events.specs.declared.reply.Reply.{Reply}
use Rattle.task_events.specs.declared.reply.Reply.TheVariants as replies
use Rattle.task_events.specs.declared.reply.SearchReply.{SearchReply}
use Rattle.task_events.specs.declared.request.HitKey.{HitKey}
use Rattle.task_events.specs.declared.request.ScrollAsk.{ScrollAsk}
use Rattle.task_events.specs.declared.request.SearchAsk.{SearchAsk}
use Rattle.task_ids.specs.TaskIdOrder.{task_id_cmp}
use Rattle.task_ids.specs.declared.task_id.TaskId.{TaskId}

abbrev pub Table : Type 0
Table = FinMap task_id_cmp Context

-- the page at which a context stands
abbrev pub page_of : Context → Page
page_of c = record { ask = c.ask; shards = c.shards; after = c.after }

-- the page that is read, where the context may be used
abbrev pub page_in : Result Context PageError → Option Page
page_in (Ok c) = Some (page_of c)
page_in (Err e) = None

-- the last row that a reply shows, where it is a good one and shows one
abbrev pub cursor_of : Reply → Option HitKey
cursor_of (replies.Search reply) = reply.last
cursor_of (replies.Top top) = None
cursor_of (replies.Hits hits) = None
cursor_of (replies.AllFailed failed) = None
cursor_of (replies.Wrote counts) = None
cursor_of (replies.Cancelled task cancel counts) = None
cursor_of (replies.Rejected node) = None

-- the context that a search opens with its answer at a moment. It belongs to no task.
abbrev pub opened : TaskId → SearchAsk → SearchReply → ℕ → Context
opened id ask reply now = record { id = id; ask = ask; shards = reply.shards; after = reply.last; keep_ms = ask.scroll; last_ms = now; owner = None; busy = None }

-- The root of a scroll took its context at this moment, where it might, and gives it back.
abbrev pub turned_by : Result Context PageError → Table → ScrollAsk → Option HitKey → ℕ → Table
turned_by (Ok c) contexts ask cursor now = insert (insert contexts ask.id (with_use now ask.keep ask.id c)) ask.id (given_back cursor now (with_use now ask.keep ask.id c))
turned_by (Err e) contexts ask cursor now = contexts

-- the contexts after the root of a scroll has ended, which took none where it was rejected
abbrev pub after_page : Contexts → ℕ → ScrollAsk → Reply → Contexts
after_page contexts now ask reply = if is_rejection reply then contexts else record contexts { table = turned_by (answer_for None now (get contexts.table ask.id)) contexts.table ask (cursor_of reply) now }

-- the context that a search opens with a good answer
abbrev pub opening : AnsweredRequest → Reply → Option (TaskId × SearchAsk × SearchReply)
opening (told.Search ask) (replies.Search reply) = option_map (λ id. (id, ask, reply)) reply.context
opening _ _ = None

-- the contexts with one that the search of a command opens
abbrev pub with_opened : Contexts → ℕ → ℕ → TaskId → SearchAsk → SearchReply → Contexts
with_opened contexts now command id ask reply = record { table = insert contexts.table id (opened id ask reply now); openers = insert contexts.openers id command }

-- It opens where no context of its id is there, and where the shards of the answer are in order.
abbrev pub after_opening : Contexts → ℕ → ℕ → Option (TaskId × SearchAsk × SearchReply) → Contexts → Type 0
after_opening contexts now command None after = after ≡ contexts
after_opening contexts now command (Some (id, ask, reply)) after =
    (is_some (get contexts.table id) ≡ true → after ≡ contexts)
    × (get contexts.table id ≡ None → AreCounts reply.shards → after ≡ with_opened contexts now command id ask reply)
    × ((AreCounts reply.shards → ⊥) → after ≡ contexts)

-- the contexts after the root of a command has ended that was sent no page
abbrev pub Opens : Contexts → ℕ → ℕ → AnsweredRequest → Reply → Contexts → Type 0
Opens contexts now command request reply after = after_opening contexts now command (opening request reply) after

-- ---- what is known of them

-- the search of this command opened a context: it is for what that looks for, and counts all lines of an index that no reindex writes to
abbrev pub IsOpenedBy : Setting → Context → ℕ → Type 0
IsOpenedBy run c command = IsCommand command × IsSomeAnd (run.sought command) (λ q. IsPageFor run q (page_of c))

-- so of each context
abbrev pub AreOpened : Setting → Contexts → Type 0
AreOpened run contexts = (id : TaskId) (c : Context) → get contexts.table id ≡ Some c → IsSomeAnd (get contexts.openers id) (IsOpenedBy run c)

-- a search may open this context, if it opens one
abbrev pub MayOpen : Setting → ℕ → Option (TaskId × SearchAsk × SearchReply) → Type 0
MayOpen run command None = Unit {0}
MayOpen run command (Some (id, ask, reply)) = (now : ℕ) → IsOpenedBy run (opened id ask reply now) command
