-- What commands come to as they begin: how far each is, and the letters that are sent for it.
use Rattle.std.specs.Prelude.{◌≡◌, ℕ, ◌+◌, ◌*◌, nat_le, ◌&&◌, Bool, false, List, [], ◌∷◌, Option, None, Some, is_some, IsSomeAnd, option_map, Result, Ok, Err, if◌then◌else◌}
use Rattle.std.specs.FinMap.{get, remove}
use Rattle.std.specs.Option.{option_map_or, unwrap_or}
use Rattle.command_roots.specs.Reindexes.{reindex_ask}
use Rattle.command_roots.specs.Roots.{least_size, search_ask}
use Rattle.line_print.specs.declared.reply.LineReply.{LineReply}
use Rattle.line_print.specs.declared.reply.LineReply.TheVariants as replies
use Rattle.node_link.specs.declared.body.Body.{Body}
use Rattle.node_link.specs.declared.body.Body.TheVariants as says
use Rattle.node_link.specs.declared.page.Page.{Page}
use Rattle.node_link.specs.Lawful.{is_page}
use Rattle.query_match.specs.declared.body.SearchBody.{SearchBody}
use Rattle.query_parse.specs.Bodies.{body_at}
use Rattle.query_parse.specs.Reindexes.{reindex_at}
use Rattle.query_parse.specs.declared.fault.BodyError.{BodyError}
use Rattle.query_parse.specs.declared.fault.ReindexError.{ReindexError}
use Rattle.query_parse.specs.declared.reindex_body.ReindexBody.{ReindexBody}
use Rattle.reply_facts.specs.Letters.{IsStartOf}
use Rattle.reply_facts.specs.Settings.{Setting}
use Rattle.run_facts.specs.declared.Post.{Post}
use Rattle.run_facts.specs.declared.To.TheVariants.{Control}
use Rattle.script_lang.specs.declared.command.CancelTarget.{CancelTarget}
use Rattle.script_lang.specs.declared.command.CancelTarget.TheVariants as targets
use Rattle.script_lang.specs.declared.command.Command.{Command}
use Rattle.script_lang.specs.declared.command.Command.TheVariants as commands
use Rattle.script_lang.specs.declared.command.ContextTarget.{ContextTarget}
use Rattle.script_lang.specs.declared.command.ContextTarget.TheVariants as named
use Rattle.scroll_table.specs.Contexts.{answer_for}
use Rattle.task_events.specs.Answered.{as_answered}
use Rattle.task_events.specs.Contexts.{can_clear, unexpired}
use Rattle.task_events.specs.declared.request.Request.{Request}
use Rattle.task_events.specs.declared.request.Request.TheVariants as requests
use Rattle.task_events.specs.declared.request.ScrollAsk.{ScrollAsk}
use Rattle.task_ids.specs.declared.task_id.TaskId.{TaskId}
use Rattle.run_book.specs.declared.book.Book.{Book}
use Rattle.run_book.specs.declared.entry.RootAsk.{RootAsk}
use Rattle.run_book.specs.declared.entry.RootAsk.TheVariants as roots
use Rattle.run_book.specs.declared.entry.SentPage.{SentPage}
use Rattle.run_book.specs.declared.entry.State.{State}
use Rattle.run_book.specs.declared.entry.State.TheVariants as states
use Rattle.run_book.specs.declared.entry.Waits.TheVariants as waits
use Rattle.run_book.specs.declared.starts.Asks.{Asks}
use Rattle.run_book.specs.declared.starts.Asks.TheVariants as asked
use Rattle.data_pool.specs.Gathered.{nothing_given}
use Rattle.run_book.specs.Told.{nothing_told}
use Rattle.run_book.specs.Posts.{post, start_of, start_posts, to_each}
use Rattle.run_book.specs.Contexts.{page_in}
use Rattle.run_book.specs.declared.contexts.Contexts.{Contexts}
use Rattle.run_book.specs.Entries.{is_known_to, root_of}

-- a command that has its answer at once
abbrev pub answered : LineReply → State
answered reply = states.Answered (record { reply = reply; receipt = None; page = None })

-- how far a command is as it has begun, and what is sent for it
abbrev pub Outcome : Type 0
Outcome = State × List (Post Body)

abbrev pub IsOutcome : Outcome → State → List (Post Body) → Type 0
IsOutcome outcome state posts = (state ≡ outcome.0) × (posts ≡ outcome.1)

-- ---- searches and reindexes

-- a search asks what its body says, or has the body's first fault, or its index is not known
abbrev pub search_asks : (List ℕ → Bool) → List ℕ → Option ℕ → Result SearchBody BodyError → Asks
search_asks known index scroll (Err fault) = asked.Nothing (replies.BadBody fault)
search_asks known index scroll (Ok body) = if known index then asked.Task (requests.Search (search_ask index scroll body)) else asked.Nothing (replies.NoIndex index)

-- and so does a reindex
abbrev pub reindex_asks : (List ℕ → Bool) → ℕ → Option ℕ → Result ReindexBody ReindexError → Option Asks
reindex_asks known slices rate (Err fault) = Some (asked.Nothing (replies.BadReindex fault))
reindex_asks known slices rate (Ok read) = if known read.source then option_map (λ ask. asked.Task (requests.Reindex ask)) (reindex_ask read slices rate) else Some (asked.Nothing (replies.NoIndex read.source))

-- what is asked, if anything is, is no page, and is what the command looks for or writes
abbrev pub MayStart : Setting → ℕ → Command → Asks → Type 0
MayStart run k command (asked.Task request) = (is_page (as_answered request) ≡ false) × IsStartOf run (start_of k k command request None)
MayStart run k command (asked.Nothing reply) = Unit {0}

-- the kind of a request of a root that is sent no page
abbrev pub root_ask : Request → RootAsk
root_ask (requests.Reindex ask) = roots.Reindex
root_ask _ = roots.Search

-- a root starts on a node, or there is an answer at once
abbrev pub started : ℕ → Command → ℕ → Asks → Outcome
started k command node (asked.Task request) = (states.Waits (waits.Root (root_ask request)), start_posts k k command node request None)
started k command node (asked.Nothing reply) = (answered reply, [])

-- ---- scrolls

abbrev pub ask_of : TaskId → Option ℕ → ScrollAsk
ask_of id keep = record { id = id; keep = keep; owner = None }

-- what its root is sent of a search
abbrev pub sent : ScrollAsk → ℕ → Page → SentPage
sent ask search page = record { ask = ask; page = record { search = search; after = page.after } }

-- the root of a scroll starts on the node of its context, and takes the page along
abbrev pub scrolled : ℕ → Command → TaskId → Option ℕ → ℕ → Option Page → Outcome
scrolled k command id keep search None = (answered (replies.NoContext (Some id)), [])
scrolled k command id keep search (Some page) = (states.Waits (waits.Root (roots.Page (sent (ask_of id keep) search page))), start_posts k search command id.node (requests.Scroll (ask_of id keep)) (Some page))

abbrev pub scrolled_if : ℕ → Command → Option ℕ → (TaskId → ℕ) → (TaskId → Option Page) → Option TaskId → Outcome
scrolled_if k command keep opener_in page_at None = (answered (replies.NoContext None), [])
scrolled_if k command keep opener_in page_at (Some id) = scrolled k command id keep (opener_in id) (page_at id)

-- ---- cancels

abbrev pub is_node_of : ℕ → ℕ → Bool
is_node_of nodes node = nat_le 1 node && nat_le node nodes

-- a cancel of a task goes to the control worker of its node, if that is one of the cluster
abbrev pub cancelled_task : ℕ → ℕ → TaskId → Bool → Outcome
cancelled_task nodes k task wait =
    if is_node_of nodes task.node
    then (states.Waits (waits.Cancel task wait), post (Control task.node) (says.Cancel k task wait) ∷ [])
    else (answered (replies.NotFound (Some task)), [])

abbrev pub cancelled_if : ℕ → ℕ → Option TaskId → Bool → Outcome
cancelled_if nodes k None wait = (answered (replies.NotFound None), [])
cancelled_if nodes k (Some task) wait = cancelled_task nodes k task wait

-- a cancel of a command is one of the task that it started, and one by a filter asks each data worker
abbrev pub cancelled : ℕ → ℕ → (ℕ → Option TaskId) → ℕ → CancelTarget → Bool → Outcome
cancelled nodes workers root k (targets.Task task) wait = cancelled_task nodes k task wait
cancelled nodes workers root k (targets.Command number) wait = cancelled_if nodes k (root number) wait
cancelled nodes workers root k (targets.Matching filter) wait = (states.Waits (waits.Naming (record { wait = wait; named = nothing_told nodes; tasks = 0; done = 0; receipt = None })), to_each nodes workers (says.CancelMatching k filter wait))

-- ---- each command

module _ {W : Type 0} (book : Book W) where
  -- the context that a command is about, by the id of the search that opened it
  abbrev pub context_in : ContextTarget → Option TaskId
  context_in (named.Id id) = Some id
  context_in (named.Command number) = root_of book.entries.items number

  -- the page at which the context of an id stands, where it may be used now
  abbrev pub page_at : TaskId → Option Page
  page_at id = page_in (answer_for None book.clock (get book.contexts.table id))

  -- the command whose search opened the context of an id, and where none did the one that asks
  abbrev pub opener_in : ℕ → TaskId → ℕ
  opener_in k id = unwrap_or (get book.contexts.openers id) k

  abbrev pub frees : Option TaskId → Bool
  frees named = option_map_or (λ id. can_clear None (get book.contexts.table id)) named false

  -- the contexts without one that is cleared, unless a task uses it
  abbrev pub contexts_without : Option TaskId → Contexts
  contexts_without None = book.contexts
  contexts_without (Some id) = record (book.contexts) { table = if can_clear None (get book.contexts.table id) then remove book.contexts.table id else book.contexts.table }

  -- the contexts after a command has begun: a clear frees one, and a tick those that were not used for their keep-alives
  abbrev pub Leaves : Command → Contexts → Type 0
  Leaves (commands.ClearScroll context) after = after ≡ contexts_without (context_in context)
  Leaves (commands.Tick ms) after = ((id : TaskId) → get after.table id ≡ unexpired (book.clock + ms) (get book.contexts.table id)) × (after.openers ≡ book.contexts.openers)
  Leaves _ after = after ≡ book.contexts

  -- what a command comes to that begins next, and has this number
  abbrev pub Begins : ℕ → Command → State → List (Post Body) → Type 0
  Begins k (commands.Search index node scroll body opaque_id) state posts = IsOutcome (started k (commands.Search index node scroll body opaque_id) node (search_asks (is_known_to book) index scroll (body_at (is_some scroll) (least_size scroll) body))) state posts
  Begins k (commands.Scroll context keep opaque_id) state posts = IsOutcome (scrolled_if k (commands.Scroll context keep opaque_id) keep (opener_in k) page_at (context_in context)) state posts
  Begins k (commands.ClearScroll context) state posts = IsOutcome (answered (replies.Cleared (frees (context_in context))), []) state posts
  Begins k (commands.Reindex node body slices rate opaque_id store) state posts = IsSomeAnd (reindex_asks (is_known_to book) slices rate (reindex_at body)) (λ asks. IsOutcome (started k (commands.Reindex node body slices rate opaque_id store) node asks) state posts)
  Begins k (commands.Cancel target reason wait) state posts = IsOutcome (cancelled book.nodes book.workers (root_of book.entries.items) k target wait) state posts
  Begins k (commands.ListTasks filter group detailed) state posts = IsOutcome (states.Waits (waits.Rows (nothing_given (book.nodes * book.workers)) book.clock), to_each book.nodes book.workers (says.List k)) state posts
  Begins k (commands.GetTask task wait) state posts = IsOutcome (answered replies.Answered, []) state posts
  Begins k (commands.ForgetTask task) state posts = IsOutcome (answered replies.Answered, []) state posts
  Begins k commands.ListResults state posts = IsOutcome (answered replies.Answered, []) state posts
  Begins k (commands.Tick ms) state posts = IsOutcome (answered (replies.Now (book.clock + ms)), to_each book.nodes book.workers (says.Tick ms)) state posts
  Begins k (commands.Deliver nth) state posts = IsOutcome (answered replies.Answered, []) state posts
  Begins k (commands.Step task) state posts = IsOutcome (answered replies.Answered, []) state posts
  Begins k (commands.ListStep node parent) state posts = IsOutcome (answered replies.Answered, []) state posts
  Begins k commands.Settle state posts = IsOutcome (answered replies.Answered, []) state posts
  Begins k (commands.Shuffle seed moves) state posts = IsOutcome (answered replies.Answered, []) state posts
  Begins k (commands.WaitFor command) state posts = IsOutcome (answered replies.Answered, []) state posts
  Begins k commands.History state posts = IsOutcome (answered replies.Answered, []) state posts
  Begins k commands.Summary state posts = IsOutcome (answered replies.Answered, []) state posts
