-- What a core does with a letter: what it sends, what it asks its board, and what it is then. Each is told by the letter, the core and the board's answers.
use Rattle.std.specs.Prelude.{◌≡◌, ℕ, ◌⊎◌, true, false, List, [], ◌∷◌, Option, None, Some, option_map, option_copied, filter, min, ◌+◌, ◌<◌}
use Rattle.task_ids.specs.declared.task_id.TaskId.{TaskId}
use Rattle.task_ids.specs.declared.task_info.Headers.{Headers}
use Rattle.task_ids.specs.declared.task_info.TaskInfo.{TaskInfo}
use Rattle.tasks_api.specs.declared.filter.Filter.{Filter}
use Rattle.tasks_api.specs.Filters.{filter_matches}
use Rattle.child_track.specs.Token.{Token, token_parent}
use Rattle.task_events.specs.declared.context.Context.{Context}
use Rattle.task_events.specs.declared.request.Request.{Request}
use Rattle.node_boards.specs.Calls.{DataCall}
use Rattle.node_boards.specs.Calls as call
use Rattle.node_link.specs.declared.body.Answered.{Answered}
use Rattle.node_link.specs.declared.body.Asked.{Asked}
use Rattle.node_link.specs.declared.body.Body.{Body}
use Rattle.node_link.specs.declared.body.Body.TheVariants as says
use Rattle.node_link.specs.declared.body.Place.{Place}
use Rattle.node_link.specs.declared.body.Start.{Start}
use Rattle.node_link.specs.declared.page.Page.{Page}
use Rattle.run_facts.specs.declared.Post.{Post}
use Rattle.run_facts.specs.declared.To.{To}
use Rattle.run_facts.specs.declared.To.TheVariants as to
use Rattle.live_tasks.specs.declared.entry.Entry.{Entry}
use Rattle.live_tasks.specs.declared.live.LiveTasks.{LiveTasks}
use Rattle.live_tasks.specs.declared.wanted.Wanted.{Wanted}
use Rattle.live_tasks.specs.Answering.{Fits, asker, left_by, untracking}
use Rattle.live_tasks.specs.Chains.{Chain}
use Rattle.live_tasks.specs.Entries.{after_look, after_answer}
use Rattle.live_tasks.specs.Live.{entry_at, number_at, ChangesAt, ChangesTask, SameTasks, IsBeyond}
use Rattle.live_tasks.specs.Registers.{IsNewEntry, registering}
use Rattle.data_parts.specs.Clocks.{last_moment}
use Rattle.data_parts.specs.Slices.{context_for, with_use_by}
use Rattle.reply_facts.specs.Letters.{context_of_start}
use Rattle.data_core.specs.declared.state.DataCore.{DataCore}
use Rattle.data_core.specs.declared.requests.Admission.{Admission}
use Rattle.data_core.specs.declared.requests.Admission.TheVariants.{PassedOver, Rejected, Taken}
use Rattle.data_core.specs.Admitting.{admission_of, child_admission_of}
use Rattle.data_core.specs.Letters.{rejected, root_rejected, page_at, row_of}

abbrev pub Posts : Type 0
Posts = List (Post Body)

-- one letter to there
abbrev pub post : To → Body → Posts
post where_to says_this = record { to = where_to; letter = says_this } ∷ []

-- the rows that a filter lets through, in order
abbrev pub through : Filter → List TaskInfo → List TaskInfo
through wanted rows = filter (filter_matches wanted) rows

-- only the live tasks are others, and the number that is left unused
abbrev pub OnlyTasks : DataCore → DataCore → Type 0
OnlyTasks old new = new ≡ record old { live = new.live }

module _ {B : Type 0} (rests : B → B → DataCall → Type 0) where
  -- nothing is sent, asked or changed
  pub record PassesOver (b : B) (old : DataCore) (posts : Posts) (new : DataCore) (c : B) : Type 0 where
    pub none : posts ≡ []
    pub same : new ≡ old
    pub uncalled : c ≡ b

  -- this is sent, and nothing is asked or changed
  pub record OnlySends (letters : Posts) (b : B) (old : DataCore) (posts : Posts) (new : DataCore) (c : B) : Type 0 where
    pub sent : posts ≡ letters
    pub same : new ≡ old
    pub uncalled : c ≡ b

  -- ---- a request and a start

  -- a task was registered for this, which is live now
  pub record Registers (token : Option Token) (place : Place) (request : Request) (headers : Headers) (page : Option Page) (context : Option Context) (id : TaskId) (b : B) (old : DataCore) (live : LiveTasks) (c : B) : Type 0 where
    pub wanted : Wanted
    pub entry : Entry
    pub wants : (wanted.place ≡ place) × (wanted.request.now ≡ request) × (wanted.headers.now ≡ headers) × (option_copied wanted.page ≡ page) × (option_copied wanted.context ≡ context)
    pub new : IsNewEntry id token wanted old.cluster.shards old.clock.ms entry
    pub kept : ChangesAt (entry_at old.live) (entry_at live) id.number (Some entry)
    pub placed : ChangesAt (number_at old.live) (number_at live) place (Some id.number)
    pub used : live.drawn ≡ None
    pub calls : Chain rests b (registering old.live.drawn id.number (token_parent token) true) c

  -- no slot was found: the same tasks are live, and a number is left unused
  pub record FindsNone (parent : Option TaskId) (b : B) (old : DataCore) (live : LiveTasks) (c : B) : Type 0 where
    pub number : ℕ
    pub left : live.drawn ≡ Some number
    pub same : SameTasks old.live live
    pub calls : Chain rests b (registering old.live.drawn number parent false) c

  -- a child is live, which takes the context of its page with it; or its request comes to this worker again
  abbrev pub Requested : Asked → B → DataCore → Posts → DataCore → B → Type 0
  Requested asked b old posts new c =
      ((id : TaskId) × (posts ≡ [])
      × Registers (Some asked.token) asked.place asked.request asked.headers (option_map page_at (context_for old.contexts asked.request old.clock.ms)) (context_for old.contexts asked.request old.clock.ms) id b old new.live c
      × (new ≡ record old { live = new.live; contexts = with_use_by old.contexts id asked.request old.clock.ms }))
      ⊎ ((posts ≡ post (to.Data asked.to old.worker) (says.Request asked)) × FindsNone (Some asked.token.parent) b old new.live c × OnlyTasks old new)

  abbrev pub RequestBecomes : Admission → Asked → B → DataCore → Posts → DataCore → B → Type 0
  RequestBecomes PassedOver asked b old posts new c = PassesOver b old posts new c
  RequestBecomes Rejected asked b old posts new c = OnlySends (post (to.Data asked.token.parent.node 0) (says.Answer (rejected old.node asked))) b old posts new c
  RequestBecomes Taken asked b old posts new c = Requested asked b old posts new c

  -- a root is live, which the driver is told; or its start comes to this worker again
  abbrev pub Started : Start → B → DataCore → Posts → DataCore → B → Type 0
  Started start b old posts new c =
      ((id : TaskId) × (posts ≡ post to.Driver (says.Root start.place.command id))
      × Registers None start.place start.request start.headers start.page (context_of_start start.request start.page) id b old new.live c
      × OnlyTasks old new)
      ⊎ ((posts ≡ post (to.Data old.node old.worker) (says.Start start)) × FindsNone None b old new.live c × OnlyTasks old new)

  abbrev pub StartBecomes : Admission → Start → B → DataCore → Posts → DataCore → B → Type 0
  StartBecomes PassedOver start b old posts new c = PassesOver b old posts new c
  StartBecomes Rejected start b old posts new c = OnlySends (post to.Driver (says.RootAnswer (root_rejected old.node start))) b old posts new c
  StartBecomes Taken start b old posts new c = Started start b old posts new c

  -- ---- an answer

  -- the task that asked takes it, where it fits, and else it is passed over
  pub record Answers (a : Answered) (b : B) (old : DataCore) (posts : Posts) (new : DataCore) (c : B) : Type 0 where
    pub none : posts ≡ []
    pub taken : Fits old.live a.receipt a.place a.request a.reply → (e : Entry) → asker old.live a.receipt.parent ≡ Some e
        → ChangesTask old.live new.live e.running.ticket.id.number (after_answer e a.receipt.ask a.reply old.clock.ms)
        × Chain rests b (untracking e.running.ticket (left_by e.running.track a.receipt.ask)) c
    pub passed : (Fits old.live a.receipt a.place a.request a.reply → ⊥) → PassesOver b old posts new c
    pub rest : OnlyTasks old new

  -- ---- lists

  -- the row is that of the live task with the lowest number above that of a task
  pub record IsNext (live : LiveTasks) (after : Option TaskId) (row : TaskInfo) (e : Entry) : Type 0 where
    pub live_is : entry_at live row.id.number ≡ Some e
    pub row_is : row ≡ row_of e row.cancelled
    pub beyond : IsBeyond after row.id.number
    pub lowest : (n : ℕ) → IsBeyond after n → n < row.id.number → entry_at live n ≡ None

  -- the rows of the live tasks above one by ascending id: each was looked at, and its row has the mark that the look told
  abbrev pub Lists : Option TaskId → List TaskInfo → B → LiveTasks → LiveTasks → B → Type 0
  Lists after [] b old new c = ((n : ℕ) → IsBeyond after n → entry_at old n ≡ None) × (new ≡ old) × (c ≡ b)
  Lists after (row ∷ rows) b old new c = (e : Entry) × (mid : LiveTasks) × (d : B)
      × IsNext old after row e × rests b d (call.look e.running.ticket row.cancelled)
      × ChangesTask old mid row.id.number (after_look e row.cancelled)
      × Lists (Some row.id) rows d mid new c

  -- the rows that pass a test are sent, each of which was looked at
  abbrev pub Tells : (List TaskInfo → Posts) → B → DataCore → Posts → DataCore → B → Type 0
  Tells sent b old posts new c = (rows : List TaskInfo) × (posts ≡ sent rows) × Lists None rows b old.live new.live c × OnlyTasks old new

  -- ---- all letters

  -- What a core does with a letter.
  abbrev pub Turned : Body → B → DataCore → Posts → DataCore → B → Type 0
  Turned (says.Request asked) b old posts new c = RequestBecomes (child_admission_of old asked) asked b old posts new c
  Turned (says.Start start) b old posts new c = StartBecomes (admission_of old start.place start.request) start b old posts new c
  Turned (says.Answer answered) b old posts new c = Answers answered b old posts new c
  Turned (says.List command) b old posts new c = Tells (λ rows. post to.Driver (says.Rows old.node old.worker command rows)) b old posts new c
  Turned (says.CancelMatching cancel wanted wait) b old posts new c = Tells (λ rows. post (to.Control old.node) (says.Matches old.worker cancel (through wanted rows) wait)) b old posts new c
  Turned (says.Tick ms) b old posts new c = (posts ≡ []) × (c ≡ b) × (new ≡ record old { clock = new.clock }) × (new.clock.ms ≡ min (old.clock.ms + ms) last_moment) × (new.clock.draining ≡ old.clock.draining)
  Turned says.Drain b old posts new c = (posts ≡ []) × (c ≡ b) × (new ≡ record old { clock = new.clock }) × (new.clock.ms ≡ old.clock.ms) × (new.clock.draining ≡ true)
  Turned says.Leave b old posts new c = (posts ≡ []) × (c ≡ b) × (new ≡ record old { leaving = true })
  Turned _ b old posts new c = PassesOver b old posts new c
