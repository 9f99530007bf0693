-- What the work of a live task keeps of its run.
use Rattle.std.specs.Prelude.{◌≡◌, ℕ, true, length, Option, Some, None, IfSome, option_map, ⊤}
use Rattle.std.specs.List.{AllByRecursion}
use Rattle.node_link.specs.declared.body.Place.{Place}
use Rattle.node_link.specs.declared.page.Page.{Page}
use Rattle.reindex.specs.declared.root.ReindexRoot.{ReindexRoot}
use Rattle.reindex.specs.declared.root.ReindexRoot.TheVariants.{Alone, Cut}
use Rattle.search_phase.specs.Queries.{QueryState, version_at}
use Rattle.search_phase.specs.Searching.{IsSearching, Searching}
use Rattle.task_ids.specs.declared.task_id.TaskId.{TaskId}
use Rattle.task_events.specs.Readings.{Reading, page_reading, search_reading}
use Rattle.task_events.specs.declared.answered.AnsweredRequest.{AnsweredRequest}
use Rattle.task_events.specs.declared.answered.AnsweredRequest.TheVariants as told
use Rattle.task_work.specs.declared.work.Work.{Work}
use Rattle.task_work.specs.declared.work.Work.TheVariants as works
use Rattle.reply_facts.specs.Letters.{context_of_page}
use Rattle.reply_facts.specs.Settings.{IsSteady, Setting, Sought, lines_in, sought_at, sought_by}
use Rattle.work_facts.specs.Searches.{IsPlainSearch}

-- ---- what work is for

-- what a search or a page looks through
abbrev pub reading_in : Work → Option Reading
reading_in (works.Search s) = Some s.reading
reading_in (works.Scroll s) = Some s.reading
reading_in _ = None

-- and what the task of a request does, over the page that it shows
abbrev pub reading_for : TaskId → ℕ → AnsweredRequest → Option Page → Option Reading
reading_for id shards (told.Search ask) page = Some (search_reading id ask shards)
reading_for id shards (told.Scroll ask) page = option_map (λ p. page_reading (context_of_page ask p)) page
reading_for id shards _ page = None

-- what a query or a fetch is asked
abbrev pub look_in : Work → Option AnsweredRequest
look_in (works.Query q top) = Some (told.Query q.ask)
look_in (works.Fetch f hits) = Some (told.Fetch f.ask)
look_in _ = None

abbrev pub look_for : AnsweredRequest → Option AnsweredRequest
look_for (told.Query ask) = Some (told.Query ask)
look_for (told.Fetch ask) = Some (told.Fetch ask)
look_for _ = None

-- ---- what it keeps

-- A search or a page that looks for this. In an index that stays it has been told what all lines say.
pub record IsSearchFor (run : Setting) (q : Sought) (s : Searching) : Type 0 where
  pub looks : sought_by s.reading.ask ≡ q
  pub plain : IsSteady run q.index → IsPlainSearch (lines_in run q.index) s

abbrev pub KeepsSearch : Setting → Place → Searching → Type 0
KeepsSearch run place s = IsSearching s × IfSome (sought_at run place) (λ q. IsSearchFor run q s)

-- A query for what is looked for. In an index that stays it reads all lines of its shard.
pub record IsLookFor (run : Setting) (k : Sought) (q : QueryState) : Type 0 where
  pub over : q.ask.index ≡ k.index
  pub reads : IsSteady run k.index → version_at q (lines_in run k.index q.ask.shard) ≡ length (lines_in run k.index q.ask.shard)

abbrev pub KeepsQuery : Setting → Place → QueryState → Type 0
KeepsQuery run place q = IfSome (sought_at run place) (λ k. IsLookFor run k q)

-- a reindex writes to an index that the run may write
abbrev pub KeepsReindex : Setting → ReindexRoot → Type 0
KeepsReindex run (Alone s) = run.is_written s.dest ≡ true
KeepsReindex run (Cut c) = run.is_written c.ask.dest ≡ true

abbrev pub Keeps : Setting → Place → Work → Type 0
Keeps run place (works.Search s) = KeepsSearch run place s
Keeps run place (works.Scroll s) = KeepsSearch run place s
Keeps run place (works.Query q top) = KeepsQuery run place q
Keeps run place (works.Fetch f hits) = ⊤
Keeps run place (works.Reindex r) = (sought_at run place ≡ None) × KeepsReindex run r
Keeps run place (works.Slice s) = (sought_at run place ≡ None) × (run.is_written s.dest ≡ true)
Keeps run place (works.Bulk b) = AllByRecursion (λ part. run.is_written part.dest ≡ true) b.parts
Keeps run place (works.BulkShard w) = run.is_written w.index ≡ true

-- The work of a live task: it is for what the task was asked, and keeps what is known of the run.
pub record IsWorkOfRun (run : Setting) (place : Place) (id : TaskId) (request : AnsweredRequest) (page : Option Page) (work : Work) : Type 0 where
  pub reads : IfSome (sought_at run place) (λ q. reading_in work ≡ reading_for id run.shards request page)
  pub looks : look_in work ≡ look_for request
  pub keeps : Keeps run place work

-- ---- the answers to what it asks

-- A request is over the index that is looked through, and a query has the body and the slice that are looked for. Who asks knows so: no run compares it.
abbrev pub IsOfReading : Reading → AnsweredRequest → Type 0
IsOfReading r (told.Query ask) = (ask.index ≡ r.ask.index) × (ask.body ≡ r.ask.body) × (ask.slice ≡ r.ask.slice)
IsOfReading r (told.Fetch ask) = ask.index ≡ r.ask.index
IsOfReading r request = ⊤
