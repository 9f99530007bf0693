-- How far a search, a query and a fetch have come, by the asks and the turns of their task.
use Rattle.std.specs.Prelude.{◌≡◌, ℕ, List, Option}
use Rattle.std.specs.Option.{option_or}
use Rattle.task_ids.specs.declared.doc.Doc.{Doc}
use Rattle.task_events.specs.declared.request.FetchAsk.{FetchAsk}
use Rattle.task_events.specs.declared.request.ShardAsk.{ShardAsk}
use Rattle.task_events.specs.declared.step.Asked.{Asked}
use Rattle.task_events.specs.Readings.{Reading}
use Rattle.search_phase.specs.Fetches.{FetchState, IsFetched}
use Rattle.search_phase.specs.Queries.{QueryState, IsQueried}
use Rattle.search_phase.specs.Searching.{Searching}

-- A search, or a page of one, looks through this and has made these asks, each with its answer once it has come.
abbrev pub IsSearchAt : Reading → List Asked → Searching → Type 0
IsSearchAt r asked s = s ≡ record { reading = r; asked = asked }

-- A query has taken so many turns over a shard with these writes. Where it is asked for no version it reads that which the shard had at the first of them.
pub record IsQueryAt (ask : ShardAsk) (version : Option ℕ) (turns : ℕ) (writes : List Doc) (q : QueryState) : Type 0 where
  pub ask_is : q.ask ≡ ask
  pub turns_are : q.turns ≡ turns
  pub version_is : q.version ≡ option_or ask.version version
  pub on : IsQueried q writes

-- A fetch has taken so many turns over a shard with these writes.
pub record IsFetchAt (ask : FetchAsk) (turns : ℕ) (writes : List Doc) (f : FetchState) : Type 0 where
  pub ask_is : f.ask ≡ ask
  pub turns_are : f.turns ≡ turns
  pub on : IsFetched f writes
