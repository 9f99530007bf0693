-- What a turn of a query and of a fetch answers.
use Rattle.std.specs.Prelude.{List, Bool, true, false, if◌then◌else◌}
use Rattle.task_ids.specs.declared.doc.Doc.{Doc}
use Rattle.task_events.specs.Answers.{shard_top, fetched}
use Rattle.search_phase.specs.declared.query.TurnAnswer.{TurnAnswer}
use Rattle.search_phase.specs.declared.query.TurnAnswer.TheVariants as query
use Rattle.search_phase.specs.declared.fetch.FetchAnswer.{FetchAnswer}
use Rattle.search_phase.specs.declared.fetch.FetchAnswer.TheVariants as fetch
use Rattle.search_phase.specs.Queries.{QueryState, version_at, has_ended}
use Rattle.search_phase.specs.Fetches.{FetchState, has_fetched}

-- the shard's top once all rows were looked at
abbrev pub query_answer : QueryState → List Doc → TurnAnswer
query_answer q writes = if has_ended q writes then query.Ready (shard_top q.ask (version_at q writes) writes) else query.More

-- whether it is the last answer
abbrev pub is_ready : TurnAnswer → Bool
is_ready query.More = false
is_ready (query.Ready top) = true

-- the documents once all places were looked up
abbrev pub fetch_answer : FetchState → List Doc → FetchAnswer
fetch_answer f writes = if has_fetched f then fetch.Ready (fetched f.ask writes) else fetch.More

-- whether it is the last answer
abbrev pub has_all : FetchAnswer → Bool
has_all fetch.More = false
has_all (fetch.Ready hits) = true
