-- What the fetch phase of a search asks for, and the answers that it got.
use Rattle.std.specs.Prelude.{ℕ, ◌-◌, ◌==◌, List, [], Option, Some, None, map, filter, filter_map, find, zip, length, slice_get, option_map, option_and_then, if◌then◌else◌}
use Rattle.std.specs.Option.{option_or, option_map_or}
use Rattle.std.specs.Map.{lookup}
use Rattle.task_events.specs.declared.reading.ShardRead.{ShardRead}
use Rattle.task_events.specs.declared.request.HitKey.{HitKey}
use Rattle.task_events.specs.declared.request.SearchAsk.{SearchAsk}
use Rattle.task_events.specs.declared.request.FetchAsk.{FetchAsk}
use Rattle.task_events.specs.declared.request.Request.{Request}
use Rattle.task_events.specs.declared.request.Request.TheVariants.{Query, Fetch}
use Rattle.task_events.specs.declared.reply.Hit.{Hit}
use Rattle.task_events.specs.declared.reply.ShardTop.{ShardTop}
use Rattle.task_events.specs.declared.reply.ShardCount.{ShardCount}
use Rattle.task_events.specs.declared.reply.FailedShard.{FailedShard}
use Rattle.task_events.specs.declared.reply.ShardFailure.{ShardFailure}
use Rattle.task_events.specs.declared.reply.Reply.{Reply}
use Rattle.task_events.specs.declared.step.Asked.{Asked}
use Rattle.task_events.specs.Readings.{Reading, shard_read}
use Rattle.task_events.specs.Searches.{query_of, counted, top_of, tops_in, winners_among, has_winner, fetch_of, has_queried, failure_of, hits_of}
use Rattle.search_phase.specs.declared.fetching.Fetching.{Fetching}

-- the tops among some answers
abbrev pub tops_of : List Asked → List ShardTop
tops_of asked = filter_map (λ a. option_and_then top_of a.answer) asked

-- the places of the winners of a shard
abbrev pub places_of : List HitKey → ℕ → List ℕ
places_of won shard = map (λ key. key.place) (filter (λ key. shard == key.shard) won)

-- the fetches of some winners
abbrev pub fetches_for : SearchAsk → List HitKey → List ShardTop → List FetchAsk
fetches_for ask won tops = map (fetch_of ask won) (filter (has_winner won) tops)

-- what the fetch phase is about, where the queries found these tops
abbrev pub fetching_of : SearchAsk → List ShardTop → Fetching
fetching_of ask tops = record { won = winners_among ask.body tops; fetches = fetches_for ask (winners_among ask.body tops) tops }

-- and once all queries are answered
abbrev pub fetching_in : SearchAsk → ℕ → List Asked → Option Fetching
fetching_in ask shards asked = if has_queried shards asked then Some (fetching_of ask (tops_in shards asked)) else None

-- ---- what was fetched

-- the answer to the fetch of a shard, given the answers to some fetches
abbrev pub answer_to : List FetchAsk → List Asked → ℕ → Option Asked
answer_to fetches answers shard = lookup (λ other. shard == other) (zip (map (λ fetch. fetch.shard) fetches) answers)

-- why a shard failed, given the ask of its query and the answers to some fetches
abbrev pub failure_by : List FetchAsk → List Asked → ShardRead → Asked → Option ShardFailure
failure_by fetches answers at query = option_or (failure_of query) (option_and_then failure_of (answer_to fetches answers (shard_read at)))

abbrev pub failed_by : List FetchAsk → List Asked → ShardRead × Asked → Option FailedShard
failed_by fetches answers p = option_map (λ failure. record { shard = shard_read p.0; failure = failure }) (failure_by fetches answers p.0 p.1)

-- the documents of an answer
abbrev pub hits_in : Option Reply → List Hit
hits_in answer = option_map_or hits_of answer []

-- the document of a winner, where its shard's fetch has it
abbrev pub hit_by : List FetchAsk → List Asked → HitKey → Option Hit
hit_by fetches answers key = option_and_then (λ a. find (λ hit. key.place == hit.place) (hits_in a.answer)) (answer_to fetches answers key.shard)

-- ---- what the queries counted

-- how many rows match in a shard, given the ask of its query
abbrev pub count_for : ShardRead × Asked → Option ShardCount
count_for p = option_map (counted p.0) (option_and_then top_of p.1.answer)

-- ---- what is asked for, by what the fetch phase is about

abbrev pub fetch_by : Option Fetching → ℕ → Option Request
fetch_by None place = None
fetch_by (Some fetching) place = option_map Fetch (slice_get fetching.fetches place)

-- the query of the shard at a place
abbrev pub query_by : Reading → ℕ → Option Request
query_by r place = option_map (λ at. Query (query_of r at)) (slice_get r.shards place)

-- the request at a place: the queries of the shards, and then the fetches
abbrev pub request_by : Reading → Option Fetching → ℕ → Option Request
request_by r fetching place = option_or (query_by r place) (fetch_by fetching (place - length r.shards))
