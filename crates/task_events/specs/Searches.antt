-- What a search or a page of one asks for and replies, by what it has asked for and what was answered.
use Rattle.std.specs.Prelude.{ℕ, List, [], ◌++◌, length, Bool, ◌&&◌, ◌==◌, nat_le, Option, Some, None, is_some, option_and_then, option_map, map, filter, filter_map, find, take, drop, zip, if◌then◌else◌}
use Rattle.std.specs.List.{list_any, list_all, flat_map, sum_by, last_or}
use Rattle.std.specs.Option.{option_or}
use Rattle.std.specs.Map.{lookup}
use Rattle.query_match.specs.declared.body.SearchBody.{SearchBody}
use Rattle.task_events.specs.declared.reading.ShardRead.{ShardRead}
use Rattle.task_events.specs.declared.reading.ShardRead.TheVariants.{Newest, Kept}
use Rattle.task_events.specs.declared.request.HitKey.{HitKey}
use Rattle.task_events.specs.declared.request.SearchAsk.{SearchAsk}
use Rattle.task_events.specs.declared.request.ShardAsk.{ShardAsk}
use Rattle.task_events.specs.declared.request.FetchAsk.{FetchAsk}
use Rattle.task_events.specs.declared.request.Request.{Request}
use Rattle.task_events.specs.declared.request.Request.TheVariants.{Query, Fetch}
use Rattle.task_events.specs.declared.reply.Hit.{Hit}
use Rattle.task_events.specs.declared.reply.ShardTop.{ShardTop}
use Rattle.task_events.specs.declared.reply.ShardCount.{ShardCount}
use Rattle.task_events.specs.declared.reply.FailedShard.{FailedShard}
use Rattle.task_events.specs.declared.reply.ShardFailure.{ShardFailure}
use Rattle.task_events.specs.declared.reply.ShardFailure.TheVariants as failures
use Rattle.task_events.specs.declared.reply.Reply.{Reply}
use Rattle.task_events.specs.declared.reply.Reply.TheVariants.{Search, Top, Hits, AllFailed, Cancelled, Rejected}
use Rattle.task_events.specs.declared.step.Asked.{Asked}
use Rattle.task_events.specs.HitOrder.{in_hit_order}
use Rattle.task_events.specs.Answers.{winners}
use Rattle.task_events.specs.Readings.{Reading, shard_read, version_read}

-- ---- what a search asks for

-- the query phase in a shard
abbrev pub query_of : Reading → ShardRead → ShardAsk
query_of r at = record { index = r.ask.index; shard = shard_read at; body = r.ask.body; version = version_read at; after = r.after; slice = r.ask.slice }

abbrev pub top_of : Reply → Option ShardTop
top_of (Top top) = Some top
top_of _ = None

-- the tops among the answers to the queries, by shard
abbrev pub tops_in : ℕ → List Asked → List ShardTop
tops_in shards asked = filter_map (λ a. option_and_then top_of a.answer) (take shards asked)

-- the winners among the keys of the tops
abbrev pub winners_among : SearchBody → List ShardTop → List HitKey
winners_among body tops = winners body (in_hit_order (flat_map (λ top. top.keys) tops))

abbrev pub has_winner : List HitKey → ShardTop → Bool
has_winner won top = list_any (λ key. top.shard == key.shard) won

-- the tops with a winner
abbrev pub won_tops : SearchBody → List ShardTop → List ShardTop
won_tops body tops = filter (has_winner (winners_among body tops)) tops

-- the fetch phase of a search in a shard: of its winners
abbrev pub fetch_of : SearchAsk → List HitKey → ShardTop → FetchAsk
fetch_of ask won top = record { index = ask.index; shard = top.shard; version = top.version; places = map (λ key. key.place) (filter (λ key. top.shard == key.shard) won) }

abbrev pub fetches_of : SearchAsk → List ShardTop → List FetchAsk
fetches_of ask tops = map (fetch_of ask (winners_among ask.body tops)) (won_tops ask.body tops)

abbrev pub are_answered : List Asked → Bool
are_answered asked = list_all (λ a. is_some a.answer) asked

-- every shard was asked in the query phase, and all have answered
abbrev pub has_queried : ℕ → List Asked → Bool
has_queried shards asked = nat_le shards (length asked) && are_answered (take shards asked)

-- What is asked for, in order: the query of each shard, and once all are answered the fetch of each shard with a winner.
abbrev pub requests_of : Reading → List Asked → List Request
requests_of r asked =
    let shards = length r.shards in
    map (λ at. Query (query_of r at)) r.shards
    ++ (if has_queried shards asked then map Fetch (fetches_of r.ask (tops_in shards asked)) else [])

-- ---- what a search replies

abbrev pub failure_in : Reply → Option ShardFailure
failure_in (Cancelled task cancel counts) = Some (failures.Cancelled task cancel)
failure_in (Rejected node) = Some (failures.Rejected node)
failure_in _ = None

abbrev pub failure_of : Asked → Option ShardFailure
failure_of a = option_and_then failure_in a.answer

-- the asks of the fetches, each with its shard
abbrev pub fetches_in : SearchAsk → ℕ → List Asked → List (ℕ × Asked)
fetches_in ask shards asked = zip (map (λ top. top.shard) (won_tops ask.body (tops_in shards asked))) (drop shards asked)

abbrev pub fetch_at : SearchAsk → ℕ → List Asked → ℕ → Option Asked
fetch_at ask shards asked shard = lookup (λ other. shard == other) (fetches_in ask shards asked)

-- why a shard failed: in the query, or else in the fetch
abbrev pub failure_at : SearchAsk → ℕ → List Asked → ShardRead → Asked → Option ShardFailure
failure_at ask shards asked at query = option_or (failure_of query) (option_and_then failure_of (fetch_at ask shards asked (shard_read at)))

abbrev pub failed_at : SearchAsk → ℕ → List Asked → ShardRead → Asked → Option FailedShard
failed_at ask shards asked at query = option_map (λ failure. record { shard = shard_read at; failure = failure }) (failure_at ask shards asked at query)

abbrev pub failed_in : Reading → List Asked → List FailedShard
failed_in r asked = filter_map (λ p. failed_at r.ask (length r.shards) asked p.0 p.1) (zip r.shards asked)

abbrev pub hits_of : Reply → List Hit
hits_of (Hits hits) = hits
hits_of _ = []

-- the document of a winner, where its shard's fetch has it
abbrev pub hit_in : SearchAsk → ℕ → List Asked → HitKey → Option Hit
hit_in ask shards asked key = option_and_then (λ reply. find (λ hit. key.place == hit.place) (hits_of reply)) (option_and_then (λ a. a.answer) (fetch_at ask shards asked key.shard))

-- how many rows match in a shard that answered: as many as the context of a page keeps, or as the query counted
abbrev pub counted : ShardRead → ShardTop → ShardCount
counted (Newest shard) top = record { shard = top.shard; version = top.version; count = top.count }
counted (Kept kept) top = kept

abbrev pub counts_in : Reading → List Asked → List ShardCount
counts_in r asked = filter_map (λ p. option_map (counted p.0) (option_and_then top_of p.1.answer)) (zip r.shards asked)

-- The reply of a search or of a page whose asks are all answered.
abbrev pub search_reply : Reading → List Asked → Reply
search_reply r asked =
    let shards = length r.shards in
    let won = winners_among r.ask.body (tops_in shards asked) in
    let counts = counts_in r asked in
    let failed = failed_in r asked in
    if length failed == shards then AllFailed failed
    else Search (record {
      context = r.context;
      shards = counts;
      failed = failed;
      total = sum_by (λ n. n.count) counts;
      hits = filter_map (hit_in r.ask shards asked) won;
      last = last_or None won;
    })
