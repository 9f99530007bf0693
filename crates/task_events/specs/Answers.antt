-- What a search finds, if one list is filtered, put in hit order and cut.
use Rattle.std.specs.Prelude.{ℕ, ◌+◌, List, Bool, true, not, ◌&&◌, ◌==◌, if◌then◌else◌, Option, Some, None, option_map, option_and_then, map, filter, filter_map, take, drop, length}
use Rattle.std.specs.List.{list_any, flat_map, last_or, sum_by}
use Rattle.std.specs.Map.{lookup}
use Rattle.query_match.specs.declared.body.SearchBody.{SearchBody}
use Rattle.query_match.specs.Matching.{matches}
use Rattle.query_match.specs.Picks.{pick_of, has_picked}
use Rattle.query_match.specs.Query.{Query}
use Rattle.query_match.specs.Sorting.{key_of}
use Rattle.task_ids.specs.declared.doc.Doc.{Doc}
use Rattle.task_ids.specs.Placing.{slice_of}
use Rattle.task_ids.specs.Rows.{Row, rows_at, row_at}
use Rattle.task_events.specs.declared.reading.ShardRead.{ShardRead}
use Rattle.task_events.specs.declared.reading.ShardRead.TheVariants.{Newest, Kept}
use Rattle.task_events.specs.declared.request.HitKey.{HitKey}
use Rattle.task_events.specs.declared.request.SlicePick.{SlicePick}
use Rattle.task_events.specs.declared.request.SearchAsk.{SearchAsk}
use Rattle.task_events.specs.declared.request.ShardAsk.{ShardAsk}
use Rattle.task_events.specs.declared.request.FetchAsk.{FetchAsk}
use Rattle.task_events.specs.declared.reply.Hit.{Hit}
use Rattle.task_events.specs.declared.reply.ShardTop.{ShardTop}
use Rattle.task_events.specs.declared.reply.ShardCount.{ShardCount}
use Rattle.task_events.specs.declared.reply.FailedShard.{FailedShard}
use Rattle.task_events.specs.declared.reply.Reply.{Reply}
use Rattle.task_events.specs.declared.reply.Reply.TheVariants.{Search, AllFailed}
use Rattle.task_events.specs.HitOrder.{in_hit_order, is_after}
use Rattle.task_events.specs.Readings.{Reading}

-- ---- one shard

-- the document is of the slice, where one is read
abbrev pub is_in_slice : Option SlicePick → List ℕ → Bool
is_in_slice None id = true
is_in_slice (Some pick) id = slice_of id pick.shards pick.slices == pick.slice

abbrev pub is_found : SearchBody → Option SlicePick → Doc → Bool
is_found body slice doc = matches body.query doc.id doc.source && is_in_slice slice doc.id

abbrev pub hit_key : SearchBody → ℕ → Row → HitKey
hit_key body shard row = record { sort = key_of body.sort row.1.source; shard = shard; place = row.0 }

-- the keys of some rows of a shard: of those that match
abbrev pub keys_among : SearchBody → Option SlicePick → ℕ → List Row → List HitKey
keys_among body slice shard rows = map (hit_key body shard) (filter (λ row. is_found body slice row.1) rows)

-- the keys of the rows that match in a shard at a version, by place
abbrev pub matching_keys : SearchBody → Option SlicePick → ℕ → ℕ → List Doc → List HitKey
matching_keys body slice shard version writes = keys_among body slice shard (rows_at version writes)

-- the rows that a query looks at, of some rows of a shard: those that have the value that it picks, or all where it picks none
abbrev pub candidates : Query → List Row → List Row
candidates query rows = filter (λ row. has_picked (pick_of query) row.1.source) rows

-- how many keys a search passes over and shows
abbrev pub window : SearchBody → ℕ
window body = body.from + body.size

-- What the query phase finds in a shard at a version: how many rows match, and the first of them after the cursor.
abbrev pub shard_top : ShardAsk → ℕ → List Doc → ShardTop
shard_top ask version writes =
    let found = matching_keys ask.body ask.slice ask.shard version writes in
    record {
      shard = ask.shard;
      version = version;
      count = length found;
      keys = take (window ask.body) (in_hit_order (filter (is_after ask.after) found));
    }

-- the row of a place as a hit, if it is alive at a version
abbrev pub hit_at : List ℕ → ℕ → List Doc → ℕ → Option Hit
hit_at index version writes place = option_map (λ doc. record { index = index; doc = doc; place = place }) (row_at version place writes)

-- what the fetch phase finds in a shard
abbrev pub fetched : FetchAsk → List Doc → List Hit
fetched ask writes = filter_map (hit_at ask.index ask.version writes) ask.places

-- ---- all shards

-- a shard and a version of it
abbrev pub ShardVersion : Type 0
ShardVersion = ℕ × ℕ

-- the keys of all rows that match in the shards that answered the query, in hit order
abbrev pub found_keys : SearchAsk → (ℕ → List Doc) → List ShardVersion → List HitKey
found_keys ask writes answered = in_hit_order (flat_map (λ at. matching_keys ask.body ask.slice at.0 at.1 (writes at.0)) answered)

-- of some keys in hit order those that a search shows
abbrev pub winners : SearchBody → List HitKey → List HitKey
winners body found = take body.size (drop body.from found)

-- the shard of this number failed
abbrev pub has_failed : List FailedShard → ℕ → Bool
has_failed failed shard = list_any (λ f. f.shard == shard) failed

-- the row of a key, in its shard at the version of that shard
abbrev pub hit_of : List ℕ → (ℕ → List Doc) → List ShardVersion → HitKey → Option Hit
hit_of index writes answered key = option_and_then (λ version. hit_at index version (writes key.shard) key.place) (lookup (λ shard. key.shard == shard) answered)

abbrev pub count_at : SearchAsk → (ℕ → List Doc) → ShardVersion → ShardCount
count_at ask writes at = record { shard = at.0; version = at.1; count = length (matching_keys ask.body ask.slice at.0 at.1 (writes at.0)) }

-- how many rows match in a shard that answered: as many as the context of a page keeps
abbrev pub count_read : SearchAsk → (ℕ → List Doc) → ShardRead → ℕ → ShardCount
count_read ask writes (Newest shard) version = count_at ask writes (shard, version)
count_read ask writes (Kept kept) version = kept

abbrev pub read_at : ShardCount → ShardVersion
read_at n = (n.shard, n.version)

-- The plain answer of a search or of a page of one, given the writes of each shard, the shards that answered the query, each with the version that was read and how many rows match there, and the shards that failed in the query or in the fetch.
-- The rows that match in the shards that answered are one list in hit order, of which those after the cursor are shown. The winners are cut from these, and the hits are the winners whose shard did not fail. The total is of all that match in the shards that answered.
abbrev pub plain_answer : Reading → (ℕ → List Doc) → List ShardCount → List FailedShard → Reply
plain_answer r writes answered failed =
    let versions = map read_at answered in
    let found = filter (is_after r.after) (found_keys r.ask writes versions) in
    let won = winners r.ask.body found in
    if length failed == length r.shards then AllFailed failed
    else Search (record {
      context = r.context;
      shards = answered;
      failed = failed;
      total = sum_by (λ n. n.count) answered;
      hits = filter_map (hit_of r.ask.index writes versions) (filter (λ key. not (has_failed failed key.shard)) won);
      last = last_or None won;
    })
