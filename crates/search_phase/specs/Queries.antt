-- How far the query phase of a search has come in a shard.
use Rattle.std.specs.Prelude.{◌≡◌, ℕ, ◌+◌, ◌*◌, ◌<◌, ◌≤◌, List, [], ◌∷◌, ◌++◌, length, take, filter, Bool, ◌==◌, Option, Some, None, IsSome, IfSome, unwrap_or, if◌then◌else◌}
use Rattle.task_ids.specs.declared.doc.Doc.{Doc}
use Rattle.task_ids.specs.Rows.{Row}
use Rattle.task_events.specs.declared.request.HitKey.{HitKey}
use Rattle.task_events.specs.declared.request.ShardAsk.{ShardAsk}
use Rattle.task_events.specs.HitOrder.{in_hit_order, is_after}
use Rattle.task_events.specs.Answers.{window, keys_among}
use Rattle.task_events.specs.Looking.{rows_per_turn, is_done}
use Rattle.task_events.specs.QueryTask.{rows_for}
use Rattle.shard_docs.specs.Candidates.{is_above}

pub record QueryState : Type 0 where
  -- what is asked for
  pub ask : ShardAsk
  -- the version that is read, once it is fixed
  pub version : Option ℕ
  -- how many turns were taken
  pub turns : ℕ
  -- the place of the last row that it has looked at
  pub last : Option ℕ
  -- how many rows have matched so far
  pub count : ℕ
  -- the keys of those that stand first so far, in hit order; none once they are given out
  pub keys : List HitKey

-- no turn was taken yet
abbrev pub new_query : ShardAsk → QueryState
new_query ask = record { ask = ask; version = ask.version; turns = 0; last = None; count = 0; keys = [] }

-- the version that a query reads: the one that is fixed, or else all writes
abbrev pub version_at : QueryState → List Doc → ℕ
version_at q writes = unwrap_or q.version (length writes)

-- all rows that it looks at were looked at
abbrev pub has_ended : QueryState → List Doc → Bool
has_ended q writes = is_done q.turns (length (rows_for q.ask (version_at q writes) writes))

-- the rows that it looks at in its first turns
abbrev pub rows_in : ShardAsk → ℕ → ℕ → List Doc → List Row
rows_in ask version turns writes = take (turns * rows_per_turn) (rows_for ask version writes)

-- the rows that are left to look at
abbrev pub rows_left : QueryState → ℕ → List Doc → List Row
rows_left q version writes = filter (λ row. is_above q.last row.0) (rows_for q.ask version writes)

-- no row is left to look at
abbrev pub has_none_left : QueryState → List Doc → Bool
has_none_left q writes = length (rows_left q (version_at q writes) writes) == 0

-- the rows of its next turn
abbrev pub next_rows : QueryState → ℕ → List Doc → List Row
next_rows q version writes = take rows_per_turn (rows_left q version writes)

-- the place of the last of some rows, or else of the row before them
abbrev pub last_place : Option ℕ → List Row → Option ℕ
last_place before [] = before
last_place before (row ∷ rows) = last_place (Some row.0) rows

-- the keys of some rows: of those that match
abbrev pub keys_of_rows : ShardAsk → List Row → List HitKey
keys_of_rows ask rows = keys_among ask.body ask.slice ask.shard rows

-- of some keys those that a shard answers: the first after the cursor
abbrev pub first_keys : ShardAsk → List HitKey → List HitKey
first_keys ask found = take (window ask.body) (in_hit_order (filter (is_after ask.after) found))

-- A query that has looked, in so many turns, at the first rows of a version of a shard with these writes.
abbrev pub looked : ShardAsk → ℕ → ℕ → List Doc → QueryState
looked ask version turns writes =
    let rows = rows_in ask version turns writes in
    let found = keys_of_rows ask rows in
    record { ask = ask; version = Some version; turns = turns; last = last_place None rows; count = length found; keys = first_keys ask found }

-- the keys are given out
abbrev pub without_keys : QueryState → QueryState
without_keys q = record q { keys = [] }

-- a query after so many turns, which gives its keys out by the last of them
abbrev pub queried : ShardAsk → ℕ → ℕ → List Doc → QueryState
queried ask version turns writes = if is_done turns (length (rows_for ask version writes)) then without_keys (looked ask version turns writes) else looked ask version turns writes

-- What every query keeps, over whichever shards its turns were.
pub record IsQuery (q : QueryState) : Type 0 where
  -- it reads the version that is asked for
  pub version_asked : IfSome q.ask.version (λ version. q.version ≡ Some version)
  -- the first turn fixes the version
  pub version_fixed : 0 < q.turns → IsSome q.version
  -- a turn counts no more rows than it looks at
  pub few_counted : q.count ≤ q.turns * rows_per_turn
  -- it keeps no more keys than are asked for
  pub few_kept : length q.keys ≤ window q.ask.body

-- One more turn was taken, over a shard with these writes, whatever the turns before were over.
pub record HasTurned (before : QueryState) (writes : List Doc) (after : QueryState) : Type 0 where
  pub same_ask : after.ask ≡ before.ask
  pub version_fixed : after.version ≡ Some (version_at before writes)
  pub one_more : after.turns ≡ before.turns + 1

-- One more turn has looked at some rows, at a version.
abbrev pub with_rows : QueryState → ℕ → List Row → QueryState
with_rows q version rows =
    let found = keys_of_rows q.ask rows in
    record {
      ask = q.ask;
      version = Some version;
      turns = q.turns + 1;
      last = last_place q.last rows;
      count = q.count + length found;
      keys = take (window q.ask.body) (in_hit_order (q.keys ++ filter (is_after q.ask.after) found));
    }

-- The query has come so far by turns over a shard with these writes.
pub record IsQueried (q : QueryState) (writes : List Doc) : Type 0 where
  -- it reads the version that is asked for
  pub version_asked : IfSome q.ask.version (λ version. q.version ≡ Some version)
  -- the first turn fixes the version
  pub version_fixed : 0 < q.turns → IsSome q.version
  -- it has looked at so many rows at that version
  pub looked : record q { version = Some (version_at q writes) } ≡ queried q.ask (version_at q writes) q.turns writes

-- What is known of the query stays when the shard grows, where the version lies within the writes so far.
abbrev pub StaysQueried : QueryState → List Doc → Type 0
StaysQueried q writes = IfSome q.version (λ version. version ≤ length writes) → (more : List Doc) → IsQueried q (writes ++ more)
