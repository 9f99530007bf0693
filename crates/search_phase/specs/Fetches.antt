-- How far the fetch phase of a search has come in a shard.
use Rattle.std.specs.Prelude.{◌≡◌, ℕ, ◌+◌, ◌*◌, ◌≤◌, List, [], ◌++◌, length, take, filter_map, Bool, if◌then◌else◌}
use Rattle.task_ids.specs.declared.doc.Doc.{Doc}
use Rattle.task_events.specs.declared.request.FetchAsk.{FetchAsk}
use Rattle.task_events.specs.declared.reply.Hit.{Hit}
use Rattle.task_events.specs.Answers.{hit_at}
use Rattle.task_events.specs.Looking.{rows_per_turn, is_done}

pub record FetchState : Type 0 where
  -- what is asked for
  pub ask : FetchAsk
  -- how many turns were taken
  pub turns : ℕ
  -- the documents so far; none once they are given out
  pub hits : List Hit

-- no turn was taken yet
abbrev pub new_fetch : FetchAsk → FetchState
new_fetch ask = record { ask = ask; turns = 0; hits = [] }

-- all places were looked up
abbrev pub has_fetched : FetchState → Bool
has_fetched f = is_done f.turns (length f.ask.places)

-- the documents of the first so many places
abbrev pub hits_of_first : FetchAsk → ℕ → List Doc → List Hit
hits_of_first ask places writes = filter_map (hit_at ask.index ask.version writes) (take places ask.places)

-- A fetch after so many turns over a shard with these writes.
abbrev pub fetched_in : FetchAsk → ℕ → List Doc → FetchState
fetched_in ask turns writes =
    record {
      ask = ask;
      turns = turns;
      hits = if is_done turns (length ask.places) then [] else hits_of_first ask (turns * rows_per_turn) writes;
    }

-- One more turn was taken, whatever the turns were over.
pub record HasTurned (before after : FetchState) : Type 0 where
  pub same_ask : after.ask ≡ before.ask
  pub one_more : after.turns ≡ before.turns + 1

-- The fetch has come so far by turns over a shard with these writes.
abbrev pub IsFetched : FetchState → List Doc → Type 0
IsFetched f writes = f ≡ fetched_in f.ask f.turns writes

-- What is known of the fetch stays when the shard grows, where the version lies within the writes so far.
abbrev pub StaysFetched : FetchState → List Doc → Type 0
StaysFetched f writes = f.ask.version ≤ length writes → (more : List Doc) → IsFetched f (writes ++ more)
