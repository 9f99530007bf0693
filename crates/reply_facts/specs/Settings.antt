-- What is known of a run before it begins: its documents, which indices it writes, and what its searches look for.
use Rattle.std.specs.Prelude.{◌≡◌, ℕ, Bool, true, false, List, [], Option, None}
use Rattle.query_match.specs.declared.body.SearchBody.{SearchBody}
use Rattle.task_ids.specs.declared.corpus.Corpus.{Corpus}
use Rattle.task_ids.specs.declared.doc.Doc.{Doc}
use Rattle.task_events.specs.Documents.{writes_of}
use Rattle.task_events.specs.declared.request.SearchAsk.{SearchAsk}
use Rattle.task_events.specs.declared.request.SlicePick.{SlicePick}
use Rattle.node_link.specs.declared.body.Place.{Place}

-- what a search looks for: which rows of which index
pub record Sought : Type 0 where
  pub index : List ℕ
  pub body : SearchBody
  pub slice : Option SlicePick

abbrev pub sought_by : SearchAsk → Sought
sought_by ask = record { index = ask.index; body = ask.body; slice = ask.slice }

-- What a run is over.
pub record Setting : Type 0 where
  -- the documents of its input
  pub corpus : Corpus
  -- how many shards an index has
  pub shards : ℕ
  -- a reindex of the run may write to the index
  pub is_written : List ℕ → Bool
  -- what the search of a command looks for, of those of which that is known
  pub sought : ℕ → Option Sought

-- the corpus lines of a shard of an index, in order
abbrev pub lines_in : Setting → List ℕ → ℕ → List Doc
lines_in run index shard = writes_of run.corpus run.shards index shard

-- the run leaves the index as its lines make it
abbrev pub IsSteady : Setting → List ℕ → Type 0
IsSteady run index = run.is_written index ≡ false

-- what is looked for by the search to which the task at a place belongs
abbrev pub sought_at : Setting → Place → Option Sought
sought_at run place = run.sought place.search

-- a run of which only its documents are known
abbrev pub only : Corpus → ℕ → Setting
only corpus shards = record { corpus = corpus; shards = shards; is_written = λ index. true; sought = λ command. None }

-- a run of which nothing is known
abbrev pub unknown : Setting
unknown = only (record { lines = [] }) 1
