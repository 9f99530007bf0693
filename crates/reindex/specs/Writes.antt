-- Where the writing of documents to a shard breaks off.
use Rattle.std.specs.Prelude.{◌≡◌, ℕ, ◌+◌, ◌≤◌, List, ◌++◌, take, drop}
use Rattle.task_ids.specs.declared.doc.Doc.{Doc}
use Rattle.task_events.specs.Looking.{rows_per_turn}

-- The first documents were written, in order, and the next one may be lost.
pub record BreaksOff (left rest before after : List Doc) : Type 0 where
  pub written : ℕ
  pub lost : ℕ
  pub lost_one : lost ≤ 1
  pub within : written ≤ rows_per_turn
  pub after_is : after ≡ before ++ take written left
  pub rest_is : rest ≡ drop (written + lost) left
