-- Where the writing of changes to a shard breaks off.
use Rattle.std.specs.Prelude.{◌≡◌, ℕ, ◌+◌, ◌≤◌, List, ◌++◌, take, drop}
use Rattle.task_ids.specs.declared.doc.Doc.{Doc}
use Rattle.task_events.specs.Looking.{rows_per_turn}
use Rattle.by_query.specs.declared.change.Change.{Change}
use Rattle.by_query.specs.Changes.{docs_written}

-- The first changes were looked at and written, in order, and the next one may be lost.
pub record BreaksOff (left rest : List Change) (before after : List Doc) : Type 0 where
  pub seen : ℕ
  pub lost : ℕ
  pub lost_one : lost ≤ 1
  pub within : seen ≤ rows_per_turn
  pub after_is : after ≡ before ++ docs_written before (take seen left)
  pub rest_is : rest ≡ drop (seen + lost) left
