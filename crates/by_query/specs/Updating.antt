-- The changes of a batch in one shard: what is written with each turn.
use Rattle.std.specs.Prelude.{◌≡◌, ℕ, ◌+◌, ◌-◌, List, Bool, true, false, ◌&&◌, ◌==◌, length, take, drop}
use Rattle.task_ids.specs.declared.doc.Doc.{Doc}
use Rattle.task_events.specs.Looking.{rows_per_turn}
use Rattle.by_query.specs.declared.asks.UpdateShardAsk.{UpdateShardAsk}
use Rattle.by_query.specs.declared.change.Change.{Change}
use Rattle.by_query.specs.declared.counts.UpdateCounts.{UpdateCounts}
use Rattle.by_query.specs.Changes.{docs_written}
use Rattle.by_query.specs.Writes.{BreaksOff}

-- the changes to a shard of an index that are left, and what became of the others
pub record Updating : Type 0 where
  pub index : List ℕ
  pub shard : ℕ
  pub left : List Change
  -- a turn was taken
  pub has_turned : Bool
  pub updated : ℕ
  pub conflicts : ℕ

abbrev pub new_updating : UpdateShardAsk → Updating
new_updating ask = record { index = ask.index; shard = ask.shard; left = ask.changes; has_turned = false; updated = 0; conflicts = 0 }

-- the changes of the next turn
abbrev pub next_changes : Updating → List Change
next_changes u = take rows_per_turn u.left

-- what the next turn writes to a shard that had these writes before it
abbrev pub next_docs : Updating → List Doc → List Doc
next_docs u writes = docs_written writes (next_changes u)

-- nothing is left after a turn
abbrev pub is_updated : Updating → Bool
is_updated u = u.has_turned && (length u.left == 0)

-- the documents that were rewritten, and the changes that were in conflict
abbrev pub updates_counted : (updated conflicts : ℕ) → UpdateCounts
updates_counted updated conflicts = record { total = 0; updated = updated; batches = 0; failures = 0; conflicts = conflicts }

abbrev pub updating_counts : Updating → UpdateCounts
updating_counts u = updates_counted u.updated u.conflicts

-- one turn more: each of its changes was written, or was in conflict
abbrev pub after_turn : Updating → List Doc → Updating
after_turn u writes = record u {
  left = drop rows_per_turn u.left;
  has_turned = true;
  updated = u.updated + length (next_docs u writes);
  conflicts = u.conflicts + (length (next_changes u) - length (next_docs u writes));
}

-- a turn broke off, of which nothing is counted
pub record StopsShort (old new : Updating) (before after : List Doc) : Type 0 where
  pub writes : BreaksOff old.left new.left before after
  pub others : new ≡ record old { left = new.left }
