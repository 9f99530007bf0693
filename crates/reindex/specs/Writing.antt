-- The documents of a batch in one shard: what is written with each turn.
use Rattle.std.specs.Prelude.{◌≡◌, ℕ, ◌+◌, ◌*◌, List, Bool, true, false, not, ◌&&◌, ◌==◌, nat_lt, length, take, drop, count_by}
use Rattle.task_ids.specs.declared.doc.Doc.{Doc}
use Rattle.task_events.specs.declared.request.BulkShardAsk.{BulkShardAsk}
use Rattle.task_events.specs.declared.request.WriteNote.{WriteNote}
use Rattle.task_events.specs.declared.reply.Counts.{Counts}
use Rattle.task_events.specs.declared.reply.Reply.TheVariants.{Wrote}
use Rattle.task_events.specs.declared.step.Do.{Do}
use Rattle.task_events.specs.BulkShardTask.{writes_counted}
use Rattle.task_events.specs.Looking.{rows_per_turn, work_or_end}
use Rattle.task_events.specs.Written.{notes_of}
use Rattle.reindex.specs.Writes.{BreaksOff}

-- what is still to be written to a shard of an index, and what was written
pub record Writing : Type 0 where
  pub index : List ℕ
  pub shard : ℕ
  pub left : List Doc
  -- a turn was taken
  pub has_turned : Bool
  pub created : ℕ
  pub updated : ℕ

abbrev pub new_writing : BulkShardAsk → Writing
new_writing ask = record { index = ask.dest; shard = ask.shard; left = ask.docs; has_turned = false; created = 0; updated = 0 }

-- the documents of the next turn
abbrev pub next_docs : Writing → List Doc
next_docs w = take rows_per_turn w.left

-- nothing is left after a turn
abbrev pub is_written : Writing → Bool
is_written w = w.has_turned && (length w.left == 0)

abbrev pub writing_counts : Writing → Counts
writing_counts w = writes_counted w.created w.updated

-- it takes turns until all is written, and ends with its counts
abbrev pub writing_next : Writing → Do
writing_next w = work_or_end (is_written w) (Wrote (writing_counts w))

abbrev pub with_notes : Writing → List WriteNote → Writing
with_notes w notes = record w {
  left = drop rows_per_turn w.left;
  has_turned = true;
  created = w.created + count_by (λ note. note.created) notes;
  updated = w.updated + count_by (λ note. not note.created) notes;
}

-- one turn more, over a shard that had these writes before it
abbrev pub after_turn : Writing → List Doc → Writing
after_turn w writes = with_notes w (notes_of w.index w.shard writes (next_docs w))

-- It writes what was asked for, has taken so many turns, and has created and updated so many documents with them.
pub record IsWritingAt (ask : BulkShardAsk) (turns created updated : ℕ) (w : Writing) : Type 0 where
  pub index_is : w.index ≡ ask.dest
  pub shard_is : w.shard ≡ ask.shard
  pub left_is : w.left ≡ drop (turns * rows_per_turn) ask.docs
  pub turned : w.has_turned ≡ nat_lt 0 turns
  pub created_is : w.created ≡ created
  pub updated_is : w.updated ≡ updated
  -- each document of these turns counts once
  pub counted : created + updated ≡ length (take (turns * rows_per_turn) ask.docs)

-- a turn broke off, of which nothing is counted
pub record StopsShort (old new : Writing) (before after : List Doc) : Type 0 where
  pub writes : BreaksOff old.left new.left before after
  pub others : new ≡ record old { left = new.left }
