-- What is written: the documents of the corpus, and after them those that tasks have written. A turn of work on a batch of documents is
-- followed by a write for each document of the turn.
use Rattle.std.specs.Prelude.{ℕ, ◌+◌, ◌*◌, List, [], ◌∷◌, ◌++◌, take, drop, slice_get, Bool, true, false, not, ◌&&◌, Option, Some, None, option_and_then, if◌then◌else◌}
use Rattle.std.specs.Option.{option_map_or}
use Rattle.task_ids.specs.declared.cluster.Cluster.{Cluster}
use Rattle.task_ids.specs.declared.corpus.Corpus.{Corpus}
use Rattle.task_ids.specs.declared.corpus.CorpusLine.{CorpusLine}
use Rattle.task_ids.specs.declared.doc.Doc.{Doc}
use Rattle.task_ids.specs.declared.task_id.TaskId.{TaskId}
use Rattle.task_ids.specs.Rows.{is_alive}
use Rattle.task_events.specs.declared.event.Event.{Event}
use Rattle.task_events.specs.declared.event.Event.TheVariants.{Write}
use Rattle.task_events.specs.declared.event.Outcome.{Outcome}
use Rattle.task_events.specs.declared.event.Outcome.TheVariants.{Created, Updated}
use Rattle.task_events.specs.declared.request.Request.{Request}
use Rattle.task_events.specs.declared.request.WriteNote.{WriteNote}
use Rattle.task_events.specs.Cancels.{turn_of}
use Rattle.task_events.specs.Documents.{writes_at}
use Rattle.task_events.specs.Kinds.{kind_of}
use Rattle.task_events.specs.Looking.{rows_per_turn}
use Rattle.task_events.specs.Requests.{Scripted, request_of}
use Rattle.task_events.specs.Same.{same_task}

-- ---- the writes of a task

abbrev pub is_created : Outcome → Bool
is_created Created = true
is_created Updated = false

-- the turn of work that is going on is one of this task
abbrev pub is_writing : TaskId → List Event → Bool
is_writing t h = option_map_or (same_task t) (turn_of h) false

-- how many documents a task has written with such an outcome
abbrev pub writes_by : (Outcome → Bool) → TaskId → List Event → ℕ
writes_by test t [] = 0
writes_by test t (Write index shard outcome id ∷ h) = if is_writing t h && test outcome then 1 + writes_by test t h else writes_by test t h
writes_by test t (_ ∷ h) = writes_by test t h

-- ---- all that was written

-- the documents that a request writes, in order
abbrev pub docs_of : Option Request → List Doc
docs_of None = []
docs_of (Some request) = (kind_of request).docs

-- the document that is written next with the turn of work that is going on: the next one of the request of its task
abbrev pub next_doc : Scripted → List Event → Option Doc
next_doc script h = option_and_then (λ t. slice_get (docs_of (request_of script t h)) (writes_by (λ outcome. true) t h)) (turn_of h)

-- a document that is written to an index is one line more
abbrev pub line_of : List ℕ → Option Doc → List CorpusLine
line_of index None = []
line_of index (Some doc) = record { index = index; doc = doc } ∷ []

-- the lines of the corpus, and then those of the documents that were written
abbrev pub lines_at : List CorpusLine → Scripted → List Event → List CorpusLine
lines_at lines script [] = lines
lines_at lines script (Write index shard outcome id ∷ h) = lines_at lines script h ++ line_of index (next_doc script h)
lines_at lines script (_ ∷ h) = lines_at lines script h

-- what is written so far
abbrev pub corpus_at : Corpus → Scripted → List Event → Corpus
corpus_at corpus script h = record { lines = lines_at corpus.lines script h }

-- ---- a turn of work

-- a document that is written after these writes is created where no document of its id is alive
abbrev pub note_of : (index : List ℕ) → (shard : ℕ) → (writes : List Doc) → Doc → WriteNote
note_of index shard writes doc = record { index = index; shard = shard; created = not (is_alive doc.id writes); id = doc.id }

-- the notes of documents that are written one after the other, after these writes
abbrev pub notes_of : (index : List ℕ) → (shard : ℕ) → (writes : List Doc) → List Doc → List WriteNote
notes_of index shard writes [] = []
notes_of index shard writes (doc ∷ docs) = note_of index shard writes doc ∷ notes_of index shard (writes ++ doc ∷ []) docs

-- the documents that are written with the turn after so many
abbrev pub docs_of_turn : List Doc → ℕ → List Doc
docs_of_turn docs turns = take rows_per_turn (drop (turns * rows_per_turn) docs)

abbrev pub notes_at : Option (List ℕ × ℕ) → List Doc → List Doc → List WriteNote
notes_at None writes docs = []
notes_at (Some place) writes docs = notes_of place.0 place.1 writes docs

-- the notes of the turn after so many of the task of a request
abbrev pub turn_notes : Cluster → Corpus → Request → ℕ → List WriteNote
turn_notes cluster corpus request turns =
    let place = (kind_of request).place in
    notes_at place (writes_at cluster corpus place) (docs_of_turn (kind_of request).docs turns)

abbrev pub write_of : WriteNote → Event
write_of note = Write note.index note.shard (if note.created then Created else Updated) note.id

-- the past after these writes, one after the other
abbrev pub with_notes : List WriteNote → List Event → List Event
with_notes [] h = h
with_notes (note ∷ notes) h = with_notes notes (write_of note ∷ h)
