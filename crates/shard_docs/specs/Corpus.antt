-- The corpus of an input, line by line: its documents as the bulk API takes them, up to the line `--` or the end.
use Rattle.std.specs.Prelude.{ℕ, ◌+◌, List, [], ◌∷◌, ◌++◌, length, codes, Bool, true, false, ◌&&◌, ◌==◌, if◌then◌else◌, Result, Ok, Err}
use Rattle.std.specs.List.{list_any}
use Rattle.std.specs.Str.{bytes_eq}
use Rattle.task_ids.specs.declared.cause.Cause.{Cause}
use Rattle.task_ids.specs.declared.cause.Cause.TheVariants.{NoSource, Conflict}
use Rattle.task_ids.specs.declared.corpus.CorpusLine.{CorpusLine}
use Rattle.shard_docs.specs.declared.action.BulkAction.{BulkAction}
use Rattle.shard_docs.specs.declared.action.BulkKind.{BulkKind}
use Rattle.shard_docs.specs.declared.action.BulkKind.TheVariants.{Index, Create}
use Rattle.shard_docs.specs.Fault.{Fault, ◌>>=◌, on_line}
use Rattle.shard_docs.specs.Json.{source_of}
use Rattle.shard_docs.specs.BulkAction.{action_of}

-- the line between the documents and the script
abbrev pub dashes : List ℕ
dashes = codes "--"

abbrev pub is_create : BulkKind → Bool
is_create Index = false
is_create Create = true

-- a document of this index and id is among these
abbrev pub is_there : List ℕ → List ℕ → List CorpusLine → Bool
is_there index id documents = list_any (λ line. bytes_eq index line.index && bytes_eq id line.doc.id) documents

-- the line of the source of an action at a line, and what follows it: it is missing at the end and at `--`
abbrev pub source_line : ℕ → List (List ℕ) → Result (List ℕ × List (List ℕ)) Fault
source_line number [] = Err (number, NoSource)
source_line number (line ∷ rest) = if bytes_eq line dashes then Err (number, NoSource) else Ok (line, rest)

-- the document of an action is noted; to create one that is there is a conflict
unfoldable pub noted : Bool → BulkAction → Result (Unit {0}) Cause
noted there action = if is_create action.kind && there then Err Conflict else Ok tt

-- the document of an action at a line and of its source on the next line; a conflict is told at the action's line
unfoldable pub document : ℕ → Bool → BulkAction → List ℕ → Result CorpusLine Fault
document number there action source = do
  known ← on_line number (noted there action)
  found ← on_line (number + 1) (source_of source)
  Ok (record { index = action.index; doc = record { id = action.id; source = found } })

-- The document of an action line and of its source on the next line, and the lines after them. A document of this index and id is there already where it
-- is said so.
unfoldable pub next_document : ℕ → (List ℕ → List ℕ → Bool) → List ℕ → List (List ℕ) → Result (CorpusLine × List (List ℕ)) Fault
next_document number there line rest = do
  action ← on_line number (action_of number line)
  source ← source_line number rest
  found ← document number (there action.index action.id) action source.0
  Ok (found, source.1)

-- what is read of an input up to its script: the documents, the number of the script's first line, and the script's lines
abbrev pub Read : Type 0
Read = List CorpusLine × ℕ × List (List ℕ)

-- The documents of some lines, of which the first has this number, after others; or the first fault, a line and its first cause. An empty line is passed
-- over where an action may stand.
unfoldable pub documents : ℕ → List CorpusLine → List (List ℕ) → Result Read Fault
documents number before [] = Ok (before, number, [])
documents number before (line ∷ []) =
    if length line == 0 then Ok (before, number + 1, [])
    else (if bytes_eq line dashes then Ok (before, number + 1, [])
    else (do
      action ← on_line number (action_of number line)
      Err (number, NoSource)))
documents number before (line ∷ next ∷ rest) =
    if length line == 0 then documents (number + 1) before (next ∷ rest)
    else (if bytes_eq line dashes then Ok (before, number + 1, next ∷ rest)
    else (do
      action ← on_line number (action_of number line)
      source ← source_line number (next ∷ rest)
      found ← document number (is_there action.index action.id before) action source.0
      documents (number + 2) (before ++ found ∷ []) rest))

-- the corpus of an input's lines
abbrev pub corpus_of : List (List ℕ) → Result Read Fault
corpus_of lines = documents 1 [] lines
