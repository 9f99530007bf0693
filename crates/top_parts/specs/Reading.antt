-- What an input is read as: documents as the bulk API takes them, a line `--`, and a script; or the line and the cause for which it is refused.
use Rattle.std.specs.Prelude.{◌≡◌, ℕ, List, length, if◌then◌else◌, nat_lt, Result, Ok, Err}
use Rattle.std.specs.Str.Lines.{lines}
use Rattle.task_ids.specs.declared.cause.Cause.{Cause}
use Rattle.task_ids.specs.declared.cause.Cause.TheVariants.{TooLong}
use Rattle.task_ids.specs.declared.cluster.Cluster.{Cluster}
use Rattle.task_ids.specs.declared.corpus.Corpus.{Corpus}
use Rattle.shard_docs.specs.Corpus.{Read, corpus_of}
use Rattle.shard_docs.specs.Fault.{Fault, ◌>>=◌}
use Rattle.script_lang.specs.declared.command.Mode.{Mode}
use Rattle.script_lang.specs.declared.command.Script.{Script}
use Rattle.script_lang.specs.Script.{script_of}
use Rattle.top_parts.specs.declared.reading.Unread.{Unread}
use Rattle.top_parts.specs.declared.reading.Unread.TheVariants.{Refused, ReadFault, Memory}

-- how many bytes an input has at most
abbrev pub max_input : ℕ
max_input = 67108864

-- the documents that were read, and the script of the lines that follow them
unfoldable pub with_script : Mode → ℕ → Read → Result (Corpus × Script) Fault
with_script mode nodes read = do
  commands ← script_of mode nodes read.1 read.2
  Ok (record { lines = read.0 }, record { commands = commands })

-- the documents and the script of some lines on a cluster of so many nodes
unfoldable pub read_lines : Mode → ℕ → List (List ℕ) → Result (Corpus × Script) Fault
read_lines mode nodes text = corpus_of text >>= with_script mode nodes

-- What an input is read as, in a mode and for a cluster: its documents and its script, or its first bad line and the first cause there; line 0 where it is too long.
unfoldable pub reading : Mode → Cluster → List ℕ → Result (Corpus × Script) Fault
reading mode cluster input = if nat_lt max_input (length input) then Err (0, TooLong) else read_lines mode cluster.nodes (lines input)

module _ (mode : Mode) (cluster : Cluster) (input : List ℕ) where
  -- The bytes stand for this corpus and script.
  abbrev pub Reads : Corpus → Script → Type 0
  Reads corpus script = reading mode cluster input ≡ Ok (corpus, script)

  -- The bytes are refused at this line for this cause.
  abbrev pub Refuses : ℕ → Cause → Type 0
  Refuses line cause = reading mode cluster input ≡ Err (line, cause)

  -- The bytes are read.
  abbrev pub IsRead : Type 0
  IsRead = (corpus : Corpus) × (script : Script) × Reads corpus script

  -- The bytes are refused.
  abbrev pub IsRefused : Type 0
  IsRefused = (line : ℕ) × (cause : Cause) × Refuses line cause

  -- What was read is what the bytes stand for, or they are refused so; of a fault and of want of memory it says nothing.
  abbrev pub AnswersWith : Result (Corpus × Script) Unread → Type 0
  AnswersWith (Ok read) = Reads read.0 read.1
  AnswersWith (Err (Refused line cause)) = Refuses line cause
  AnswersWith (Err ReadFault) = Unit {0}
  AnswersWith (Err Memory) = Unit {0}
