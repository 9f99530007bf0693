-- What the status of a call of `run_top` or `pool_top` says of the input, of what is kept, and of what was written.
use Rattle.std.specs.Prelude.{◌≡◌, ◌<◌, ◌⊎◌, ℕ, List, [], Option, is_some, true, length, take}
use Rattle.std.specs.declared.marker.Brand.{Brand}
use Rattle.es_io.specs.Bytes.{Appends}
use Rattle.task_ids.specs.declared.cluster.Cluster.{Cluster}
use Rattle.task_ids.specs.declared.corpus.Corpus.{Corpus}
use Rattle.node_link.specs.declared.ends.Tally.{Tally}
use Rattle.run_facts.specs.declared.Of.{Of}
use Rattle.run_facts.specs.Cancels.{cancels_of}
use Rattle.script_lang.specs.declared.command.Command.{Command}
use Rattle.script_lang.specs.declared.command.Mode.TheVariants.{Run}
use Rattle.script_lang.specs.Targets.{is_at}
use Rattle.command_roots.specs.Known.{is_known}
use Rattle.top_parts.specs.declared.status.Status.{Status}
use Rattle.top_parts.specs.declared.status.Status.TheVariants.{Done, Usage, Refused, ReadFault, WriteFault, Memory, NoThread, HistoryFull, NumbersSpent}
use Rattle.top_parts.specs.Reading.{Reads, Refuses}
use Rattle.run_book.specs.Notes.{cancel_in}
use Rattle.run_book.specs.Runs.{setting_of}
use Rattle.run_driver.specs.Drives.{AreNotes}
use Rattle.run_cluster.specs.declared.notes.NodeNote.{NodeNote}
use Rattle.run_cluster.specs.Notes.{AreClear}
use Rattle.run_cluster.specs.Runs.{IsRunOf}
use Rattle.run_top.specs.declared.kept.RunKept.{RunKept}
use Rattle.run_top.specs.Lines.{printed}

-- a cancel of the script has this number
abbrev pub IsCancelOf : List Command → ℕ → Type 0
IsCancelOf script k = is_at (λ command. is_some (cancel_in command)) script k ≡ true

-- nothing came of what was read
pub record IsUnrun (kept : RunKept) : Type 0 where
  pub no_line : kept.lines ≡ []
  pub no_node : kept.nodes ≡ []

-- nothing was read, and nothing ran
pub record IsNothing (kept : RunKept) : Type 0 where
  pub no_corpus : kept.corpus.lines ≡ []
  pub no_script : kept.script.commands ≡ []
  pub unrun : IsUnrun kept

-- the nodes of a run with these cancellations ran so, each with so many data workers, and of the driver's inbox something was told
abbrev pub HaveRun : (W : Type 0) → (ℕ → Type 0) → Cluster → Corpus → ℕ → List NodeNote → Type 0
HaveRun W cancels cluster corpus workers nodes = (driver : Tally) × IsRunOf (Of W) (record { allowed = cancels_of cancels }) cluster corpus workers nodes driver

-- A whole run with so many data workers on each node: each command has its note, which is what such a command may come to; nothing is left on any node, and the workers of each did what such workers do.
pub record IsWhole (cluster : Cluster) (workers : ℕ) (kept : RunKept) : Type 0 where
  pub lines : AreNotes (IsCancelOf kept.script.commands) (setting_of cluster kept.corpus kept.script.commands) (is_known kept.corpus kept.script.commands) kept.script.commands kept.lines
  pub nodes : AreClear cluster.nodes kept.nodes
  pub ran : HaveRun Brand (IsCancelOf kept.script.commands) cluster kept.corpus workers kept.nodes

module _ (cluster : Cluster) where
  -- the input was read as what is kept
  abbrev pub ReadsAs : List ℕ → RunKept → Type 0
  ReadsAs input kept = Reads Run cluster input kept.corpus kept.script

  -- What the input is, given its bytes: it was read as what is kept, or it is refused so, or it was not read to its end.
  abbrev pub AnswersInput : List ℕ → Status → RunKept → Type 0
  AnswersInput input Done kept = ReadsAs input kept
  AnswersInput input WriteFault kept = ReadsAs input kept
  AnswersInput input NumbersSpent kept = ReadsAs input kept
  AnswersInput input NoThread kept = ReadsAs input kept
  AnswersInput input Memory kept = ReadsAs input kept ⊎ IsNothing kept
  AnswersInput input (Refused line cause) kept = Refuses Run cluster input line cause
  AnswersInput input ReadFault kept = IsNothing kept
  AnswersInput input HistoryFull kept = ⊥
  AnswersInput input Usage kept = ⊥

  -- What is kept of the run with so many data workers on each node: a whole one, or nothing.
  abbrev pub RanAsRead : ℕ → Status → RunKept → Type 0
  RanAsRead workers Done kept = IsWhole cluster workers kept
  RanAsRead workers WriteFault kept = IsWhole cluster workers kept
  RanAsRead workers NumbersSpent kept = IsUnrun kept
  RanAsRead workers NoThread kept = IsUnrun kept
  RanAsRead workers Memory kept = IsUnrun kept
  RanAsRead workers (Refused line cause) kept = IsNothing kept
  RanAsRead workers ReadFault kept = IsNothing kept
  RanAsRead workers HistoryFull kept = ⊥
  RanAsRead workers Usage kept = ⊥

  -- the lines that what is kept prints
  abbrev pub lines_of : RunKept → List ℕ
  lines_of kept = printed cluster kept.script.commands kept.lines

  -- What was written grew by exactly the lines, or by a first part of them, or not at all.
  abbrev pub WritesLines : Option (List ℕ) → Option (List ℕ) → Status → RunKept → Type 0
  WritesLines old new Done kept = Appends old new (lines_of kept)
  WritesLines old new WriteFault kept = (n : ℕ) × (n < length (lines_of kept)) × Appends old new (take n (lines_of kept))
  WritesLines old new NumbersSpent kept = new ≡ old
  WritesLines old new NoThread kept = new ≡ old
  WritesLines old new Memory kept = new ≡ old
  WritesLines old new (Refused line cause) kept = new ≡ old
  WritesLines old new ReadFault kept = new ≡ old
  WritesLines old new HistoryFull kept = ⊥
  WritesLines old new Usage kept = ⊥

-- it can come once the input was read
abbrev pub IsAfterReading : Status → Type 0
IsAfterReading (Refused line cause) = ⊥
IsAfterReading ReadFault = ⊥
IsAfterReading _ = Unit {0}
