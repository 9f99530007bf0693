-- What the status of a call of `sim_top` says of the input, of what is kept, and of what was written.
use Rattle.std.specs.Prelude.{◌≡◌, ◌<◌, ◌≤◌, ◌⊎◌, ℕ, List, [], Option, length, take}
use Rattle.es_io.specs.Bytes.{Appends}
use Rattle.task_ids.specs.declared.cluster.Cluster.{Cluster}
use Rattle.task_events.specs.declared.event.Event.{Event}
use Rattle.task_events.specs.declared.history.TheConstants.{MAX_EVENTS}
use Rattle.task_events.specs.declared.stop.Stop.{Stop}
use Rattle.task_events.specs.declared.stop.Stop.TheVariants as stops
use Rattle.script_lang.specs.declared.command.Mode.TheVariants.{Sim}
use Rattle.world_steps.specs.Scripts.{IsRun, IsRunSoFar, StopsRun}
use Rattle.task_top.specs.declared.kept.Kept.{Kept}
use Rattle.top_parts.specs.declared.status.Status.{Status}
use Rattle.top_parts.specs.declared.status.Status.TheVariants.{Done, Usage, Refused, ReadFault, WriteFault, Memory, NoThread, HistoryFull, NumbersSpent}
use Rattle.line_print.specs.Lines.{printed}
use Rattle.task_top.specs.EachLine.{HasLines}
use Rattle.task_top.specs.Promises.{IsOver}
use Rattle.top_parts.specs.Reading.{Reads, Refuses}

-- nothing was read, and nothing happened
pub record IsNothing (kept : Kept) : Type 0 where
  pub no_corpus : kept.corpus.lines ≡ []
  pub no_script : kept.script.commands ≡ []
  pub no_event : kept.history ≡ []

module _ (cluster : Cluster) where
  -- the input was read as what is kept
  abbrev pub ReadsAs : List ℕ → Kept → Type 0
  ReadsAs input kept = Reads Sim cluster input kept.corpus kept.script

  -- What the input is, given its bytes: it was read as what is kept, or it is refused so, or it was not read to its end.
  abbrev pub AnswersInput : List ℕ → Status → Kept → Type 0
  AnswersInput input Done kept = ReadsAs input kept
  AnswersInput input WriteFault kept = ReadsAs input kept
  AnswersInput input HistoryFull kept = ReadsAs input kept
  AnswersInput input NumbersSpent kept = ReadsAs input kept
  AnswersInput input Memory kept = ReadsAs input kept ⊎ IsNothing kept
  AnswersInput input (Refused line cause) kept = Refuses Sim cluster input line cause
  AnswersInput input ReadFault kept = IsNothing kept
  AnswersInput input Usage kept = ⊥
  AnswersInput input NoThread kept = ⊥

  -- the run of the kept script is kept, or a first part of it
  abbrev pub RanWhole : Kept → Type 0
  RanWhole kept = IsRun cluster kept.corpus kept.script kept.history

  abbrev pub RanSoFar : Kept → Type 0
  RanSoFar kept = IsRunSoFar cluster kept.corpus kept.script kept.history

  -- The kept history is the run of what was read, or a first part of it where the run came to an early end, or nothing where the input was not read.
  abbrev pub RanAsRead : Status → Kept → Type 0
  RanAsRead Done kept = RanWhole kept
  RanAsRead WriteFault kept = RanWhole kept
  RanAsRead Memory kept = RanSoFar kept
  RanAsRead HistoryFull kept = RanSoFar kept
  RanAsRead NumbersSpent kept = RanSoFar kept
  RanAsRead (Refused line cause) kept = IsNothing kept
  RanAsRead ReadFault kept = IsNothing kept
  RanAsRead Usage kept = ⊥
  RanAsRead NoThread kept = ⊥

  -- the lines that what is kept prints
  abbrev pub lines_of : Kept → List ℕ
  lines_of kept = printed cluster kept.corpus kept.script kept.history

  -- What was written grew by exactly the lines, or by a first part of them, or not at all.
  abbrev pub WritesLines : Option (List ℕ) → Option (List ℕ) → Status → Kept → Type 0
  WritesLines old new Done kept = Appends old new (lines_of kept)
  WritesLines old new WriteFault kept = (n : ℕ) × (n < length (lines_of kept)) × Appends old new (take n (lines_of kept))
  WritesLines old new Memory kept = new ≡ old
  WritesLines old new HistoryFull kept = new ≡ old
  WritesLines old new NumbersSpent kept = new ≡ old
  WritesLines old new (Refused line cause) kept = new ≡ old
  WritesLines old new ReadFault kept = new ≡ old
  WritesLines old new Usage kept = ⊥
  WritesLines old new NoThread kept = ⊥

  -- A fault is told only where its cause stands: of the source, or of the sink; and an early end where its cause stands in what happened.
  abbrev pub HasCause : Status → Kept → Type 0 → Type 0 → Type 0
  HasCause ReadFault kept source sink = source
  HasCause WriteFault kept source sink = sink
  HasCause HistoryFull kept source sink = StopsRun cluster kept.corpus kept.script kept.history stops.HistoryFull
  HasCause NumbersSpent kept source sink = StopsRun cluster kept.corpus kept.script kept.history stops.NumbersSpent
  HasCause _ kept source sink = Unit {0}

  -- What is told as a whole run is one, in a history that holds it. A full history is told only where each whole run of the script has more events
  -- than a history holds, and spent numbers only where it has none.
  abbrev pub IsWholeOrNone : Status → Kept → Type 0
  IsWholeOrNone Done kept = RanWhole kept × (length kept.history ≤ MAX_EVENTS)
  IsWholeOrNone WriteFault kept = RanWhole kept × (length kept.history ≤ MAX_EVENTS)
  IsWholeOrNone HistoryFull kept = (h : List Event) → IsRun cluster kept.corpus kept.script h → MAX_EVENTS < length h
  IsWholeOrNone NumbersSpent kept = (h : List Event) → IsRun cluster kept.corpus kept.script h → ⊥
  IsWholeOrNone _ kept = Unit {0}

-- A whole run is over with all that it began.
abbrev pub Rests : Status → Kept → Type 0
Rests Done kept = IsOver kept.history
Rests WriteFault kept = IsOver kept.history
Rests _ kept = Unit {0}

-- In a whole run each command has its line.
abbrev pub TellsEach : Cluster → Status → Kept → Type 0
TellsEach cluster Done kept = HasLines cluster kept.corpus kept.script kept.history
TellsEach cluster WriteFault kept = HasLines cluster kept.corpus kept.script kept.history
TellsEach cluster _ kept = Unit {0}

-- the statuses that can come once the input was read
abbrev pub IsAfterReading : Status → Type 0
IsAfterReading Done = Unit {0}
IsAfterReading WriteFault = Unit {0}
IsAfterReading Memory = Unit {0}
IsAfterReading HistoryFull = Unit {0}
IsAfterReading NumbersSpent = Unit {0}
IsAfterReading _ = ⊥

-- what is told of an early end
abbrev pub early_status : Stop → Status
early_status stops.HistoryFull = HistoryFull
early_status stops.NumbersSpent = NumbersSpent
early_status stops.Memory = Memory
