-- What a status tells: of the input, of a fault, by the program's exit status, and on standard error.
use Rattle.std.specs.Prelude.{◌<◌, ℕ, zero, suc, List, [], ◌++◌, codes, decimal}
use Rattle.es_io.specs.Count.{Rose}
use Rattle.task_ids.specs.Cause.{cause_text}
use Rattle.top_parts.specs.declared.status.Status.{Status}
use Rattle.top_parts.specs.declared.status.Status.TheVariants.{Done, Usage, Refused, ReadFault, WriteFault, Memory, NoThread, HistoryFull, NumbersSpent}

-- the input was read to its end
abbrev pub IsReadWhole : Status → Type 0
IsReadWhole Done = Unit {0}
IsReadWhole WriteFault = Unit {0}
IsReadWhole NoThread = Unit {0}
IsReadWhole HistoryFull = Unit {0}
IsReadWhole NumbersSpent = Unit {0}
IsReadWhole _ = ⊥

-- A fault is told where its count rose in the call, and only there. A count at its type's end stands still and does not show it.
abbrev pub TellsFault : (before after : ℕ) → Type 0 → Type 0
TellsFault before after told = (before < after → told) × (told → Rose before after)

abbrev pub exit_code_of : Status → ℕ
exit_code_of Done = 0
exit_code_of Usage = 1
exit_code_of (Refused line cause) = 2
exit_code_of ReadFault = 3
exit_code_of WriteFault = 4
exit_code_of Memory = 5
exit_code_of NoThread = 6
exit_code_of HistoryFull = 7
exit_code_of NumbersSpent = 8

-- a line is named where there is one
abbrev pub line_text : ℕ → List ℕ
line_text zero = []
line_text (suc n) = codes "line " ++ decimal (suc n) ++ codes ": "

abbrev pub status_text : Status → List ℕ
status_text Done = []
status_text Usage = codes "usage: tasktree sim|run [--nodes N] [--shards S] [--slots L] | gen N"
status_text (Refused line cause) = codes "tasktree: " ++ line_text line ++ cause_text cause
status_text ReadFault = codes "tasktree: read failed"
status_text WriteFault = codes "tasktree: write failed"
status_text Memory = codes "tasktree: out of memory"
status_text NoThread = codes "tasktree: no thread"
status_text HistoryFull = codes "tasktree: history is full"
status_text NumbersSpent = codes "tasktree: task numbers are spent"
