-- The lines that a run over threads prints.
use Rattle.std.specs.Prelude.{ℕ, List, flat_map, zip}
use Rattle.task_ids.specs.declared.cluster.Cluster.{Cluster}
use Rattle.script_lang.specs.declared.command.Command.{Command}
use Rattle.line_print.specs.RunLines.{line_of_reply}
use Rattle.run_book.specs.declared.entry.LineNote.{LineNote}

-- the line of a command, by its note
abbrev pub line_by : Cluster → List Command → Command × LineNote → List ℕ
line_by cluster script p = line_of_reply cluster script p.1.command p.0 p.1.reply

-- The lines of the commands, each by the note at its place, in order.
abbrev pub printed : Cluster → List Command → List LineNote → List ℕ
printed cluster script notes = flat_map (line_by cluster script) (zip script notes)
