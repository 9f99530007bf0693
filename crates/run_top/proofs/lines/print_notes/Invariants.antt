use Rattle.std.proofs.Common.{◌≡◌, length, take}
use Rattle.std.specs.Prelude.{flat_map, zip}
use Rattle.run_top.specs.Lines.{line_by}
use Rattle.run_top.proofs.lines.print_notes.Given as goal

abbrev pub invariant-loop-command : goal.invariant-loop-command
invariant-loop-command l = l.text.items ≡ flat_map (line_by l.cluster l.script) (take (length l.yielded) (zip l.script l.notes))
