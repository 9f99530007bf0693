use Rattle.std.proofs.Common.{◌≡◌, ℕ, ◌+◌, ◌-◌, ◌++◌, Option, None, ap, ◌∙◌, slice_get, unwrap_or, arith}
use Rattle.script_lang.specs.declared.command.Command.{Command}
use Rattle.line_print.specs.declared.note.Note.{Note}
use Rattle.line_print.specs.Lines.{line_of}
use Rattle.line_print.proofs.FoundLemmas.{lines_more}
use Rattle.line_print.proofs.lines.run_lines.Goals as goal

pub loop-place-preserved : goal.loop-place-preserved
loop-place-preserved c =
    let run = c.args.run.now in
    let place = c.loop-place.place in
    let line = λ (k : ℕ) (command : Command) (note : Option Note). line_of run.cluster.now run.corpus.now run.script.now run.history.now k command note in
    let at = λ (i : ℕ). unwrap_or (slice_get c.args.found.now i) None in
    let back : place ≡ place + 1 - 1 = omega arith in
    lines_more (λ k command. line k command (at (k - 1))) place run.script.now c.command-item.result c.loop-place.out.items c.command_line.new.out.items _ c.loop-place-test.true c.command-item.is
    (c.in_ok-command_line.ensures ∙ ap (λ (note : Option Note). c.loop-place.out.items ++ line (place + 1) c.command-item.result note) (c.note_at.ensures ∙ ap at back))
    c.loop-place.invariant
