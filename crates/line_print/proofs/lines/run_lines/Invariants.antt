use Rattle.std.proofs.Common.{◌≡◌, ◌+◌, ◌-◌, ◌++◌, None, drop, slice_get, unwrap_or}
use Rattle.line_print.specs.Lines.{line_of, lines_from, printed_by}
use Rattle.line_print.proofs.lines.run_lines.Given as goal

-- what is appended so far and the lines that are still to come
abbrev pub invariant-loop-place : goal.invariant-loop-place
invariant-loop-place l =
    l.out.items ++ lines_from (λ k command. line_of l.run.cluster.now l.run.corpus.now l.run.script.now l.run.history.now k command (unwrap_or (slice_get l.found (k - 1)) None)) (l.place + 1) (drop l.place l.run.script.now)
    ≡ l.fn.out.items ++ printed_by l.found l.run.cluster.now l.run.corpus.now l.run.script.now l.run.history.now
