use Rattle.std.proofs.Common.{◌≡◌, ◌++◌, ℕ, List, ◌∙◌, subst, OnOk}
use Rattle.line_print.proofs.FoundLemmas.{output_of, printed_as_found}
use Rattle.line_print.proofs.lines.print_lines.Goals as goal

pub returns-clause-by : goal.returns-clause-by
returns-clause-by c =
    subst (λ (text : List ℕ). OnOk c.run_lines.result (c.run_lines.new.out.items ≡ c.args.out.now.items ++ text))
    (output_of c.args.found.now _ _ _ _ _ _ _ c.args.history.now c.in_ok-run.ensures.same.0 c.in_ok-run.ensures.same.1 (c.in_ok-run.ensures.same.2 ∙ c.as_slice-commands.ensures) c.in_ok-run.ensures.same.3)
    c.run_lines.ensures

pub returns-clause-printed : goal.returns-clause-printed
returns-clause-printed c = λ f.
    subst (λ (text : List ℕ). OnOk c.run_lines.result (c.run_lines.new.out.items ≡ c.args.out.now.items ++ text))
    (printed_as_found c.args.found.now c.args.cluster.now c.args.corpus.now c.args.script.now c.args.history.now f) (returns-clause-by c)
