use Rattle.std.proofs.Common.{◌≡◌, ℕ, List, OnOk, subst}
use Rattle.serde_json.specs.View.{view}
use Rattle.line_print.proofs.PrintLemmas.{error_text}
use Rattle.line_print.proofs.write.error_line.Goals as goal

pub returns : goal.returns
returns c =
    subst (λ (text : List ℕ). OnOk c.push_line-pushed.result (c.push_line-pushed.new.out.items ≡ text))
    (error_text c.args.command (view c.args.error) c.args.out.now.items)
    c.push_line-pushed.ensures
