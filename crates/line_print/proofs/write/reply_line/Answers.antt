use Rattle.std.proofs.Common.{◌≡◌, ℕ, List, OnOk, subst}
use Rattle.serde_json.specs.View.{view}
use Rattle.line_print.proofs.PrintLemmas.{line_text}
use Rattle.line_print.proofs.write.reply_line.Goals as goal

pub returns : goal.returns
returns c =
    subst (λ (text : List ℕ). OnOk c.push_line-pushed.result (c.push_line-pushed.new.out.items ≡ text))
    (line_text c.args.command (view c.args.reply) c.args.out.now.items)
    c.push_line-pushed.ensures
