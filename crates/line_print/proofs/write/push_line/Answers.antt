use Rattle.std.proofs.Common.{◌≡◌, ℕ, ◌++◌, List, OnOk, subst, codes, ap, ◌∙◌}
use Rattle.serde_json.specs.View.{view}
use Rattle.serde_json.specs.Written.{compact_text}
use Rattle.line_print.proofs.write.push_line.Goals as goal

pub returns : goal.returns
returns c =
    subst (λ (text : List ℕ). OnOk c.push.result (c.push.new.out.items ≡ text ++ codes "}\n"))
    (c.in_ok-push_json.ensures ∙ ap (λ text. text ++ compact_text (view c.args.value.now)) c.in_ok-push_start.ensures)
    c.push.ensures
