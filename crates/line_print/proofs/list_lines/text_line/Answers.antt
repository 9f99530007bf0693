use Rattle.std.proofs.Common.{◌≡◌, ℕ, List, OnOk, subst}
use Rattle.line_print.proofs.PrintLemmas.{text_parts}
use Rattle.line_print.proofs.list_lines.text_line.Goals as goal

pub returns : goal.returns
returns c =
    subst (λ (text : List ℕ). OnOk c.push.result (c.push.new.out.items ≡ text))
    (rw (c.in_ok-extend_from_slice.ensures.items, c.in_ok-push_start.ensures) (text_parts c.args.command c.args.text.now c.args.out.now.items))
    c.push.ensures
