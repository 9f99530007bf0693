use Rattle.std.proofs.Common.{◌≡◌, ℕ, List, OnOk, subst}
use Rattle.line_print.proofs.PrintLemmas.{total_text}
use Rattle.line_print.proofs.print.push_total.Goals as goal

pub returns : goal.returns
returns c =
    subst (λ (text : List ℕ). OnOk c.push.result (c.push.new.out.items ≡ text))
    (rw c.in_ok-push_count.ensures (total_text c.args.total c.args.out.now.items))
    c.push.ensures
