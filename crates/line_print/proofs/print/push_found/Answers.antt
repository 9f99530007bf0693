use Rattle.std.proofs.Common.{◌≡◌, ℕ, List, OnOk, subst}
use Rattle.line_print.proofs.PrintLemmas.{found_text}
use Rattle.line_print.proofs.print.push_found.Goals as goal

pub returns : goal.returns
returns c =
    subst (λ (text : List ℕ). OnOk c.push-3.result (c.push-3.new.out.items ≡ text))
    (rw (c.in_ok-push_total.ensures, c.in_ok-push-2.ensures, c.in_ok-push_hits.ensures, c.as_slice.ensures, c.in_ok-push.ensures) (found_text c.args.reply.now c.args.out.now.items))
    c.push-3.ensures
