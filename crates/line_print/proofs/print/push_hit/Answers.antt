use Rattle.std.proofs.Common.{◌≡◌, ℕ, List, OnOk, subst}
use Rattle.line_print.proofs.PrintLemmas.{hit_text}
use Rattle.line_print.proofs.print.push_hit.Goals as goal

pub returns : goal.returns
returns c =
    subst (λ (text : List ℕ). OnOk c.push-4.result (c.push-4.new.out.items ≡ text))
    (rw (c.in_ok-print.ensures.ok, c.in_ok-push-3.ensures, c.in_ok-push_quoted-2.ensures, c.as_str-2.ensures, c.get-2.ensures, c.in_ok-push-2.ensures, c.in_ok-push_quoted.ensures, c.as_str.ensures, c.get.ensures, c.in_ok-push.ensures) (hit_text c.args.hit.now c.args.out.now.items))
    c.push-4.ensures
