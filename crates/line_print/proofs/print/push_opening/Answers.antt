use Rattle.std.proofs.Common.{◌≡◌, ℕ, ◌++◌, List, OnOk, ap, sym, subst, ◌∙◌}
use Rattle.line_print.specs.Replies.{opening}
use Rattle.line_print.proofs.PrintLemmas.{opening_text}
use Rattle.line_print.proofs.print.push_opening.Goals as goal

pub returns : goal.returns
returns c =
    subst (λ (text : List ℕ). OnOk c.push-3.result (c.push-3.new.out.items ≡ text))
    (rw (c.in_ok-push_id.ensures, c.in_ok-push.ensures) (opening_text c.in-Some.context c.args.out.now.items ∙ ap (λ context. c.args.out.now.items ++ opening context) (sym c.in-Some.is)))
    c.push-3.ensures
