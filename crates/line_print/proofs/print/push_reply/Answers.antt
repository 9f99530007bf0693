use Rattle.std.proofs.Common.{◌≡◌, ℕ, List, OnOk, subst}
use Rattle.line_print.proofs.PrintLemmas.{reply_text}
use Rattle.line_print.proofs.print.push_reply.Goals as goal

pub returns : goal.returns
returns c =
    subst (λ (text : List ℕ). OnOk c.push-2.result (c.push-2.new.out.items ≡ text))
    (rw (c.in_ok-push_found.ensures, c.in_ok-push.ensures, c.in_ok-push_shards.ensures, c.in_ok-push_opening.ensures, c.as_slice.ensures) (reply_text c.args.shards c.args.reply.now c.args.out.now.items))
    c.push-2.ensures
