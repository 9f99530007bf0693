use Rattle.std.proofs.Common.{◌≡◌, ℕ, List, OnOk, subst}
use Rattle.line_print.proofs.PrintLemmas.{shards_text}
use Rattle.line_print.proofs.print.push_shards.Goals as goal

pub returns : goal.returns
returns c =
    subst (λ (text : List ℕ). OnOk c.push.result (c.push.new.out.items ≡ text))
    (rw (c.in_ok-push_count-3.ensures, c.in_ok-push_count-2.ensures, c.saturating_sub.ensures, c.in_ok-push_count.ensures) (shards_text c.args.shards c.args.failed c.args.out.now.items))
    c.push.ensures
