use Rattle.std.proofs.Common.{◌≡◌, ℕ, List, OnOk, subst}
use Rattle.task_events.specs.Printed.{search_json}
use Rattle.line_print.specs.Replies.{shards_told}
use Rattle.line_print.proofs.PrintLemmas.{line_text}
use Rattle.line_print.proofs.write.hits_line.Goals as goal

pub returns : goal.returns
returns c =
    subst (λ (text : List ℕ). OnOk c.push.result (c.push.new.out.items ≡ text))
    (rw (c.in_ok-push_reply.ensures, c.shards_told.ensures, c.in_ok-push_start.ensures) (line_text c.args.command (search_json (shards_told c.args.shards c.args.reply.now) c.args.reply.now) c.args.out.now.items))
    c.push.ensures
