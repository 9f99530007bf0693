use Rattle.std.proofs.Common.{◌≡◌, ◌++◌, OnOk, ap, subst, ◌∙◌}
use Rattle.serde_json.specs.Written.{has_float}
use Rattle.task_events.specs.declared.reply.SearchReply.{SearchReply}
use Rattle.task_events.specs.Printed.{search_json, reply_line}
use Rattle.line_print.specs.Replies.{shards_told}
use Rattle.line_print.proofs.WholeLemmas.{all_failed_whole}
use Rattle.line_print.proofs.searches.replied_line.Goals as goal

pub error_line-requires : goal.error_line-requires
error_line-requires c = ap has_float c.in_ok-error-in-AllFailed.ensures ∙ all_failed_whole c.as_slice.result.now

pub returns-in-Search : goal.returns-in-Search
returns-in-Search c =
    rw c.in-Search.is (subst (λ (reply : SearchReply). OnOk c.hits_line.result (c.hits_line.new.out.items ≡ c.args.out.now.items ++ reply_line c.args.command (search_json (shards_told c.args.shards reply) reply))) c.get.ensures c.hits_line.ensures)
