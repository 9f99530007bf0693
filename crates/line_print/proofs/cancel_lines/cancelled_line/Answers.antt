use Rattle.std.proofs.Common.{ap, ◌∙◌}
use Rattle.serde_json.specs.Written.{has_float}
use Rattle.line_print.proofs.WholeLemmas.{cancelled_whole}
use Rattle.line_print.proofs.cancel_lines.cancelled_line.Goals as goal

pub reply_line-requires : goal.reply_line-requires
reply_line-requires c = ap has_float c.in_ok-reply.ensures ∙ cancelled_whole c.args.tasks.now c.args.wait
