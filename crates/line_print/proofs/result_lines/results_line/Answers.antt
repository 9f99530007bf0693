use Rattle.std.proofs.Common.{ap, ◌∙◌}
use Rattle.serde_json.specs.Written.{has_float}
use Rattle.line_print.proofs.WholeLemmas.{results_whole}
use Rattle.line_print.proofs.result_lines.results_line.Goals as goal

pub reply_line-requires : goal.reply_line-requires
reply_line-requires c = ap has_float c.in_ok-told-in-Some-Results.ensures ∙ results_whole c.as_slice.result.now
