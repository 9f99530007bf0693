use Rattle.std.proofs.Common.{sym, ◌∙◌, ap, Some}
use Rattle.search_phase.proofs.AnswerParts.{last_or_read}
use Rattle.search_phase.proofs.answer.last_of.Goals as goal

pub returns-in_ok-copy-in-Some : goal.returns-in_ok-copy-in-Some
returns-in_ok-copy-in-Some c = ap Some c.in_ok-copy-in-Some.ensures ∙ sym (last_or_read c.args.won.now c.in-Some.key.now (sym c.in-Some.ensures.value))
