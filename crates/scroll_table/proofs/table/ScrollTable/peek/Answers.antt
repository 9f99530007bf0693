use Rattle.std.proofs.Common.{ap, ◌∙◌}
use Rattle.scroll_table.specs.Contexts.{answer_for}
use Rattle.scroll_table.proofs.table.ScrollTable.peek.Goals as goal

pub returns-in-Some : goal.returns-in-Some
returns-in-Some c = c.answer.ensures ∙ ap (answer_for c.args.by c.args.now) c.in-Some.ensures

pub returns-in-None : goal.returns-in-None
returns-in-None c = ap (answer_for c.args.by c.args.now) c.in-None.ensures
