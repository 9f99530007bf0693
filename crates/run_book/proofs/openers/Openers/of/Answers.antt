use Rattle.std.proofs.Common.{sym, ap, ◌∙◌}
use Rattle.std.specs.FinMap as map
use Rattle.task_ids.proofs.TaskIdKeys.{get_id}
use Rattle.run_book.proofs.openers.Openers.of.Goals as goal

pub returns : goal.returns
returns c = c.copied.ensures ∙ c.get.ensures.value ∙ sym (get_id c.self.inside.numbers.entries c.args.id) ∙ ap (λ m. map.get m c.args.id) c.self.view_is
