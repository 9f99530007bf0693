use Rattle.std.proofs.Common.{sym, ap, ◌∙◌}
use Rattle.std.specs.FinMap as finite
use Rattle.task_ids.proofs.TaskIdKeys.{get_id}
use Rattle.cancel_core.proofs.cancels.CancelCore.find.Goals as goal

pub returns : goal.returns
returns c = c.get.ensures.value ∙ sym (get_id c.self.inside.entries.entries c.args.task.now) ∙ ap (λ k. finite.get k.entries c.args.task.now) c.self.view_is
