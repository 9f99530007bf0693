use Rattle.std.proofs.Common.{is_some, sym, ap, ◌∙◌}
use Rattle.std.specs.FinMap as finite
use Rattle.task_ids.proofs.TaskIdKeys.{get_id}
use Rattle.cancel_core.proofs.cancels.CancelCore.has.Goals as goal

pub returns : goal.returns
returns c = c.contains_key.ensures ∙ ap is_some (sym (get_id c.self.inside.entries.entries c.args.task) ∙ ap (λ k. finite.get k.entries c.args.task) c.self.view_is)
