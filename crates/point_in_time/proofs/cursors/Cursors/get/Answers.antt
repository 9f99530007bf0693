use Rattle.std.proofs.Common.{sym, ap, ◌∙◌}
use Rattle.std.specs.FinMap as finite
use Rattle.task_ids.proofs.TaskIdKeys.{get_id}
use Rattle.point_in_time.proofs.cursors.Cursors.get.Goals as goal

pub returns : goal.returns
returns c = c.get.ensures.value ∙ sym (get_id c.self.inside.left.entries c.args.search.now) ∙ ap (λ m. finite.get m c.args.search.now) c.self.view_is
