use Rattle.std.proofs.Common.{ap, ◌∙◌}
use Rattle.std.specs.FinMap as finite
use Rattle.task_ids.proofs.TaskIdKeys.{one_removed}
use Rattle.point_in_time.proofs.cursors.CursorTable.remove.Goals as goal

pub returns : goal.returns
returns c =
    one_removed c.self.inside.by_pit.entries c.remove.new.self.entries c.args.pit.now c.remove.ensures.updates.0
    ∙ ap (λ m. finite.remove m c.args.pit.now) c.self.view_is
