use Rattle.std.proofs.Common.{ap, ◌∙◌}
use Rattle.std.specs.FinMap as finite
use Rattle.task_ids.proofs.TaskIdKeys.{one_put}
use Rattle.point_in_time.proofs.cursors.Cursors.put.Goals as goal

pub returns-clause-ok : goal.returns-clause-ok
returns-clause-ok c =
    one_put c.self.inside.left.entries c.insert.new.self.entries c.args.cursor.search c.args.cursor c.in_ok-insert.ensures.updates.0
    ∙ ap (λ m. finite.insert m c.args.cursor.search c.args.cursor) c.self.view_is
