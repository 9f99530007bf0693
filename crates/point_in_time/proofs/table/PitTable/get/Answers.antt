use Rattle.std.proofs.Common.{sym, ap, ◌∙◌}
use Rattle.std.specs.FinMap as finite
use Rattle.task_ids.proofs.TaskIdKeys.{get_id}
use Rattle.point_in_time.specs.Pits.{Pits}
use Rattle.point_in_time.proofs.table.PitTable.get.Goals as goal

pub returns : goal.returns
returns c = c.get.ensures.value ∙ sym (get_id c.self.inside.contexts.entries c.args.id) ∙ ap (λ (p : Pits). finite.get p.standing c.args.id) c.self.view_is
