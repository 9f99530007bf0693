use Rattle.std.proofs.Common.{ap, sym, ◌∙◌}
use Rattle.std.specs.FinMap as finite
use Rattle.task_ids.proofs.TaskIdKeys.{get_id}
use Rattle.scroll_table.specs.Versions.{is_kept}
use Rattle.scroll_table.proofs.Least.{least_kept}
use Rattle.point_in_time.specs.Pits.{Pits}
use Rattle.point_in_time.proofs.table.PitTable.oldest.Goals as goal

pub returns : goal.returns
returns c =
    least_kept c.args.self.now.standing c.self.inside.versions c.args.index.now c.args.shard
    (λ k. c.self.invariant.1 c.args.index.now k ∙ ap (is_kept c.args.index.now k) (sym (get_id c.self.inside.contexts.entries k.id) ∙ ap (λ (p : Pits). finite.get p.standing k.id) c.self.view_is))
    c.oldest.result c.oldest.ensures.kept c.oldest.ensures.least c.oldest.ensures.none
