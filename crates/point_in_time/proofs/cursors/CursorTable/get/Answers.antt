use Rattle.std.proofs.Common.{Some, None, sym, ap, ◌∙◌}
use Rattle.std.specs.FinMap as finite
use Rattle.std.specs.FinMap.{get-empty}
use Rattle.task_ids.specs.TaskIdOrder.{task_id_cmp}
use Rattle.point_in_time.proofs.Left.{cursors_are}
use Rattle.point_in_time.proofs.cursors.CursorTable.get.Goals as goal

pub returns-in-Some : goal.returns-in-Some
returns-in-Some c =
    c.get-in-Some.ensures
    ∙ ap (λ m. finite.get m c.args.search.now) (sym (cursors_are c.self.inside.by_pit.entries c.args.self.now c.args.pit.now (Some c.in-Some.cursors.now) c.self.view_is (sym c.in-Some.ensures.value)))

pub returns-in-None : goal.returns-in-None
returns-in-None c =
    sym (get-empty task_id_cmp c.args.search.now)
    ∙ ap (λ m. finite.get m c.args.search.now) (sym (cursors_are c.self.inside.by_pit.entries c.args.self.now c.args.pit.now None c.self.view_is (sym c.in-None.ensures.value)))
