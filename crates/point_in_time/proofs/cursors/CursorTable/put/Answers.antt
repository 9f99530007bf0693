use Rattle.std.proofs.Common.{◌≡◌, List, Some, None, is_some, sym, ap, ◌∙◌}
use Rattle.std.specs.BTreeMap.{BTreeMap, is_at}
use Rattle.std.specs.FinMap as finite
use Rattle.std.specs.FinMap.{FinMap}
use Rattle.std.specs.Option.{option_copied_mut}
use Rattle.std.proofs.lemmas.Map.Steps.{set_value_same}
use Rattle.std.proofs.lemmas.Result.{err_from_is_err_and}
use Rattle.task_ids.proofs.TaskIdKeys.{value_at, one_put}
use Rattle.task_ids.specs.TaskIdOrder.{task_id_cmp}
use Rattle.task_ids.specs.declared.task_id.TaskId.{TaskId}
use Rattle.point_in_time.specs.declared.cursors.Cursor.{Cursor}
use Rattle.point_in_time.proofs.Left.{cursors_are}
use Rattle.point_in_time.proofs.cursors.CursorTable.put.Goals as goal

pub returns-in_err-put-clause-err : goal.returns-in_err-put-clause-err
returns-in_err-put-clause-err c =
    let es = c.self.inside.by_pit.entries in
    let left = c.in-Some.cursors.now in
    let w = c.put.new.self in
    let read : value_at es c.args.pit ≡ Some left = sym c.get_mut.ensures.value ∙ ap option_copied_mut c.in-Some.is in
    let same = (c.get_mut.follows.holds w).0 ∙ set_value_same (is_at (task_id_cmp c.args.pit)) es w (read ∙ ap Some (sym c.in_err-put.ensures.err)) in
    let p = err_from_is_err_and c.from_residual.result c.from_residual.ensures.1 in
    rw p.1 (ap (λ (rows : List (TaskId × FinMap task_id_cmp Cursor)). finite.from_entries {R = task_id_cmp} rows) same ∙ c.self.view_is)

pub returns-in-Some-clause-ok : goal.returns-in-Some-clause-ok
returns-in-Some-clause-ok c =
    let es = c.self.inside.by_pit.entries in
    let left = c.in-Some.cursors.now in
    let w = c.put.new.self in
    let read : value_at es c.args.pit ≡ Some left = sym c.get_mut.ensures.value ∙ ap option_copied_mut c.in-Some.is in
    let updates = (c.get_mut.follows.holds w).3 (ap is_some read) in
    let were = cursors_are es c.args.self.now c.args.pit (Some left) c.self.view_is read in
    one_put es (c.get_mut.follows.lender w).entries c.args.pit w updates.0
    ∙ ap (λ m. finite.insert m c.args.pit w) c.self.view_is
    ∙ ap (finite.insert c.args.self.now c.args.pit) (c.in_ok-put.ensures.ok ∙ ap (λ m. finite.insert m c.args.cursor.search c.args.cursor) (sym were))

pub returns-clause-ok : goal.returns-clause-ok
returns-clause-ok c =
    let was = c.get_mut.follows.lender-at-none in
    let stays : was ≡ c.self.inside.by_pit = c.get_mut.follows.holds-at-none in
    let w = c.put-2.new.self in
    let none : value_at c.self.inside.by_pit.entries c.args.pit ≡ None = sym c.get_mut.ensures.value ∙ ap option_copied_mut c.in_default.is in
    let were = cursors_are c.self.inside.by_pit.entries c.args.self.now c.args.pit None c.self.view_is none in
    let first = c.in_ok-put-2.ensures.ok ∙ ap (λ m. finite.insert m c.args.cursor.search c.args.cursor) c.new-cursors.ensures in
    one_put was.entries c.insert.new.self.entries c.args.pit w c.in_ok-insert.ensures.updates.0
    ∙ ap (λ (m : BTreeMap TaskId (FinMap task_id_cmp Cursor)). finite.insert (finite.from_entries {R = task_id_cmp} m.entries) c.args.pit w) stays
    ∙ ap (λ m. finite.insert m c.args.pit w) c.self.view_is
    ∙ ap (finite.insert c.args.self.now c.args.pit) (first ∙ ap (λ m. finite.insert m c.args.cursor.search c.args.cursor) (sym were))
