use Rattle.std.proofs.Common.{is_some, sym, ap, ◌∙◌}
use Rattle.std.specs.FinMap as finite
use Rattle.task_ids.proofs.TaskIdKeys.{get_id}
use Rattle.point_in_time.specs.Pits.{Pits}
use Rattle.point_in_time.proofs.table.PitTable.keep_cursor.Goals as goal

pub returns-then-not-contains_key-clause-there : goal.returns-then-not-contains_key-clause-there
returns-then-not-contains_key-clause-there c =
    let seen = ap is_some (sym (get_id c.self.inside.contexts.entries c.args.id) ∙ ap (λ (p : Pits). finite.get p.standing c.args.id) c.self.view_is) in
    c.if-not-contains_key.ensures ∙ seen

pub returns-clause-there : goal.returns-clause-there
returns-clause-there c =
    let seen = ap is_some (sym (get_id c.self.inside.contexts.entries c.args.id) ∙ ap (λ (p : Pits). finite.get p.standing c.args.id) c.self.view_is) in
    c.if-not-contains_key.ensures ∙ seen
