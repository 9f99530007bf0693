use Rattle.std.proofs.Common.{[], None, sym, ap, subst, ◌∙◌}
use Rattle.std.specs.FinMap as finite
use Rattle.std.specs.List.Sorted.{IsStrictlyIncreasing}
use Rattle.std.specs.Option.{unwrap_or}
use Rattle.task_ids.proofs.TaskIdKeys.{value_at, one_removed}
use Rattle.task_results.proofs.Waiting.{waiting_is, rise_still, rises_or_none}
use Rattle.task_results.proofs.waits.Waits.take.Goals as goal

pub invariant_of-self : goal.invariant_of-self
invariant_of-self c = rise_still c.self.inside.commands.entries c.remove.new.self.entries c.args.id None c.remove.ensures.updates.0 tt c.self.invariant

pub returns-clause-waited : goal.returns-clause-waited
returns-clause-waited c =
    c.into_vec.ensures ∙ c.unwrap_or.ensures ∙ ap (unwrap_or c.remove.result) c.new.ensures
    ∙ sym (waiting_is c.self.inside.commands.entries c.args.self.now c.args.id c.remove.result c.self.view_is (sym c.remove.ensures.value))

pub returns-clause-ascending : goal.returns-clause-ascending
returns-clause-ascending c =
    let items = c.into_vec.ensures ∙ c.unwrap_or.ensures ∙ ap (unwrap_or c.remove.result) c.new.ensures ∙ ap (λ o. unwrap_or o []) c.remove.ensures.value in
    subst IsStrictlyIncreasing (sym items) (rises_or_none (value_at c.self.inside.commands.entries c.args.id) (c.self.invariant c.args.id))

pub returns-clause-gone : goal.returns-clause-gone
returns-clause-gone c =
    one_removed c.self.inside.commands.entries c.remove.new.self.entries c.args.id c.remove.ensures.updates.0
    ∙ ap (λ m. finite.remove m c.args.id) c.self.view_is
