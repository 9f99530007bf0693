use Rattle.std.proofs.Common.{None, is_some, sym, ap, ◌∙◌}
use Rattle.std.specs.FinMap as finite
use Rattle.task_ids.proofs.TaskIdKeys.{get_id, one_removed}
use Rattle.scroll_table.specs.Ends.{kept_at}
use Rattle.scroll_table.proofs.Timed.{one_changed}
use Rattle.point_in_time.specs.Pits.{Pits}
use Rattle.point_in_time.proofs.table.PitTable.close.Goals as goal

pub invariant_of-self : goal.invariant_of-self
invariant_of-self c = (
  record {
    ends = c.remove.ensures.ends;
    each = one_changed c.self.inside.contexts c.take_out-stood.new.contexts c.args.id None (kept_at c.self.inside.ends) (kept_at c.remove.new.self) c.self.invariant.0.each c.take_out-stood.ensures.gone c.remove.ensures.removed;
  },
  c.take_out-stood.ensures.versions,
)

pub returns-clause-stood : goal.returns-clause-stood
returns-clause-stood c =
    c.take_out-stood.ensures.stood
    ∙ ap is_some (sym (get_id c.self.inside.contexts.entries c.args.id) ∙ ap (λ (p : Pits). finite.get p.standing c.args.id) c.self.view_is)

pub returns-clause-gone : goal.returns-clause-gone
returns-clause-gone c =
    ap (λ standing. record { standing = standing; cursors = c.remove-2.new.self }) (one_removed c.self.inside.contexts.entries c.take_out-stood.new.contexts.entries c.args.id c.take_out-stood.ensures.gone)
    ∙ ap (λ cursors. record { standing = finite.remove (finite.from_entries c.self.inside.contexts.entries) c.args.id; cursors = cursors }) c.remove-2.ensures
    ∙ ap (λ (p : Pits). record { standing = finite.remove p.standing c.args.id; cursors = finite.remove p.cursors c.args.id }) c.self.view_is
