use Rattle.std.proofs.Common.{Some, None, refl, sym, ap, ◌∙◌}
use Rattle.std.specs.FinMap as finite
use Rattle.task_ids.proofs.TaskIdKeys.{get_id, one_put}
use Rattle.task_events.specs.Contexts.{with_use}
use Rattle.scroll_table.specs.Ends.{kept_at}
use Rattle.scroll_table.proofs.Answered.{there_to_use}
use Rattle.scroll_table.proofs.Owned.{owner_stays}
use Rattle.scroll_table.proofs.Timed.{one_changed, set_there}
use Rattle.scroll_table.proofs.Versioned.{version_stays}
use Rattle.scroll_table.proofs.table.ScrollTable.page.Goals as goal

pub invariant_of-self : goal.invariant_of-self
invariant_of-self c =
    let es = c.self.inside.contexts.entries in
    let id = c.args.id in
    let context = c.in_default.field-0.now in
    let there = there_to_use c.args.by c.args.now (finite.get c.args.self.now id) context (sym c.in_default.ensures) in
    let stands = sym (get_id es id) ∙ ap (λ m. finite.get m id) c.self.view_is ∙ there in
    let changed = c.note_use.ensures context stands in (
      record {
        ends = c.set.ensures.ends;
        each = one_changed c.self.inside.contexts c.note_use.new.contexts id (Some (with_use c.args.now c.args.keep c.args.user context)) (kept_at c.self.inside.ends) (kept_at c.set.new.self) c.self.invariant.0.each changed
            (set_there c.self.inside.contexts id context None (kept_at c.self.inside.ends) (kept_at c.set.new.self) stands c.self.invariant.0.each c.set.ensures.set);
      },
      owner_stays c.self.inside.owners c.self.inside.contexts c.note_use.new.contexts id c.self.invariant.1 context (with_use c.args.now c.args.keep c.args.user context) stands refl changed,
      version_stays c.self.inside.versions c.self.inside.contexts c.note_use.new.contexts id c.self.invariant.2 context (with_use c.args.now c.args.keep c.args.user context) stands refl refl changed,
    )

pub returns-clause-used : goal.returns-clause-used
returns-clause-used c context may =
    let es = c.self.inside.contexts.entries in
    let used = with_use c.args.now c.args.keep c.args.user context in
    let there = there_to_use c.args.by c.args.now (finite.get c.args.self.now c.args.id) context may in
    let stands = sym (get_id es c.args.id) ∙ ap (λ m. finite.get m c.args.id) c.self.view_is ∙ there in
    one_put es c.note_use.new.contexts.entries c.args.id used (c.note_use.ensures context stands)
    ∙ ap (λ m. finite.insert m c.args.id used) c.self.view_is
