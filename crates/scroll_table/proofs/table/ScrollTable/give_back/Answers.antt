use Rattle.std.proofs.Common.{Option, IsSome, Some, cond, refl, sym, ap, subst, ◌∙◌}
use Rattle.std.specs.BTreeMap.{is_at}
use Rattle.std.specs.FinMap as finite
use Rattle.task_ids.specs.TaskIdOrder.{task_id_cmp}
use Rattle.task_ids.proofs.TaskIdKeys.{get_id, one_put}
use Rattle.task_events.specs.declared.context.Context.{Context}
use Rattle.task_events.specs.Contexts.{given_back}
use Rattle.scroll_table.specs.Ends.{kept_at}
use Rattle.scroll_table.proofs.Owned.{owner_stays}
use Rattle.scroll_table.proofs.Timed.{one_changed, set_there}
use Rattle.scroll_table.proofs.Versioned.{version_stays}
use Rattle.scroll_table.proofs.Answered.{one_there}
use Rattle.scroll_table.proofs.table.ScrollTable.give_back.Goals as goal

pub note_return-end-requires : goal.note_return-end-requires
note_return-end-requires c =
    let (context, there) = one_there (finite.get c.args.self.now c.args.id) _ c.requires.busy in
    let stands = sym (get_id c.self.inside.contexts.entries c.args.id) ∙ ap (λ m. finite.get m c.args.id) c.self.view_is ∙ there in
    subst (λ (o : Option Context). IsSome o) (sym stands) refl

pub invariant_of-self : goal.invariant_of-self
invariant_of-self c =
    let id = c.args.id in
    let ends = c.self.inside.ends in
    let (context, there) = one_there (finite.get c.args.self.now id) _ c.requires.busy in
    let stands = sym (get_id c.self.inside.contexts.entries id) ∙ ap (λ m. finite.get m id) c.self.view_is ∙ there in
    let changed = c.note_return-end.ensures.returned context stands in
    let kept = set_there c.self.inside.contexts id context c.note_return-end.result (kept_at ends) (kept_at c.set.new.self) stands c.self.invariant.0.each c.set.ensures.set in (
      record {
        ends = c.set.ensures.ends;
        each = one_changed c.self.inside.contexts c.note_return-end.new.contexts id (Some (given_back c.args.after c.args.now context)) (kept_at ends) (kept_at c.set.new.self) c.self.invariant.0.each changed
            (λ q. kept q ∙ ap (λ end. cond (is_at (task_id_cmp id) q) (Some end) (kept_at ends q)) (c.note_return-end.ensures.end context stands));
      },
      owner_stays c.self.inside.owners c.self.inside.contexts c.note_return-end.new.contexts id c.self.invariant.1 context (given_back c.args.after c.args.now context) stands refl changed,
      version_stays c.self.inside.versions c.self.inside.contexts c.note_return-end.new.contexts id c.self.invariant.2 context (given_back c.args.after c.args.now context) stands refl refl changed,
    )

pub returns : goal.returns
returns c context there =
    let stands = sym (get_id c.self.inside.contexts.entries c.args.id) ∙ ap (λ m. finite.get m c.args.id) c.self.view_is ∙ there in
    one_put c.self.inside.contexts.entries c.note_return-end.new.contexts.entries c.args.id (given_back c.args.after c.args.now context) (c.note_return-end.ensures.returned context stands)
    ∙ ap (λ m. finite.insert m c.args.id (given_back c.args.after c.args.now context)) c.self.view_is
