use Rattle.std.proofs.Common.{◌≡◌, Some, None, Option, cond, refl, sym, ap, ◌∙◌}
use Rattle.std.specs.BTreeMap.{is_at}
use Rattle.std.specs.FinMap as finite
use Rattle.task_ids.specs.TaskIdOrder.{task_id_cmp}
use Rattle.task_ids.proofs.TaskIdKeys.{get_id, one_put}
use Rattle.task_events.specs.declared.context.Context.{Context}
use Rattle.scroll_table.specs.Ends.{kept_at}
use Rattle.scroll_table.proofs.Timed.{one_changed, set_there}
use Rattle.scroll_table.proofs.Versioned.{version_stays}
use Rattle.point_in_time.proofs.Gone.{there_still}
use Rattle.point_in_time.specs.Pits.{Pits, read_at}
use Rattle.point_in_time.proofs.table.PitTable.take.Goals as goal

some_here : (o : Option Context) (c : Context) → o ≡ Some c → o ≡ None → ⊥
some_here o c e none = absurd (cc)

pub note_use-end-requires : goal.note_use-end-requires
note_use-end-requires c none =
    let id = c.args.id in
    let context = c.in_default.field-0.now in
    let there = there_still c.args.now (finite.get c.args.self.now.standing id) context (sym c.in_default.ensures) in
    let stands = sym (get_id c.self.inside.contexts.entries id) ∙ ap (λ (p : Pits). finite.get p.standing id) c.self.view_is ∙ there in
    some_here _ context stands none

pub invariant_of-self : goal.invariant_of-self
invariant_of-self c =
    let contexts = c.self.inside.contexts in
    let ends = c.self.inside.ends in
    let id = c.args.id in
    let context = c.in_default.field-0.now in
    let read = read_at c.args.now c.args.keep context in
    let there = there_still c.args.now (finite.get c.args.self.now.standing id) context (sym c.in_default.ensures) in
    let stands = sym (get_id contexts.entries id) ∙ ap (λ (p : Pits). finite.get p.standing id) c.self.view_is ∙ there in
    let changed = c.note_use-end.ensures.read context stands in
    let kept = set_there contexts id context c.note_use-end.result (kept_at ends) (kept_at c.set.new.self) stands c.self.invariant.0.each c.set.ensures.set in (
      record {
        ends = c.set.ensures.ends;
        each = one_changed contexts c.note_use-end.new.contexts id (Some read) (kept_at ends) (kept_at c.set.new.self) c.self.invariant.0.each changed
            (λ q. kept q ∙ ap (λ end. cond (is_at (task_id_cmp id) q) (Some end) (kept_at ends q)) (c.note_use-end.ensures.end context stands));
      },
      version_stays c.self.inside.versions contexts c.note_use-end.new.contexts id c.self.invariant.1 context read stands refl refl changed,
    )

pub returns-clause-there : goal.returns-clause-there
returns-clause-there c =
    let context = c.in_default.field-0.now in
    (λ _. λ none. some_here _ context (sym c.in_default.ensures) none, λ _. refl)

pub returns-clause-taken : goal.returns-clause-taken
returns-clause-taken c context may =
    let id = c.args.id in
    let read = read_at c.args.now c.args.keep context in
    let there = there_still c.args.now (finite.get c.args.self.now.standing id) context may in
    let stands = sym (get_id c.self.inside.contexts.entries id) ∙ ap (λ (p : Pits). finite.get p.standing id) c.self.view_is ∙ there in
    ap (λ standing. record { standing = standing; cursors = c.self.inside.cursors }) (one_put c.self.inside.contexts.entries c.note_use-end.new.contexts.entries id read (c.note_use-end.ensures.read context stands))
    ∙ ap (λ (p : Pits). record p { standing = finite.insert p.standing id read }) c.self.view_is
