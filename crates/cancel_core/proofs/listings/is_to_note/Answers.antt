use Rattle.std.proofs.Common.{Some, None, not, ◌&&◌, is_some, sym, ap, ◌∙◌}
use Rattle.task_ids.proofs.TaskIdKeys.{value_at}
use Rattle.cancel_core.proofs.Noting.{to_note_at}
use Rattle.cancel_core.proofs.listings.is_to_note.Goals as goal

pub returns-then-not-has_stopped : goal.returns-then-not-has_stopped
returns-then-not-has_stopped c =
    let waits = c.args.waits.now.entries in
    let child = c.args.child.now in
    ap not c.contains_key.ensures
    ∙ sym (to_note_at c.args.entries.now.entries waits child (Some c.in-Some.entry.now) (sym c.in-Some.ensures.value) ∙ ap (λ b. not b && not (is_some (value_at waits child))) (sym c.has_stopped.ensures ∙ c.if-not-has_stopped.true))

pub returns-else-not-has_stopped : goal.returns-else-not-has_stopped
returns-else-not-has_stopped c =
    let waits = c.args.waits.now.entries in
    let child = c.args.child.now in
    ap not c.if-not-has_stopped.false
    ∙ sym (to_note_at c.args.entries.now.entries waits child (Some c.in-Some.entry.now) (sym c.in-Some.ensures.value) ∙ ap (λ b. not b && not (is_some (value_at waits child))) (sym c.has_stopped.ensures ∙ c.if-not-has_stopped.false))

pub returns-in-None : goal.returns-in-None
returns-in-None c = sym (to_note_at c.args.entries.now.entries c.args.waits.now.entries c.args.child.now None (sym c.in-None.ensures.value))
