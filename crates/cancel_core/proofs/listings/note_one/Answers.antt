use Rattle.std.proofs.Common.{◌≡◌, List, [], ◌∷◌, ◌++◌, Bool, true, cond, sym, ap, ◌∙◌}
use Rattle.std.specs.FinMap.{insert, from_entries}
use Rattle.task_ids.specs.declared.task_id.TaskId.{TaskId}
use Rattle.task_ids.proofs.TaskIdKeys.{one_put}
use Rattle.cancel_core.specs.Fields.{map_of}
use Rattle.cancel_core.specs.Listings.{is_to_note, taken_back}
use Rattle.cancel_core.proofs.Noting.{to_note_absent, back_after_put, back_after_none}
use Rattle.cancel_core.proofs.listings.note_one.Goals as goal

pub returns-in_ok-insert-clause-waits : goal.returns-in_ok-insert-clause-waits
returns-in_ok-insert-clause-waits c =
    let waits = map_of c.args.waits.now in
    let to_note : is_to_note (map_of c.args.entries.now) waits c.args.child ≡ true = sym c.is_to_note.ensures ∙ c.if-is_to_note.true in
    one_put c.args.waits.now.entries c.insert.new.self.entries c.args.child c.args.parent c.in_ok-insert.ensures.updates.0
    ∙ sym (ap (λ (b : Bool). cond b (insert waits c.args.child c.args.parent) waits) to_note)

pub returns-in_ok-insert-clause-back : goal.returns-in_ok-insert-clause-back
returns-in_ok-insert-clause-back c =
    let waits = map_of c.args.waits.now in
    let fresh = c.args.fresh.now.items in
    let absent = to_note_absent (map_of c.args.entries.now) waits c.args.child (sym c.is_to_note.ensures ∙ c.if-is_to_note.true) in
    ap (λ (ts : List TaskId). taken_back ts (map_of c.insert.new.self)) c.in_ok-push.ensures.items
    ∙ ap (taken_back (fresh ++ c.args.child ∷ [])) (one_put c.args.waits.now.entries c.insert.new.self.entries c.args.child c.args.parent c.in_ok-insert.ensures.updates.0)
    ∙ back_after_put fresh c.args.child c.args.parent waits absent

pub returns-in_err-insert-clause-back : goal.returns-in_err-insert-clause-back
returns-in_err-insert-clause-back c =
    let waits = map_of c.args.waits.now in
    let fresh = c.args.fresh.now.items in
    let absent = to_note_absent (map_of c.args.entries.now) waits c.args.child (sym c.is_to_note.ensures ∙ c.if-is_to_note.true) in
    ap (λ (ts : List TaskId). taken_back ts (map_of c.insert.new.self)) c.in_ok-push.ensures.items
    ∙ ap (λ (es : List (TaskId × TaskId)). taken_back (fresh ++ c.args.child ∷ []) (from_entries es)) c.in_err-insert.ensures.err
    ∙ back_after_none fresh c.args.child waits absent
