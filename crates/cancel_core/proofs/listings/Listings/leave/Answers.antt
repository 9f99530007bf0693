use Rattle.std.proofs.Common.{Some, None, sym, ◌∙◌}
use Rattle.task_ids.proofs.TaskIdKeys.{get_id, one_removed}
use Rattle.cancel_core.specs.Fields.{map_of}
use Rattle.cancel_core.proofs.Noting.{removed_absent}
use Rattle.cancel_core.proofs.Leaving.{left_at}
use Rattle.cancel_core.proofs.listings.Listings.leave.Goals as goal

pub returns-in-Some : goal.returns-in-Some
returns-in-Some c node es =
    let waits = c.count_down.ensures.waits ∙ one_removed c.args.self.now.waits.entries c.remove.new.self.entries c.args.task.now c.in-Some.ensures.updates.0 in
    (λ i. record { node = node; entries = es; waits = waits i; listings = c.count_down.ensures.numbers i })
    ∙ sym (left_at node es c.args.self.now c.args.task.now c.args.stopped c.if-not-stopped.false (Some c.in-Some.parent) (sym c.in-Some.ensures.value))

pub returns-in_default : goal.returns-in_default
returns-in_default c node es =
    let old = c.args.self.now.waits.entries in
    let task = c.args.task.now in
    let none = sym c.remove.ensures.value ∙ c.in_default.is in
    let waits = one_removed old c.remove.new.self.entries task c.remove.ensures.updates.0 ∙ removed_absent (map_of c.args.self.now.waits) task (get_id old task ∙ none) in
    (λ i. record { node = node; entries = es; waits = waits i; listings = map_of c.args.self.now.numbers })
    ∙ sym (left_at node es c.args.self.now task c.args.stopped c.if-not-stopped.false None none)
