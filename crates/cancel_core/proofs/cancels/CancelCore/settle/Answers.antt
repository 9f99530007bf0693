use Rattle.std.proofs.Common.{List, ◌++◌, ap, ◌∙◌}
use Rattle.cancel_core.specs.declared.act.Waiter.{Waiter}
use Rattle.cancel_core.specs.Acts.{due_acts}
use Rattle.cancel_core.specs.Cancellation.{rest_of}
use Rattle.cancel_core.specs.Cancellations.{entry_of}
use Rattle.cancel_core.specs.Fields.{map_of}
use Rattle.cancel_core.specs.Listings.{left_by, leaving_acts}
use Rattle.cancel_core.specs.Stage.{seen}
use Rattle.cancel_core.proofs.Entries.{entry_there, entry_changed}
use Rattle.cancel_core.proofs.cancels.CancelCore.settle.Goals as goal

pub returns-clause-acts : goal.returns-clause-acts
returns-clause-acts c =
    let due = c.in_ok-acts.ensures ∙ ap (λ (ws : List Waiter). due_acts c.args.task (seen c.args.stage.now ws)) c.waiters.ensures.waiters in
    c.in_ok-add_ack.ensures c.self.inside.node (map_of c.self.inside.entries)
    ∙ (λ i. due i ++ leaving_acts (c.self.view_is i) c.args.task (c.has_stopped-stopped.ensures i))

pub returns-clause-settled : goal.returns-clause-settled
returns-clause-settled c =
    let there = entry_there c.self.inside.node c.self.inside.entries.entries c.self.inside.listings c.args.self.now c.self.view_is c.args.task c.requires in
    let changed =
    entry_changed c.self.inside.node c.self.inside.entries.entries c.self.inside.listings c.args.self.now c.self.view_is c.settle_in.new.entries.entries c.args.task
    (rest_of (seen c.args.stage.now (entry_of c.args.self.now c.args.task).waiters)) (c.settle_in.ensures (entry_of c.args.self.now c.args.task) there) in
    c.leave.ensures c.self.inside.node (map_of c.settle_in.new.entries) ∙ (λ i. left_by (changed i) c.args.task (c.has_stopped-stopped.ensures i))
