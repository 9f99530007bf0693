use Rattle.std.proofs.Common.{sym, ◌∙◌, rules}
use Rattle.cancel_core.specs.Stage.{seen}
use Rattle.cancel_core.proofs.Placed.{not_due, due_when_placed}
use Rattle.cancel_core.proofs.due.due.Goals as goal

pub returns-then-not-is_placed : goal.returns-then-not-is_placed
returns-then-not-is_placed c =
    c.new.ensures.items ∙ sym (not_due c.args.task (seen c.args.stage.now c.args.waiters.now) c.is_placed.result c.is_placed.ensures c.if-not-is_placed.true)

pub returns : goal.returns
returns c =
    let due = due_when_placed c.args.task (seen c.args.stage.now c.args.waiters.now) c.is_placed.result c.is_placed.ensures c.if-not-is_placed.false in
    rw due (search rules)
