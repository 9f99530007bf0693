use Rattle.std.proofs.Common.{arith}
use Rattle.world_steps.proofs.NextDue.{next, later, none}
use Rattle.world_steps.proofs.draining.next_due.Goals as goal

pub returns-clause-next : goal.returns-clause-next
returns-clause-next c = next c.args.state.now c.args.ready.now c.requires.tied c.requires.known c.least.result c.least.ensures.there c.least.ensures.least

pub returns-clause-later : goal.returns-clause-later
returns-clause-later c = later c.args.state.now c.args.ready.now c.requires.tied c.requires.known c.least.result c.least.ensures.there

pub returns-clause-none : goal.returns-clause-none
returns-clause-none c = none c.args.state.now c.args.ready.now c.requires.tied c.requires.known (let left = c.left-left.ensures in omega (arith, left)) c.least.result c.least.ensures.none c.requires.settled
