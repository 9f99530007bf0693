use Rattle.std.proofs.Common.{Ok, ap, length}
use Rattle.task_events.specs.declared.history.TheConstants.{MAX_EVENTS}
use Rattle.world_steps.proofs.Passing.{less_left, move_longer, settled_on, partly_on, stops_on}
use Rattle.world_steps.proofs.moving.settle.Goals as goal

pub loop-stop-smaller : goal.loop-stop-smaller
loop-stop-smaller c =
    let s = c.loop-stop.state in
    less_left MAX_EVENTS (length s.history) (length c.move_first.new.state.history) (c.in-Ok-true.ensures.room (ap Ok c.in-Ok-true.field-0-test)) (move_longer s.cluster s.corpus.now s.script.now s.history c.move_first.new.state.history (c.in-Ok-true.ensures.moved (ap Ok c.in-Ok-true.field-0-test)))

pub loop-stop-preserved : goal.loop-stop-preserved
loop-stop-preserved c =
    settled_on c.args.state.now c.loop-stop.state c.move_first.new.state c.loop-stop.ready c.move_first.new.ready c.loop-stop.invariant c.in-Ok-true.ensures.tied c.in-Ok-true.ensures.known c.in-Ok-true.ensures.keeps (c.in-Ok-true.ensures.moved (ap Ok c.in-Ok-true.field-0-test))

pub returns-in-Err-clause-part : goal.returns-in-Err-clause-part
returns-in-Err-clause-part c =
    partly_on c.args.state.now c.loop-stop.state c.move_first.new.state c.loop-stop.ready c.loop-stop.invariant c.in-Err.ensures.part

pub returns-in-Err-clause-stop : goal.returns-in-Err-clause-stop
returns-in-Err-clause-stop c =
    stops_on c.args.state.now c.loop-stop.state c.move_first.new.state c.loop-stop.ready c.loop-stop.invariant c.in-Err.stop c.in-Err.ensures.stop
