use Rattle.std.proofs.Common.{length}
use Rattle.task_events.specs.declared.history.TheConstants.{MAX_EVENTS}
use Rattle.world_steps.proofs.Passing.{less_left}
use Rattle.world_steps.proofs.Emptying.{round_longer, drained_on, drained_whole, drained_partly, drained_stops, closing_on, ticked_partly, ticked_stops}
use Rattle.world_steps.proofs.draining.empty.Goals as goal

pub returns-in-Err-clause-part : goal.returns-in-Err-clause-part
returns-in-Err-clause-part c = drained_partly c.args.state.now c.loop-stop.state c.loop-stop.ready c.loop-stop.invariant c.settle.new.state.history c.in-Err.ensures.part

pub returns-in-Err-clause-stop : goal.returns-in-Err-clause-stop
returns-in-Err-clause-stop c = drained_stops c.args.state.now c.loop-stop.state c.loop-stop.ready c.loop-stop.invariant c.settle.new.state.history c.in-Err.stop c.in-Err.ensures.stop

pub tick_to-requires-clause-closing : goal.tick_to-requires-clause-closing
tick_to-requires-clause-closing c = closing_on c.args.state.now c.loop-stop.state c.loop-stop.ready c.loop-stop.invariant c.settle.new.state c.in-Ok.ensures.keeps c.in-Ok.ensures.settled c.requires.closing

pub loop-stop-preserved : goal.loop-stop-preserved
loop-stop-preserved c =
    drained_on c.args.state.now c.loop-stop.state c.loop-stop.ready c.loop-stop.invariant c.settle.new.state c.tick_to.new.state c.tick_to.new.ready c.in-Some.due c.in-Ok.ensures.keeps c.in-Ok.ensures.settled c.in-Some.ensures.next
    c.in-Ok-tick_to.ensures.keeps c.in-Ok-tick_to.ensures.happened c.in-Ok-tick_to.ensures.tied c.in-Ok-tick_to.ensures.known

pub returns-in-Err-tick_to-clause-part : goal.returns-in-Err-tick_to-clause-part
returns-in-Err-tick_to-clause-part c =
    ticked_partly c.args.state.now c.loop-stop.state c.loop-stop.ready c.loop-stop.invariant c.settle.new.state c.in-Some.due c.in-Ok.ensures.keeps c.in-Ok.ensures.settled c.in-Some.ensures.next c.tick_to.new.state.history c.in-Err-tick_to.ensures.part

pub returns-in-Err-tick_to-clause-stop : goal.returns-in-Err-tick_to-clause-stop
returns-in-Err-tick_to-clause-stop c =
    ticked_stops c.args.state.now c.loop-stop.state c.loop-stop.ready c.loop-stop.invariant c.settle.new.state c.in-Some.due c.in-Ok.ensures.keeps c.in-Ok.ensures.settled c.in-Some.ensures.next c.tick_to.new.state.history c.in-Err-tick_to.stop c.in-Err-tick_to.ensures.stop

pub returns-in_default-clause-emptied : goal.returns-in_default-clause-emptied
returns-in_default-clause-emptied c =
    drained_whole c.args.state.now c.loop-stop.state c.loop-stop.ready c.loop-stop.invariant c.settle.new.state.history c.in-Ok.ensures.settled c.in_default.ensures.none.nothing_live

pub loop-stop-smaller : goal.loop-stop-smaller
loop-stop-smaller c =
    less_left MAX_EVENTS (length c.loop-stop.state.history) (length c.tick_to.new.state.history) c.in-Ok-tick_to.ensures.room
    (round_longer c.loop-stop.state c.settle.new.state c.in-Some.due c.tick_to.new.state.history c.in-Ok.ensures.settled c.in-Ok-tick_to.ensures.happened)
