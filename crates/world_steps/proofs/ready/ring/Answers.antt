use Rattle.std.proofs.Common.{refl}
use Rattle.world_steps.proofs.Readiness.{one_rung}
use Rattle.world_steps.proofs.ready.ring.Goals as goal

pub loop-task-preserved : goal.loop-task-preserved
loop-task-preserved c =
    let due = c.in-Some.ensures.due in
    one_rung c.args.state.now c.loop-task.ready (record { tasks = c.note_ready.new.tasks; alarms = c.take_due.new.self; results = c.loop-task.ready.results }) c.in-Some.task due.0 due.1 due.2 c.loop-task.invariant c.in-Some.ensures.taken c.in_ok-note_ready.ensures.known c.in-Some.ensures.kept refl
