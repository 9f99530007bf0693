use Rattle.std.proofs.Common.{◌≤◌, ◌<◌, ◌^◌, subst, arith}
use Rattle.world_steps.specs.Scripts.{CanDo}
use Rattle.task_top.proofs.run.note_of.Goals as goal

-- a tick is a day at most
pub overflow_add-result : goal.overflow_add-result
overflow_add-result c =
    let low : c.now.result < 2 ^ 43 = c.now.ensures.low c.requires.before in
    let day : c.in-Tick.ms ≤ 86400000 = subst (CanDo c.args.world.now.cluster.nodes) c.in-Tick.is c.requires.can in
    omega (arith, low, day)
