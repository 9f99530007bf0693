use Rattle.std.proofs.Common.{◌≡◌, ◌*◌}
use Rattle.task_events.specs.Cancels.{last_command}
use Rattle.hostile_tests.proofs.full.fill.Given as goal

-- ten commands have begun each time, and all but the past of the world is as it was
abbrev pub invariant-loop-time : goal.invariant-loop-time
invariant-loop-time l = record {
  begun : last_command l.world.past ≡ 10 * l.time;
  keeps : l.world ≡ record l.fn.world { past = l.world.past; stopped = l.world.stopped };
}
