use Rattle.std.proofs.Common.{◌≡◌}
use Rattle.task_events.specs.Cancels.{last_command}
use Rattle.hostile_tests.proofs.full.begin_together.Given as goal

-- the commands before this one have begun, and all but the past of the world is as it was
abbrev pub invariant-loop-k : goal.invariant-loop-k
invariant-loop-k l = record {
  begun : last_command l.world.past ≡ l.k;
  keeps : l.world ≡ record l.fn.world { past = l.world.past; stopped = l.world.stopped };
}
