use Rattle.std.proofs.Common.{◌≡◌}
use Rattle.task_top.specs.Progress.{HasCome}
use Rattle.task_top.proofs.run.run_commands.Given as goal

-- so many commands have run, and all but the past of the world is as it was
abbrev pub invariant-loop-place : goal.invariant-loop-place
invariant-loop-place l = record {
  come : HasCome l.script l.place l.found.items l.world;
  keeps : l.world ≡ record l.fn.world { past = l.world.past; stopped = l.world.stopped };
}
