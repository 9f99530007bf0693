-- The acts so far are added.
use Rattle.std.proofs.Common.{◌≡◌, ◌++◌, map, take}
use Rattle.control_worker.specs.declared.act.ControlAct.TheVariants.{Core}
use Rattle.control_worker.proofs.cancels.add_acts.Given as goal

abbrev pub invariant-loop-act : goal.invariant-loop-act
invariant-loop-act l = l.acts.items ≡ l.fn.acts.items ++ map Core (take l.act-index l.more)
