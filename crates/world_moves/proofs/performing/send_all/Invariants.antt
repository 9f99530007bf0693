use Rattle.std.proofs.Common.{◌≡◌, ◌++◌, take}
use Rattle.world_moves.specs.Acts.{messages_in}
use Rattle.world_moves.proofs.performing.send_all.Given as goal

abbrev pub invariant-loop-act : goal.invariant-loop-act
invariant-loop-act l = record { sent : l.flight ≡ l.initial.flight ++ messages_in l.node (take l.act-index l.acts) }
