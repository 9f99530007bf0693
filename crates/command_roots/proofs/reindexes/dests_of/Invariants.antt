use Rattle.std.proofs.Common.{◌≡◌, take}
use Rattle.command_roots.specs.Known.{dests_of}
use Rattle.command_roots.proofs.reindexes.dests_of.Given as goal

-- the indices of the commands so far
abbrev pub invariant-loop-command : goal.invariant-loop-command
invariant-loop-command l = l.dests.items ≡ dests_of (take l.command-index l.commands)
