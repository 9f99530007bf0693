use Rattle.std.proofs.Common.{◌≡◌, take}
use Rattle.held_shards.specs.Held.{HasLines}
use Rattle.held_shards.proofs.HeldShards.new.Given as goal

-- the lines so far are taken in
abbrev pub invariant-loop-line : goal.invariant-loop-line
invariant-loop-line l = record {
  numbers : l.held.numbers ≡ l.fn.numbers;
  lines : HasLines (take l.line-index l.fn.corpus.lines) l.fn.count l.held;
}
