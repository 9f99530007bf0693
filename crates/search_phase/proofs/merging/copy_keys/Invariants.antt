use Rattle.std.proofs.Common.{◌≡◌, map, take}
use Rattle.search_phase.proofs.merging.copy_keys.Given as goal

abbrev pub invariant-loop-key : goal.invariant-loop-key
invariant-loop-key l = l.copies.items ≡ map (λ key. key.now) (take l.key-index l.keys)
