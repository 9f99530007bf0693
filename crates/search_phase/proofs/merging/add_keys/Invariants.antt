use Rattle.std.proofs.Common.{◌≡◌, ◌++◌, map, take}
use Rattle.search_phase.proofs.merging.add_keys.Given as goal

abbrev pub invariant-loop-key : goal.invariant-loop-key
invariant-loop-key l = map (λ key. key.now) l.keys.items ≡ map (λ key. key.now) l.initial.keys.items ++ take l.key-index l.more
