use Rattle.std.proofs.Common.{◌≡◌, map, take, flat_map}
use Rattle.search_phase.proofs.merging.keys_of.Given as goal

abbrev pub invariant-loop-top : goal.invariant-loop-top
invariant-loop-top l = map (λ key. key.now) l.keys.items ≡ flat_map (λ top. top.keys) (take l.top-index l.tops)
