use Rattle.std.proofs.Common.{◌≡◌, map, take}
use Rattle.search_phase.specs.FetchPhase.{tops_of}
use Rattle.search_phase.proofs.fetching.tops_of.Given as goal

abbrev pub invariant-loop-a : goal.invariant-loop-a
invariant-loop-a l = map (λ top. top.now) l.tops.items ≡ tops_of (take l.a-index l.asked)
