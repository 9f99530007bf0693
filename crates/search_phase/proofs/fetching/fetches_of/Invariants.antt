use Rattle.std.proofs.Common.{◌≡◌, map, take}
use Rattle.search_phase.specs.FetchPhase.{fetches_for}
use Rattle.search_phase.proofs.fetching.fetches_of.Given as goal

abbrev pub invariant-loop-top : goal.invariant-loop-top
invariant-loop-top l = l.fetches.items ≡ fetches_for l.ask l.won (map (λ top. top.now) (take l.top-index l.tops))
