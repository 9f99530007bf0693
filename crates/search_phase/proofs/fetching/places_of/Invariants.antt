use Rattle.std.proofs.Common.{◌≡◌, take}
use Rattle.search_phase.specs.FetchPhase.{places_of}
use Rattle.search_phase.proofs.fetching.places_of.Given as goal

abbrev pub invariant-loop-key : goal.invariant-loop-key
invariant-loop-key l = l.places.items ≡ places_of (take l.key-index l.won) l.shard
