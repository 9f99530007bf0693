use Rattle.std.proofs.Common.{◌≡◌, filter_map, take}
use Rattle.search_phase.specs.FetchPhase.{hit_by}
use Rattle.search_phase.proofs.answer.hits_of_winners.Given as goal

abbrev pub invariant-loop-key : goal.invariant-loop-key
invariant-loop-key l = l.hits.items ≡ filter_map (hit_by l.fetches l.answers) (take l.key-index l.won)
