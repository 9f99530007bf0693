use Rattle.std.proofs.Common.{◌≡◌, ◌≤◌, map, drop, length}
use Rattle.task_events.specs.FetchTask.{are_among}
use Rattle.search_phase.proofs.possible.are_among.Given as goal

abbrev pub invariant-loop-place : goal.invariant-loop-place
invariant-loop-place l = (l.found ≤ length l.hits) × (are_among (map (λ hit. hit.place) l.hits) l.places ≡ are_among (map (λ hit. hit.place) (drop l.found l.hits)) (drop l.place-index l.places))
