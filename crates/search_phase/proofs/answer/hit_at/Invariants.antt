use Rattle.std.proofs.Common.{◌≡◌, drop, find}
use Rattle.std.specs.Prelude.{◌==◌}
use Rattle.search_phase.proofs.answer.hit_at.Given as goal

abbrev pub invariant-loop-hit : goal.invariant-loop-hit
invariant-loop-hit l = find (λ hit. l.place == hit.place) l.hits ≡ find (λ hit. l.place == hit.place) (drop l.hit-index l.hits)
