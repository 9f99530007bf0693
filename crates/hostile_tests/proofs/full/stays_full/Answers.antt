use Rattle.std.proofs.Common.{[]}
use Rattle.world_steps.proofs.Fitting.{all_can}
use Rattle.hostile_tests.proofs.full.stays_full.Goals as goal

pub new-requires-2-clause-can : goal.new-requires-2-clause-can
new-requires-2-clause-can c = all_can 1 [] _ c.in-Ok.ensures.fits
