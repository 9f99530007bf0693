-- A new core belongs to a seat with no ban.
use Rattle.std.proofs.Common.{sym, ap, ◌∙◌}
use Rattle.control_worker.specs.View.{view_of, new_view}
use Rattle.control_worker.proofs.Belonging.{together_new}
use Rattle.thread_tests.proofs.threads.new_worker.Goals as goal

pub new-kind-requires-clause-together : goal.new-kind-requires-clause-together
new-kind-requires-clause-together g c κs within = together_new _ _ _ (view_of c.in_ok-core.core) 1 1 c.requires.fresh (c.in_ok-core.ensures.new ∙ ap (new_view 1 1) (sym c.requires.slots))
