-- A new core belongs to a seat with no ban.
use Rattle.std.proofs.Common.{◌≡◌, sym, ap, ◌∙◌}
use Rattle.task_ids.specs.Limits.{IsCancel}
use Rattle.control_worker.specs.View.{view_of, new_view}
use Rattle.control_worker.proofs.Belonging.{together_new}
use Rattle.control_worker_tests.proofs.turns.new_core.Goals as goal

pub returns : goal.returns
returns g c = together_new _ _ IsCancel (view_of c.in_ok-core.core) 1 c.args.workers c.requires.fresh (c.in_ok-core.ensures.new ∙ ap (new_view 1 c.args.workers) (sym c.requires.slots))
