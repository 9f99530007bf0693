-- A new core belongs to the seat of a new board.
use Rattle.std.proofs.Common.{◌≡◌, length, sym, ap, ◌∙◌}
use Rattle.control_worker.specs.View.{view_of, new_view}
use Rattle.control_worker.proofs.Belonging.{together_new}
use Rattle.control_kind_tests.proofs.tests.run_between.Goals as goal

pub new-kind-requires-clause-together : goal.new-kind-requires-clause-together
new-kind-requires-clause-together g c κs within =
    let size : length c.new-seat.result.seat.marked.items ≡ 4 = ap (λ s. length s.marked.items) c.new-seat.ensures.is.1 ∙ c.in_ok-board.ensures.control.0 in
    together_new _ _ _ (view_of c.in_ok-core.core) 1 c.args.workers c.new-seat.ensures.fresh (c.in_ok-core.ensures.new ∙ ap (new_view 1 c.args.workers) (sym size))
