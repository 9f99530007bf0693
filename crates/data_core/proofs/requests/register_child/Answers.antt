-- The child is live and has taken the context of its page, or its request comes again.
use Rattle.std.proofs.Common.{◌≡◌, sym, ap, ◌∙◌, subst}
use Rattle.std.specs.Prelude.{Ok}
use Rattle.data_parts.specs.Slices.{with_use_by}
use Rattle.data_core.specs.Turns.{Requested}
use Rattle.data_core.proofs.Admitted.{requested_so}
use Rattle.data_core.proofs.requests.register_child.Goals as goal

pub returns-in-Task-clause-turned : goal.returns-in-Task-clause-turned
returns-in-Task-clause-turned g c =
    let rests = g.B.DataBoard.rests in
    let b = c.args.board.now in
    let old = c.args.core.now in
    let mid = c.start_child.new.core in
    let d = c.start_child.new.board in
    let asked = c.args.asked in
    let id = c.in-Task.task in
    let contexts = c.use_context.new.contexts in
    subst (λ posts. Requested rests asked b old posts (record mid { contexts = contexts }) d) (sym c.new.ensures.items)
    (requested_so rests asked id b old mid contexts d (c.start_child.ensures.registers id (c.in_ok-task.was ∙ ap Ok c.in-Task.is)) c.start_child.ensures.rest
    (subst (λ n. contexts ≡ with_use_by mid.contexts id asked.request n) c.now-now.ensures.same c.use_context.ensures))
