-- The root is live and the driver is told, or its start comes again.
use Rattle.std.proofs.Common.{sym, ap, ◌∙◌}
use Rattle.std.specs.Prelude.{Ok}
use Rattle.data_core.proofs.Admitted.{started_so, sent_one}
use Rattle.data_core.proofs.Cases.{registered_some}
use Rattle.data_core.proofs.starts.register_root.Goals as goal

pub returns-in-Some-clause-turned : goal.returns-in-Some-clause-turned
returns-in-Some-clause-turned g c =
    let id = c.in-Some.task in
    let is = registered_some c.in_ok-start_root.field-0 id (sym c.registered.ensures ∙ c.in-Some.is) in
    started_so g.B.DataBoard.rests (λ posts. posts.items) c.one.result c.args.start id c.args.board.now c.args.core.now c.start_root.new.core c.start_root.new.board
    (sent_one (λ posts. posts.items) c.one.result _ _ c.one.ensures.post c.root_post.ensures)
    (c.start_root.ensures.registers id (c.in_ok-start_root.was ∙ ap Ok is)) c.start_root.ensures.rest
