use Rattle.std.proofs.Common.{◌∙◌, Some, ap, sym, rules, ◌≡◌, Err}
use Rattle.task_events.specs.declared.request.Request.{Request}
use Rattle.task_events.specs.declared.stop.Stop.TheVariants.{HistoryFull}
use Rattle.world_steps.proofs.RootCuts.{root_cut}
use Rattle.world_steps.proofs.roots.start_reindex.Goals as goal

pub start_with-started-requires-clause-asked : goal.start_with-started-requires-clause-asked
start_with-started-requires-clause-asked c = c.requires.asked ∙ ap (λ (x : Request). Some x) (sym c.in_ok-request.ensures.request)

pub returns-in_err-check_room-clause-full : goal.returns-in_err-check_room-clause-full
returns-in_err-check_room-clause-full c = λ failed.
    let s = c.args.state.now in
    let is : c.check_room.result ≡ Err HistoryFull = search rules in
    root_cut s.cluster s.history c.args.command c.args.node c.requires.low c.requires.high
    (λ lacks. absurd (let spent = c.check_room.ensures.spent.1 lacks in cc)) (c.check_room.ensures.full is)
