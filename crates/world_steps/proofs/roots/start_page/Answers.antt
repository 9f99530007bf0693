use Rattle.std.proofs.Common.{◌∙◌, Some, ap, sym, subst, rules, ◌≡◌, Err}
use Rattle.task_events.specs.declared.request.Request.{Request}
use Rattle.world_moves.specs.Paging.{CanTake}
use Rattle.world_steps.proofs.PagesStart.{page_high}
use Rattle.task_events.specs.declared.stop.Stop.TheVariants.{HistoryFull}
use Rattle.world_steps.proofs.RootCuts.{root_cut}
use Rattle.world_steps.proofs.roots.start_page.Goals as goal

pub start_with-started-requires-clause-high : goal.start_with-started-requires-clause-high
start_with-started-requires-clause-high c =
    let s = c.args.state.now in
    page_high s.cluster s.corpus.now s.script.now s.history s.contexts.items c.requires.tied.pages c.requires.tied.ties.lawful s.clock c.args.ask c.requires.usable

pub start_with-started-requires-clause-asked : goal.start_with-started-requires-clause-asked
start_with-started-requires-clause-asked c = c.requires.asked ∙ ap (λ (x : Request). Some x) (sym c.in_ok-request.ensures.request)

pub start_with-started-requires-clause-usable : goal.start_with-started-requires-clause-usable
start_with-started-requires-clause-usable c =
    let s = c.args.state.now in
    subst (CanTake s.clock s.contexts.items) (sym c.in_ok-request.ensures.request) c.requires.usable

pub returns-in_err-check_room-clause-full : goal.returns-in_err-check_room-clause-full
returns-in_err-check_room-clause-full c = λ failed.
    let s = c.args.state.now in
    let is : c.check_room.result ≡ Err HistoryFull = search rules in
    root_cut s.cluster s.history c.args.command c.args.ask.id.node c.args.ask.id.node_in_range.0 (page_high s.cluster s.corpus.now s.script.now s.history s.contexts.items c.requires.tied.pages c.requires.tied.ties.lawful s.clock c.args.ask c.requires.usable)
    (λ lacks. absurd (let spent = c.check_room.ensures.spent.1 lacks in cc)) (c.check_room.ensures.full is)
