use Rattle.std.proofs.Common.{◌≡◌, ◌∙◌, ◌-◌, ap, sym, Some}
use Rattle.std.specs.Prelude.{Ok, Err}
use Rattle.std.specs.FinMap.{get}
use Rattle.task_events.specs.declared.request.Request.TheVariants.{Scroll}
use Rattle.task_events.specs.Contexts.{after_taking, with_use}
use Rattle.scroll_table.specs.Contexts.{answer_for}
use Rattle.world_moves.specs.Paging.{context_in}
use Rattle.world_moves.proofs.ContextTables.{read_at, own, called, found_ok, stands_for, takes_another, changed_one, within}
use Rattle.world_moves.proofs.pages.take_asked.Goals as goal

pub unreachable-requires : goal.unreachable-requires
unreachable-requires c =
    let tables = c.args.contexts.now.items in
    let ask = c.args.ask in
    let table = c.index_mut-table.result.now in
    let found = found_ok (answer_for ask.owner c.args.now (context_in tables ask.id)) c.requires.usable in
    let stood = stands_for ask.owner c.args.now (context_in tables ask.id) found.0 found.1 in
    let there = read_at tables (ask.id.node - 1) table (within tables ask.id found.0 stood) c.index_mut-table.ensures.value in
    let refused = (c.page.ensures.refused c.in-Err.field-0).0 c.in-Err.is in
    let f : Err c.in-Err.field-0 ≡ Ok found.0 = sym refused ∙ ap (answer_for ask.owner c.args.now) (sym (own tables ask.id table table there)) ∙ found.1 in
    cc

pub returns-clause-taken : goal.returns-clause-taken
returns-clause-taken c q =
    let tables = c.args.contexts.now.items in
    let ask = c.args.ask in
    let user = c.args.user in
    let table = c.index_mut-table.result.now in
    let found = found_ok (answer_for ask.owner c.args.now (context_in tables ask.id)) c.requires.usable in
    let stood = stands_for ask.owner c.args.now (context_in tables ask.id) found.0 found.1 in
    let there = read_at tables (ask.id.node - 1) table (within tables ask.id found.0 stood) c.index_mut-table.ensures.value in
    let answers = ap (answer_for ask.owner c.args.now) (sym (own tables ask.id table table there)) ∙ found.1 in
    let stands = stands_for ask.owner c.args.now (get table ask.id) found.0 answers in
    let used = c.page.ensures.used found.0 answers in
    called tables ask.id table c.page.new.self there (after_taking c.args.now user (Some (Scroll ask))) (λ q. ap (λ t. get t q) used ∙ changed_one table ask.id (with_use c.args.now ask.keep user) found.0 stands q) (takes_another c.args.now user ask) q
