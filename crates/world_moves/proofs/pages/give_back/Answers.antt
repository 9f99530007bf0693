use Rattle.std.proofs.Common.{◌∙◌, ◌-◌, ap, sym, Some}
use Rattle.std.specs.FinMap.{get}
use Rattle.task_events.specs.Contexts.{given_back}
use Rattle.world_moves.specs.Paging.{context_in, after_return}
use Rattle.world_moves.proofs.ContextTables.{read_at, own, called, returns_another, stands_used, changed_one, within}
use Rattle.world_moves.proofs.pages.give_back.Goals as goal

pub returns-clause-returned : goal.returns-clause-returned
returns-clause-returned c q =
    let tables = c.args.contexts.now.items in
    let id = c.in-Some.id in
    let now = c.args.now in
    let after = c.args.after in
    let table = c.index_mut.result.now in
    let stood = stands_used (context_in tables id) (c.requires.used id c.in-Some.is) in
    let there = read_at tables (id.node - 1) table (within tables id stood.0 stood.1) c.index_mut.ensures.value in
    let stands = sym (own tables id table table there) ∙ stood.1 in
    called tables id table c.give_back.new.self there (after_return now (Some id) after) (λ q. ap (λ t. get t q) (c.give_back.ensures stood.0 stands) ∙ changed_one table id (given_back after now) stood.0 stands q) (returns_another now id after) q
    ∙ ap (λ page. after_return now page after q (context_in tables q)) (sym c.in-Some.is)
