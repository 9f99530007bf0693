use Rattle.std.proofs.Common.{◌∙◌, ◌-◌, ap, sym, arith, Some}
use Rattle.task_events.specs.Contexts.{after_begin}
use Rattle.std.specs.FinMap.{get}
use Rattle.world_moves.specs.Paging.{context_in}
use Rattle.world_moves.proofs.ContextTables.{read_at, called, cleared_one, clears_another, none_there, clears_none}
use Rattle.world_moves.proofs.pages.clear.Goals as goal

pub returns-then-place-len-clause-cleared : goal.returns-then-place-len-clause-cleared
returns-then-place-len-clause-cleared c q =
    let tables = c.args.contexts.now.items in
    let id = c.in-Some.id in
    let table = c.index_mut.result.now in
    let there = read_at tables (id.node - 1) table (omega (arith, c.if-place-len.true)) c.index_mut.ensures.value in
    let here = called tables id table c.clear.new.self there (after_begin (Some id)) (λ q. ap (λ t. get t q) c.clear.ensures.cleared ∙ cleared_one table id c.clear.result c.clear.ensures.can q) (clears_another id) q in
    here ∙ ap (λ o. after_begin o q (context_in tables q)) (sym c.in-Some.is)

pub returns-else-place-len-clause-cleared : goal.returns-else-place-len-clause-cleared
returns-else-place-len-clause-cleared c q =
    let tables = c.args.contexts.now.items in
    let id = c.in-Some.id in
    clears_none tables id q (none_there tables id (omega (arith, c.if-place-len.false, c.len.ensures))) ∙ ap (λ o. after_begin o q (context_in tables q)) (sym c.in-Some.is)
