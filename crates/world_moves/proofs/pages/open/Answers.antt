use Rattle.std.proofs.Common.{◌≡◌, ◌∙◌, ◌-◌, ap, sym, cond, Some, arith}
use Rattle.std.specs.FinMap.{get}
use Rattle.task_events.specs.Same.{same_task}
use Rattle.world_moves.specs.Paging.{context_in, after_opening}
use Rattle.world_moves.proofs.ContextTables.{read_at, called, opens_another, inserted}
use Rattle.world_moves.proofs.pages.open.Goals as goal

pub returns-in-Ok-clause-opened : goal.returns-in-Ok-clause-opened
returns-in-Ok-clause-opened c q =
    let tables = c.args.contexts.now.items in
    let id = c.args.task in
    let table = c.index_mut.result.now in
    let context = c.in-Some.context in
    let is : context.id ≡ id = c.requires.own context c.in-Some.is in
    let there = read_at tables (id.node - 1) table (omega (arith, c.requires.there, id.node_in_range.0)) c.index_mut.ensures.value in
    called tables id table c.start.new.self there (after_opening (Some context) id) (λ q. ap (λ t. get t q) c.in-Ok.ensures.ok ∙ inserted table context.id context q ∙ ap (λ i. cond (same_task i q) (Some context) (get table q)) is) (opens_another id context) q
    ∙ ap (λ o. after_opening o id q (context_in tables q)) (sym c.in-Some.is)
