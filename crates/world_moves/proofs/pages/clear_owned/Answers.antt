use Rattle.std.proofs.Common.{◌≡◌, ◌++◌, ◌∙◌, length, take, drop, ap, sym, refl, subst, arith}
use Rattle.std.proofs.lemmas.List.{length-set}
use Rattle.std.proofs.Math.Seq.{take-append_seam}
use Rattle.std.specs.FinMap.{get}
use Rattle.task_ids.specs.declared.task_id.TaskId.{TaskId}
use Rattle.task_events.specs.Contexts.{without_owned}
use Rattle.world_moves.specs.Paging.{context_in}
use Rattle.world_moves.proofs.ContextTables.{read_at, each_to, each_more, each_done}
use Rattle.world_moves.proofs.pages.clear_owned.Goals as goal

pub loop-table-preserved : goal.loop-table-preserved
loop-table-preserved c =
    let items = c.loop-table.table-items in
    let place = c.loop-table.table-index in
    let there = read_at items place c.table-item.result (omega (arith, c.loop-table-test.true, c.loop-table.auto.table-items)) c.table-item.is in (
      each_more (without_owned c.args.owner) c.args.contexts.now.items items place c.table-item.result c.clear_owned.new.self there c.loop-table.invariant.0 (λ q. c.clear_owned.ensures q ∙ ap (λ x. without_owned c.args.owner (get x q)) (sym c.table-item.is)),
      length-set items place c.clear_owned.new.self ∙ c.loop-table.invariant.1,
    )

pub returns-clause-left : goal.returns-clause-left
returns-clause-left c q =
    let tables = c.args.contexts.now.items in
    let items = c.loop-table.table-items in
    let all : c.loop-table.table-index ≡ length tables = omega (arith, c.loop-table-test.false, c.loop-table.auto.table-index-end, c.deref_mut-table-items.ensures.len, ap length c.deref_mut-table-items.ensures.value) in
    let over = λ (r : TaskId). c.loop-table.invariant.0 r ∙ ap (λ place. each_to (without_owned c.args.owner) place tables r) all in
    let many : length items ≡ c.args.contexts.now.len = c.loop-table.auto.table-items ∙ c.deref_mut-table-items.ensures.len in
    let whole = ap (λ n. take n (items ++ drop (length items) tables)) (sym many) ∙ take-append_seam items (drop (length items) tables) in
    subst (λ xs. context_in xs q ≡ without_owned c.args.owner (context_in tables q)) (sym whole) (each_done (without_owned c.args.owner) tables items refl over q)
