use Rattle.std.proofs.Common.{rules, ℕ, arith}
use Rattle.std.proofs.lemmas.List.FromFn.{map-range_with_len_more}
use Rattle.std.specs.FinMap.{FinMap, empty}
use Rattle.task_ids.specs.TaskIdOrder.{task_id_cmp}
use Rattle.task_events.specs.declared.context.Context.{Context}
use Rattle.world_steps.proofs.world.new_contexts.Goals as goal

pub loop-place-init : goal.loop-place-init
loop-place-init c = search rules

pub loop-place-preserved : goal.loop-place-preserved
loop-place-preserved c =
    let none : FinMap task_id_cmp Context = empty in
    let more = map-range_with_len_more (λ (place : ℕ). none) 0 c.loop-place.place c.loop-place.place (omega arith) in
    search (rules, more)

pub returns : goal.returns
returns c = search rules
