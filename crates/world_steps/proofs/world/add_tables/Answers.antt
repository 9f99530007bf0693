use Rattle.std.proofs.Common.{rules, ◌+◌, arith}
use Rattle.std.proofs.lemmas.List.FromFn.{map-range_with_len_more}
use Rattle.task_table.specs.Table.{new_table}
use Rattle.world_steps.proofs.world.add_tables.Goals as goal

pub loop-place-init : goal.loop-place-init
loop-place-init c = search rules

pub loop-place-preserved : goal.loop-place-preserved
loop-place-preserved c =
    let more = map-range_with_len_more (λ place. new_table (place + 1) c.args.cluster.now.slots) 0 c.loop-place.place c.loop-place.place (omega arith) in
    search (rules, more)

pub returns : goal.returns
returns c = search rules
