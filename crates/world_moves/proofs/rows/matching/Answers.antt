use Rattle.std.proofs.Common.{map, ap, ◌∙◌}
use Rattle.std.specs.List.{flat_map}
use Rattle.tasks_api.specs.Lists.{shown}
use Rattle.world_moves.proofs.RowsOf.{all_ids}
use Rattle.world_moves.proofs.rows.matching.Goals as goal

pub returns-in-Ok-clause-ids : goal.returns-in-Ok-clause-ids
returns-in-Ok-clause-ids c =
    c.in-Ok.ensures ∙ ap (flat_map (λ table. map (λ row. row.id) (shown c.args.wanted.now table.live))) c.as_slice.ensures.value
    ∙ all_ids c.args.state.now c.requires.tied c.args.wanted.now
