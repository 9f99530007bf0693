use Rattle.std.proofs.Common.{ap, ◌∙◌}
use Rattle.std.specs.List.{flat_map}
use Rattle.tasks_api.specs.Lists.{shown}
use Rattle.world_moves.proofs.RowsOf.{all_shown}
use Rattle.world_moves.proofs.rows.rows.Goals as goal

pub returns-in-Ok-clause-rows : goal.returns-in-Ok-clause-rows
returns-in-Ok-clause-rows c =
    c.in-Ok.ensures ∙ ap (flat_map (λ table. shown c.args.wanted.now table.live)) c.as_slice.ensures.value
    ∙ all_shown c.args.state.now c.requires.tied c.args.wanted.now
