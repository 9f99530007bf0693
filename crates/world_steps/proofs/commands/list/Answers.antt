use Rattle.world_moves.specs.Listings.{ListSteps}
use Rattle.world_moves.specs.Moves.{IsPartly}
use Rattle.world_moves.proofs.Outcomes.{stops_as}
use Rattle.world_steps.specs.Scripts.{ListsWhere}
use Rattle.world_steps.proofs.Commanded.{partly_lists}
use Rattle.world_steps.proofs.commands.list.Goals as goal

pub returns-in-Err-clause-stop : goal.returns-in-Err-clause-stop
returns-in-Err-clause-stop c =
    let h = c.args.state.now.history in
    stops_as (IsPartly (ListSteps c.args.listing) h) (IsPartly (ListsWhere c.args.listing) h) ⊥ ⊥ c.list_and_refresh.new.state.history c.in-Err.stop (λ past. partly_lists c.args.listing h past) (λ never. never) c.in-Err.ensures.stop
