use Rattle.world_steps.proofs.Shuffled.{delivery_stops_move, listing_stops_move, step_stops_move}
use Rattle.world_steps.proofs.shuffling.make.Goals as goal

pub returns-in-Deliver-clause-stop : goal.returns-in-Deliver-clause-stop
returns-in-Deliver-clause-stop c =
    let s = c.args.state.now in
    delivery_stops_move s.cluster s.corpus.now s.script.now c.args.chosen s.history _ c.in-Deliver.nth c.deliver_and_refresh.result c.in-Deliver.is c.deliver_and_refresh.ensures.stop

pub returns-in-Err-clause-stop : goal.returns-in-Err-clause-stop
returns-in-Err-clause-stop c =
    let s = c.args.state.now in
    listing_stops_move s.cluster s.corpus.now s.script.now c.args.chosen s.history _ c.in-List.listing c.in-Err.stop c.in-List.is c.in-Err.ensures.stop

pub returns-in-Err-step_and_refresh-clause-stop : goal.returns-in-Err-step_and_refresh-clause-stop
returns-in-Err-step_and_refresh-clause-stop c =
    let s = c.args.state.now in
    step_stops_move s.cluster s.corpus.now s.script.now c.args.chosen s.history _ c.in-Step.task c.in-Err-step_and_refresh.stop c.in-Step.is c.in-Err-step_and_refresh.ensures.stop
