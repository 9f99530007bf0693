use Rattle.std.proofs.Common.{inl}
use Rattle.world_steps.proofs.Commanded.{partly_where}
use Rattle.world_moves.specs.Moves.{Delivers, IsPartly}
use Rattle.world_moves.proofs.Outcomes.{stops_as}
use Rattle.world_steps.specs.Scripts.{DeliversWhere}
use Rattle.world_steps.proofs.commands.deliver.Goals as goal

pub returns-in-Ok : goal.returns-in-Ok
returns-in-Ok c = record {
  done = inl c.in-Ok.ensures.delivered;
  tied = c.in-Ok.ensures.tied;
  known = c.in-Ok.ensures.known;
  keeps = c.in-Ok.ensures.keeps;
  part = tt;
  laws = c.in-Ok.ensures.laws;
  stop = tt;
}

pub returns-in-Err : goal.returns-in-Err
returns-in-Err c =
    let s = c.args.state.now in
    record {
      done = tt;
      tied = tt;
      known = tt;
      keeps = c.in-Err.ensures.keeps;
      part = partly_where s.cluster c.args.nth s.history c.deliver_and_refresh.new.state.history c.in-Err.ensures.part;
      laws = c.in-Err.ensures.laws;
      stop = stops_as (IsPartly (λ x y. Delivers s.cluster x c.args.nth y) s.history) (IsPartly (DeliversWhere s.cluster c.args.nth) s.history) _ _ c.deliver_and_refresh.new.state.history c.in-Err.stop
          (λ past. partly_where s.cluster c.args.nth s.history past) (λ lacks. lacks) c.in-Err.ensures.stop;
    }
