use Rattle.std.proofs.Common.{rules}
use Rattle.node_worker.specs.Work.{stand, Halted}
use Rattle.node_worker.specs.declared.halt.Halt.TheVariants.{Failed}
use Rattle.node_worker.proofs.Standing.{stopped_failed}
use Rattle.node_worker.proofs.desk.Desk.work.Goals as goal

pub returns-in-Err-Failed-clause-stopped : goal.returns-in-Err-Failed-clause-stopped
returns-in-Err-Failed-clause-stopped g c =
    let halted : Halted g.T.Turns.did (Failed c.in-Err-Failed.stop) (stand c.args.self.now) (stand c.go_round.new.self) = search rules in
    stopped_failed g.T.Turns.did _ (stand c.go_round.new.self) _ _ c.in-Err-Failed.stop c.farewell-farewell.result _ halted c.farewell-farewell.ensures c.stand_by.ensures.heard c.stand_by.ensures.sent
