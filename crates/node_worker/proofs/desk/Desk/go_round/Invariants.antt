use Rattle.node_worker.specs.Work.{stand, Did}
use Rattle.node_worker.proofs.desk.Desk.go_round.Given as goal

abbrev pub invariant-loop : goal.invariant-loop
invariant-loop g l =
    (goal.iterator-loop g).can_next l.iterator' × (goal.iterator-loop g).is_finite l.iterator'
    × g.T.Turns.fits l.self.worker
    × Did g.T.Turns.did (stand l.initial.self) (stand l.self)
