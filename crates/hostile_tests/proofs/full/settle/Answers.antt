use Rattle.hostile_tests.proofs.Settling.{last_settling}
use Rattle.hostile_tests.proofs.full.settle.Goals as goal

pub returns-clause-begun : goal.returns-clause-begun
returns-clause-begun c = let w = c.args.world.now in last_settling w.cluster w.corpus w.script w.past c.settle.new.self.past c.settle.result c.settle.ensures.settled c.settle.ensures.part
