-- The driver's inbox comes after those of all nodes of the core's cluster.
use Rattle.std.proofs.Common.{◌∙◌}
use Rattle.run_facts.specs.Inboxes.{driver_of}
use Rattle.data_worker.proofs.kind.DataKindTurnsOf.farewell.Goals as goal

pub returns : goal.returns
returns g c = (c.new.ensures, c.driver_of.ensures ∙ (λ i. driver_of (c.workers.ensures.workers i) (c.nodes.ensures.nodes i)))
