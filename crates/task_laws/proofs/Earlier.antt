-- What was lawful at a later moment was so before.
use Rattle.std.proofs.Common.{List, [], ◌∷◌, ◌++◌}
use Rattle.task_ids.specs.declared.cluster.Cluster.{Cluster}
use Rattle.task_events.specs.declared.event.Event.{Event}
use Rattle.task_events.specs.Lawful.{Lawful}

pub earlier_lawful : (cluster : Cluster) (later h : List Event) → Lawful cluster (later ++ h) → Lawful cluster h
earlier_lawful cluster [] h l = l
earlier_lawful cluster (e ∷ later) h l = earlier_lawful cluster later h l.1
