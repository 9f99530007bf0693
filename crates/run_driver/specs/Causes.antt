-- Why the driver comes to an early end.
use Rattle.std.specs.Prelude.{◌≡◌, ◌⊎◌, ℕ, Contains}
use Rattle.task_events.specs.declared.stop.Stop.{Stop}
use Rattle.task_events.specs.declared.stop.Stop.TheVariants.{Memory}
use Rattle.node_link.specs.declared.body.Body.{Body}
use Rattle.node_link.specs.declared.body.Body.TheVariants.{Stopped}
use Rattle.node_link.specs.declared.ends.Receiver.{Receiver}
use Rattle.node_link.specs.Inbox.{got}

-- a letter that was taken out of this inbox tells that a worker has stopped for this cause
abbrev pub HasHeard : Receiver Body → Stop → Type 0
HasHeard inbox stop = (from : ℕ) × Contains (got inbox) (record { from = from; letter = Stopped stop })

-- want of memory, or the cause that a letter tells
abbrev pub IsCauseAt : Receiver Body → Stop → Type 0
IsCauseAt inbox stop = HasHeard inbox stop ⊎ (stop ≡ Memory)
