-- What a refused push gives back.
use Rattle.task_events.specs.declared.event.Event.{Event}
use Rattle.task_events.specs.declared.history.PushError.{PushError}
use Rattle.task_events.specs.declared.history.PushError.TheVariants.{Full, Memory}

abbrev pub returned : PushError → Event
returned (Full event) = event
returned (Memory event) = event
