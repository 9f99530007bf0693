-- What contracts see of a ticket.
use Rattle.std.specs.Prelude.{Option}
use Rattle.task_ids.specs.declared.task_id.TaskId.{TaskId}
use Rattle.child_track.specs.Token.{Token}

-- a task, and the token of the ask that asked for it
pub record TicketParts : Type 0 where
  pub id : TaskId
  pub token : Option Token
