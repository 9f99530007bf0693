-- The calls of a worker on its board, each with what it was asked and what was answered. No code has a value of these.
use Rattle.std.specs.Prelude.{ℕ, Bool, List, Option, Result}
use Rattle.task_ids.specs.declared.task_id.TaskId.{TaskId}
use Rattle.child_track.specs.declared.nodes.NodeSet.{NodeSet}
use Rattle.task_table.specs.TicketParts.{TicketParts}
use Rattle.task_table.specs.declared.answers.Check.{Check}
use Rattle.task_table.specs.declared.answers.Track.{Track}
use Rattle.task_table.specs.declared.answers.NoRoom.{NoRoom}
use Rattle.task_table.specs.declared.ended.MarkAnswer.{MarkAnswer}

-- Drew which number; claimed with a number and a parent, or found no slot; of a ticket, how its check came out, what a track to a node was told, from which node it was untracked, which mark a look saw, and with which mark it ended
pub data DataCall : Type 0 where
  draw : Option ℕ → DataCall
  claim : ℕ → Option TaskId → Bool → DataCall
  check : TicketParts → Check → DataCall
  track : TicketParts → ℕ → Track → DataCall
  untrack : TicketParts → ℕ → DataCall
  look : TicketParts → Option ℕ → DataCall
  end : TicketParts → Option ℕ → DataCall

-- Put the ban of a parent with a cancel, at which place; listed the ban at a place, with the numbers handed over; what came of marking a number with a cancel; which nodes the mask of a number had; whether the ban of a parent was taken away
pub data ControlCall : Type 0 where
  ban : TaskId → ℕ → Result ℕ NoRoom → ControlCall
  list : ℕ → List ℕ → ControlCall
  mark : ℕ → ℕ → MarkAnswer → ControlCall
  mask : ℕ → NodeSet → ControlCall
  unban : TaskId → Bool → ControlCall
