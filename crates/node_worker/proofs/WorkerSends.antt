-- A worker, and what it leaves, may go to another thread where its kind may.
use denote.RattleType.{RattleType}
use denote.Param.Send.{IsSend, sendable}
use Rattle.std.proofs.Crossing.{crosses}
use Rattle.task_ids.specs.declared.board_name.BoardName as board
use Rattle.node_link.specs.declared.name.RunName as run
use Rattle.node_link.proofs.LetterSends.{letter_send}
use Rattle.node_link.proofs.ends.Receiver.TheSendSync as receiver
use Rattle.node_link.proofs.ends.Sender.TheSendSync as sender
use Rattle.node_worker.proofs.worker.WorkerOut.TheSendSync as out
use Rattle.node_worker.specs.contracts.worker.Rest as Rest
use Rattle.node_worker.specs.contracts.worker.Worker as Worker
use Rattle.node_worker.specs.contracts.worker.WorkerOut as WorkerOut
use Rattle.node_worker.specs.declared.turns.Turns as turns

ruleset ends = (letter_send, receiver.the_field_send, sender.the_send)

module _ (N T : RattleType) (r : run.Ghosts N.Denot) (b : board.Ghosts N.Denot) where
  pub worker_send : (t : turns.Ghosts T.Denot N.Denot) → IsSend T → IsSend (Worker.the_row N T r b t)
  worker_send t s = search (ends, sendable, crosses) depth 20

  pub out_send : IsSend T → IsSend (WorkerOut.the_row (Rest.the_row N T r b))
  out_send s = let rest : IsSend (Rest.the_row N T r b) = search (ends, sendable, crosses) depth 20 in out.the_send (Rest.the_row N T r b) rest
