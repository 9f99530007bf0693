-- A data worker may go to another thread where its seat of the board may.
use denote.RattleType.{RattleType}
use denote.Param.Send.{IsSend, IsSync, sendable}
use denote.Ref.{NamedLft}
use Rattle.std.proofs.Crossing.{crosses}
use Rattle.task_ids.proofs.task_id.TaskId.TheSendSync as task_id
use Rattle.data_core.proofs.CoreSends.{core_field_send}
use Rattle.data_worker.specs.contracts.kind.DataKind as DataKind
use Rattle.data_worker.specs.contracts.state.DataState as DataState

module _ (W B : RattleType) where
  state_send : IsSend B → IsSend (DataState.the_field W B).row
  state_send s = search (core_field_send, task_id.the_send, sendable, crosses) depth 20

  pub kind_send : (g : NamedLft) (G : RattleType) → IsSend B → IsSync G → IsSend (DataKind.the_row g W B G)
  kind_send g G s y = let state = state_send s in search (sendable, crosses) depth 20
