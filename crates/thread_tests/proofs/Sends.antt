-- By which lemmas a control worker over a board, and what it leaves, may go to another thread.
use denote.Param.Send.{sendable}
use Rattle.std.proofs.Crossing.{crosses}
use Rattle.es_io.proofs.gate.OpenGate.TheSendSync as gate
use Rattle.node_worker.proofs.WorkerSends.{worker_send, out_send}
use Rattle.node_worker.proofs.control.ControlKind.TheSendSync as kind

pub ruleset control_sends = (worker_send, out_send, kind.the_send, gate.the_sync, sendable, crosses)
