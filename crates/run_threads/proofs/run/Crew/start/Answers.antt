-- A worker, and what it leaves, may go to another thread, since its kind may.
use denote.Param.Send.{sendable}
use Rattle.std.proofs.Crossing.{crosses}
use Rattle.node_worker.proofs.WorkerSends.{worker_send, out_send}
use Rattle.run_threads.proofs.run.Crew.start.Goals as goal

pub start_each-requires-send-J : goal.start_each-requires-send-J
start_each-requires-send-J g c κs within = let s = c.type_bounds.send-D in search (worker_send, sendable, crosses) depth 20

pub start_each-requires-send-J-Out : goal.start_each-requires-send-J-Out
start_each-requires-send-J-Out g c κs within = let s = c.type_bounds.send-D in search (out_send, sendable, crosses) depth 20

pub start_all-requires-send-J : goal.start_all-requires-send-J
start_all-requires-send-J g c κs within = let s = c.type_bounds.send-C in search (worker_send, sendable, crosses) depth 20

pub start_all-requires-send-J-Out : goal.start_all-requires-send-J-Out
start_all-requires-send-J-Out g c κs within = let s = c.type_bounds.send-C in search (out_send, sendable, crosses) depth 20
