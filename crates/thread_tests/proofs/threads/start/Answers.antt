-- The worker and what it leaves may go to another thread, since its board may.
use Rattle.thread_tests.proofs.Sends.{control_sends}
use Rattle.thread_tests.proofs.threads.start.Goals as goal

pub start-requires-send-J : goal.start-requires-send-J
start-requires-send-J g c κs within = let s = c.type_bounds.send-B in search control_sends depth 20

pub start-requires-send-J-Out : goal.start-requires-send-J-Out
start-requires-send-J-Out g c κs within = let s = c.type_bounds.send-B in search control_sends depth 20
