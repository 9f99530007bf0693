-- The worker and what it leaves may go to another thread, since its board may.
use Rattle.thread_tests.proofs.Sends.{control_sends}
use Rattle.thread_tests.proofs.threads.finish.Goals as goal

pub finish-requires-send-J : goal.finish-requires-send-J
finish-requires-send-J g c κs within = let s = c.type_bounds.send-B in search control_sends depth 20

pub finish-requires-send-J-Out : goal.finish-requires-send-J-Out
finish-requires-send-J-Out g c κs within = let s = c.type_bounds.send-B in search control_sends depth 20
