-- The core of a data worker may go to another thread.
use denote.Param.Send.{IsSend, sendable}
use Rattle.std.proofs.Crossing.{crosses}
use Rattle.data_parts.proofs.clock.Clock.TheSendSync as clock
use Rattle.task_ids.proofs.cluster.Cluster.TheSendSync as cluster
use Rattle.data_pool.proofs.pool.Pool.TheSendSync as pool
use Rattle.data_core.specs.contracts.state.DataCore as DataCore
use Rattle.data_core.proofs.LiveSends.{live_tasks_field_send}
use Rattle.data_core.proofs.ScrollSends.{scroll_table_send}
use Rattle.data_core.proofs.ShardSends.{held_shards_field_send}

pub core_field_send : IsSend (DataCore.the_field).row
core_field_send = search (live_tasks_field_send, held_shards_field_send, scroll_table_send, clock.the_field_send, cluster.the_field_send, pool.the_field_send, sendable, crosses) depth 20
