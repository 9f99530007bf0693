-- A cancellation as its fields have it.
use Rattle.std.specs.Prelude.{ℕ, Bool, not, ◌&&◌, List, filter}
use Rattle.child_track.specs.NodeSet.{has_node, all_nodes, nodes_of}
use Rattle.cancel_core.specs.declared.act.Waiter.{Waiter}
use Rattle.cancel_core.specs.declared.stage.Stage.{Stage}
use Rattle.cancel_core.specs.Cancellation.{Cancellation}

-- a banned node that has not acknowledged
abbrev pub is_open_at : Stage → ℕ → Bool
is_open_at stage node = has_node stage.banned node && not (has_node stage.acked node)

abbrev pub seen : Stage → List Waiter → Cancellation
seen stage waiters = record { cancel = stage.cancel; banned = nodes_of stage.banned; awaited = filter (is_open_at stage) all_nodes; waiters = waiters; receipt = stage.receipt }
