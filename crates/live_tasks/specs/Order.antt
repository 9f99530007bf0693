-- The order of places, so that a core finds a task by its place.
use Rattle.std.specs.declared.cmp.Ordering.{Ordering}
use Rattle.node_link.specs.declared.body.Place.{Place}
use Rattle.task_ids.specs.declared.action.Action.{Action}
use Rattle.task_ids.specs.contracts.action.ActionOrd.TheImpl as action_ord
use Rattle.node_link.specs.contracts.body.PlaceOrd.TheImpl as place_ord

-- by their order in the type
abbrev pub action_cmp : Action → Action → Ordering
action_cmp = (action_ord.ghosts).cmp

-- by command, then by search, slice, action and shard
abbrev pub place_cmp : Place → Place → Ordering
place_cmp = (place_ord.ghosts).cmp
