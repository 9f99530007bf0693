-- The places of children.
use Rattle.std.specs.Prelude.{ℕ, ◌+◌, min}
use Rattle.std.specs.Option.{option_map_or}
use Rattle.task_events.specs.declared.request.Request.{Request}
use Rattle.task_events.specs.declared.request.Request.TheVariants as asks
use Rattle.task_events.specs.Kinds.{kind_of, action_of}
use Rattle.node_link.specs.declared.body.Place.{Place}

-- 1 plus the slice that is asked for, or else the parent's
abbrev pub child_slice : Place → Request → ℕ
child_slice parent (asks.Slice ask) = ask.slice + 1
child_slice parent _ = parent.slice

-- the shard that is asked for, or 0; no index has a shard above 14
abbrev pub child_shard : Request → ℕ
child_shard request = option_map_or (λ place. min place.1 14) (kind_of request).place 0

-- of the parent's command, over the rows of its search, with what is asked
abbrev pub child_place : Place → Request → Place
child_place parent request = record { command = parent.command; search = parent.search; slice = child_slice parent request; action = action_of request; shard = child_shard request }
