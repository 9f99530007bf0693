-- What becomes of a letter that asks for a task, before the board is asked.
use Rattle.std.specs.Prelude.{ℕ, Bool, true, not, ◌&&◌, ◌||◌, ◌==◌, nat_le, length, is_some, List, Option, None, Some, if◌then◌else◌}
use Rattle.task_events.specs.declared.request.Request.{Request}
use Rattle.task_events.specs.declared.request.Request.TheVariants as asks
use Rattle.node_link.specs.declared.body.Asked.{Asked}
use Rattle.node_link.specs.declared.body.Place.{Place}
use Rattle.held_shards.specs.declared.HeldShards.{HeldShards}
use Rattle.held_shards.specs.Held.{holds, shard_at}
use Rattle.live_tasks.specs.Live.{number_at, count}
use Rattle.data_parts.specs.Slices.{Contexts, context_for}
use Rattle.data_core.specs.declared.state.DataCore.{DataCore}
use Rattle.data_core.specs.declared.requests.Admission.{Admission}
use Rattle.data_core.specs.declared.requests.Admission.TheVariants.{PassedOver, Rejected, Taken}

-- a shard of an index has a version, where one is given
abbrev pub has_version : HeldShards → List ℕ → ℕ → Option ℕ → Bool
has_version held index shard None = true
has_version held index shard (Some version) = nat_le version (length (shard_at held index shard).writes)

-- the shard on which a request is worked is held, at the version that it reads
abbrev pub has_shard : HeldShards → Request → Bool
has_shard held (asks.Query ask) = holds held ask.shard && has_version held ask.index ask.shard ask.version
has_shard held (asks.Fetch ask) = holds held ask.shard && has_version held ask.index ask.shard (Some ask.version)
has_shard held (asks.BulkShard ask) = holds held ask.shard
has_shard held _ = true

-- a request that asks for a page may use its context now, which is one of this core
abbrev pub may_use : Contexts → Request → ℕ → Bool
may_use contexts (asks.Scroll ask) now = is_some (context_for contexts (asks.Scroll ask) now)
may_use contexts _ now = true

-- It is passed over where its place is taken, or where its shard is not here; rejected where as many tasks are live as may be; and else a slot is looked for.
abbrev pub admission_of : DataCore → Place → Request → Admission
admission_of core place request =
    if is_some (number_at core.live place) || not (has_shard core.shards request) then PassedOver
    else if nat_le core.live.quota (count core.live) then Rejected
    else Taken

-- a request for a child is passed over besides where it is for another node, or may not use its context
abbrev pub child_admission_of : DataCore → Asked → Admission
child_admission_of core asked =
    if (asked.to == core.node) && may_use core.contexts asked.request core.clock.ms then admission_of core asked.place asked.request
    else PassedOver
