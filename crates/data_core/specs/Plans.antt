-- What live tasks do next by their plans.
use Rattle.std.specs.Prelude.{◌≡◌, Bool, true, false, not, ◌&&◌, is_some, Option, None, Some}
use Rattle.task_events.specs.declared.step.Do.{Do}
use Rattle.task_work.specs.Works.{place_of, next_of, due_in, can_ask}
use Rattle.node_parts.specs.Running.{next_number}
use Rattle.held_shards.specs.declared.HeldShards.{HeldShards}
use Rattle.live_tasks.specs.declared.entry.Entry.{Entry}
use Rattle.live_tasks.specs.Answering.{TakesTurn}
use Rattle.data_parts.specs.declared.clock.Clock.{Clock}
use Rattle.data_parts.specs.Clocks.{moment_by}
use Rattle.data_parts.specs.Steps.{takes_turn}
use Rattle.entry_facts.specs.Entries.{writes_for}

-- one that has passed and whose plan, its mark left aside, is a turn of work
abbrev pub does_work : Option Entry → Bool
does_work None = false
does_work (Some e) = not e.running.is_new && takes_turn e.running.work

-- what a live task does next by its plan, over the shard of its work and by this clock
abbrev pub plan_for : HeldShards → Clock → Entry → Do
plan_for held clock e =
    let writes = writes_for held (place_of e.running.work) in
    next_of e.running.work writes (moment_by clock.ms clock.draining (due_in (next_of e.running.work writes clock.ms)))

-- no mark of the live task is known
abbrev pub IsOpen : Option Entry → Type 0
IsOpen None = ⊥
IsOpen (Some e) = e.running.track.closed ≡ None

-- its plan is to ask for a child
abbrev pub MayAsk : Option Entry → Type 0
MayAsk None = ⊥
MayAsk (Some e) = can_ask e.running.work (next_number e.running) ≡ true

-- its plan is to take a turn over its shard
abbrev pub TurnsNext : HeldShards → Option Entry → Type 0
TurnsNext held None = ⊥
TurnsNext held (Some e) = TakesTurn (writes_for held (place_of e.running.work)) (Some e) × (is_some (place_of e.running.work) ≡ true)
