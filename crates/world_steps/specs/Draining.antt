-- Draining: the world settles, and where a task is live the clock moves on to the soonest moment for which one waits, again and again.
use Rattle.std.specs.Prelude.{◌≡◌, ℕ, ◌-◌, ◌≤◌, false, not, ◌&&◌, List, [], ◌∷◌, is_some, Option, Some, None, option_and_then, if◌then◌else◌}
use Rattle.task_ids.specs.declared.task_id.TaskId.{TaskId}
use Rattle.task_ids.specs.declared.cluster.Cluster.{Cluster}
use Rattle.task_ids.specs.declared.corpus.Corpus.{Corpus}
use Rattle.task_events.specs.declared.event.Event.{Event}
use Rattle.task_events.specs.declared.event.Event.TheVariants.{Tick}
use Rattle.task_events.specs.declared.stop.Stop.{Stop}
use Rattle.task_events.specs.Bans.{mark_of}
use Rattle.task_events.specs.Clock.{clock}
use Rattle.task_events.specs.Requests.{request_of}
use Rattle.task_events.specs.Steps.{planned_step}
use Rattle.task_events.specs.Tasks.{is_live, is_new}
use Rattle.script_lang.specs.declared.command.Script.{Script}
use Rattle.task_work.specs.Works.{due_in}
use Rattle.command_roots.specs.Roots.{scripted}
use Rattle.world_moves.specs.Moves.{Stops}
use Rattle.world_steps.specs.Runs.{Settles, PartlySettles, SettlingLacksNumber}

-- the past after the clock has moved on to a moment, by the time that is left to it
abbrev pub ticked_to : ℕ → List Event → List Event
ticked_to due h = Tick (due - clock h) ∷ h

-- nothing is live
abbrev pub NoneLive : List Event → Type 0
NoneLive h = (t : TaskId) → is_live t h ≡ false

module _ (cluster : Cluster) (corpus : Corpus) (script : Script) where
  -- the moment for which a live task waits that has passed and is not marked, as its plan says
  abbrev pub due_of : TaskId → List Event → Option ℕ
  due_of t h =
      if is_live t h && not (is_new t h) && not (is_some (mark_of t h))
      then option_and_then (λ request. due_in (planned_step cluster corpus (scripted script) t request h)) (request_of (scripted script) t h)
      else None

  -- the soonest moment for which a task waits
  abbrev pub IsNextDue : ℕ → List Event → Type 0
  IsNextDue due h = ((t : TaskId) × (due_of t h ≡ Some due)) × ((u : TaskId) (other : ℕ) → due_of u h ≡ Some other → due ≤ other)

  -- Settling has come to these pasts, at each of which a task waits for a moment, and starts once more when the clock has moved on to the soonest.
  abbrev pub StartsAgain : List Event → List (List Event) → List Event → Type 0
  StartsAgain h [] start = start ≡ h
  StartsAgain h (settled ∷ later) start = Settles cluster corpus script h settled × ((due : ℕ) × IsNextDue due settled × StartsAgain (ticked_to due settled) later start)

  -- the past once settling leaves no task live
  abbrev pub Empties : List Event → List Event → Type 0
  Empties h new = NoneLive new × ((between : List (List Event)) × (start : List Event) × StartsAgain h between start × Settles cluster corpus script start new)

  -- a first part of that
  abbrev pub PartlyEmpties : List Event → List Event → Type 0
  PartlyEmpties h new = (between : List (List Event)) × (start : List Event) × StartsAgain h between start × PartlySettles cluster corpus script start new

  -- it has come to a move for which a number is lacking
  abbrev pub EmptyingLacksNumber : List Event → List Event → Type 0
  EmptyingLacksNumber h new = (between : List (List Event)) × (start : List Event) × StartsAgain h between start × SettlingLacksNumber cluster corpus script start new

  -- why it comes to an early end
  abbrev pub StopsEmptying : List Event → List Event → Stop → Type 0
  StopsEmptying h new stop = Stops (PartlyEmpties h) (EmptyingLacksNumber h new) new stop
