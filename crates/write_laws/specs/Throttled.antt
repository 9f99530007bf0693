-- A slice goes on with its next page once its rate lets it.
use Rattle.std.specs.Prelude.{ℕ, ◌+◌, ◌-◌, ◌≤◌, List, [], ◌∷◌, length, get_or, Option, Some, None, IfSome, ⊤}
use Rattle.std.specs.Option.{option_map_or}
use Rattle.throttle.specs.Waits.{wait_at}
use Rattle.task_events.specs.declared.event.Event.{Event}
use Rattle.task_events.specs.declared.event.Event.TheVariants.{Ask}
use Rattle.task_events.specs.declared.request.ReindexAsk.{ReindexAsk}
use Rattle.task_events.specs.declared.request.Request.{Request}
use Rattle.task_events.specs.declared.request.Request.TheVariants.{Reindex, Scroll, Slice}
use Rattle.task_events.specs.declared.step.Asked.{Asked}
use Rattle.task_events.specs.Clock.{clock}
use Rattle.task_events.specs.Requests.{Scripted, request_of}
use Rattle.task_events.specs.SliceTask.{answer_at, docs_on, due_after}
use Rattle.task_events.specs.Steps.{asked_by, came_by}

-- the reindex that a task of this request works for
abbrev pub reindex_in : Option Request → Option ReindexAsk
reindex_in (Some (Reindex ask)) = Some ask
reindex_in (Some (Slice slice)) = Some slice.reindex
reindex_in _ = None

-- how many documents the answer to an ask shows, counted from 0
abbrev pub number_shown : List Asked → ℕ → ℕ
number_shown asked i = option_map_or (λ reply. length (docs_on reply)) (answer_at asked i) 0

-- A slice may go on with the next page, by its asks with their answers, the moments at which these came, and the moment: its last ask
-- was for a bulk, and the one before for a page.
pub record IsInTime (ask : ReindexAsk) (asked : List Asked) (came : List ℕ) (now : ℕ) : Type 0 where
  -- so long has gone by since the page came as its documents take at the rate
  pub waited : get_or came (length asked - 2) 0 + wait_at ask.rate (number_shown asked (length asked - 2)) ask.slices 0 ≤ now
  -- and the moment has come that was due when the bulk was answered
  pub due : due_after ask asked came (length asked - 1) ≤ now

-- A slice asks for a page after its first one in time.
abbrev pub AsksInTime : Scripted → Event → List Event → Type 0
AsksInTime said (Ask p k n (Scroll page)) h = IfSome (reindex_in (request_of said p h)) (λ ask. IsInTime ask (asked_by p h) (came_by p h) (clock h))
AsksInTime said _ h = ⊤

-- So each slice has asked for each of its pages.
abbrev pub KeepsToRates : Scripted → List Event → Type 0
KeepsToRates said [] = ⊤
KeepsToRates said (e ∷ h) = AsksInTime said e h × KeepsToRates said h
