-- Steps, first moves, and settling: what they append to the past.
use Rattle.std.specs.Prelude.{◌≡◌, ◌≢◌, Bool, true, ◌&&◌, List, [], ◌∷◌, ◌⊎◌, Option, Some, None, is_some, false, length, ◌≤◌, ⊤}
use Rattle.task_ids.specs.declared.task_id.TaskId.{TaskId}
use Rattle.task_ids.specs.declared.cluster.Cluster.{Cluster}
use Rattle.task_ids.specs.declared.corpus.Corpus.{Corpus}
use Rattle.task_ids.specs.TaskIdOrder.{task_id_cmp}
use Rattle.std.specs.Ordering.{is_le}
use Rattle.task_events.specs.declared.event.Event.{Event}
use Rattle.task_events.specs.declared.event.Event.TheVariants.{Work}
use Rattle.task_events.specs.declared.history.TheConstants.{MAX_EVENTS}
use Rattle.task_events.specs.declared.stop.Stop.{Stop}
use Rattle.task_events.specs.Tasks.{is_live}
use Rattle.task_events.specs.Messages.{in_flight}
use Rattle.task_events.specs.Steps.{after_turn, next_step}
use Rattle.script_lang.specs.declared.command.Script.{Script}
use Rattle.world_steps.specs.declared.acting.Stepped.{Stepped}
use Rattle.world_steps.specs.declared.acting.Stepped.TheVariants.{Done, Waiting, NotRunning}
use Rattle.command_roots.specs.Roots.{scripted}
use Rattle.world_moves.specs.Cancels.{with_due}
use Rattle.node_parts.specs.declared.listing.Listing.{Listing}
use Rattle.world_moves.specs.Listings.{is_open, IsFirstListing, ListSteps}
use Rattle.world_moves.specs.Moves.{Delivers, IsPartly, DeliveryLacksNumber, Stops}

module _ (cluster : Cluster) (corpus : Corpus) (script : Script) where
  -- what a live task does next, and nothing where it waits
  abbrev pub next_of : TaskId → List Event → Option Event
  next_of t h = next_step cluster corpus (scripted script) t h

  -- the past after an event of a task: a turn of work comes with its writes, and any other event with the answers that come due with it
  abbrev pub after_step : Event → List Event → List Event
  after_step (Work t) h = after_turn cluster corpus (scripted script) t h
  after_step e h = with_due e h

  -- the past after a step of a task
  abbrev pub Steps : TaskId → List Event → List Event → Type 0
  Steps t h new = (e : Event) × (is_live t h ≡ true) × (next_of t h ≡ Some e) × (new ≡ after_step e h)

  -- what a step of a task answers, and the past after it
  abbrev pub AnswersStep : TaskId → List Event → Stepped → List Event → Type 0
  AnswersStep t h Done new = Steps t h new
  AnswersStep t h Waiting new = (is_live t h ≡ true) × (next_of t h ≡ None) × (new ≡ h)
  AnswersStep t h NotRunning new = (is_live t h ≡ false) × (new ≡ h)

  -- whether a task is live and does not wait
  abbrev pub is_ready : List Event → TaskId → Bool
  is_ready h t = is_live t h && is_some (next_of t h)

  -- a live task that does not wait
  abbrev pub IsReady : TaskId → List Event → Type 0
  IsReady t h = (is_live t h ≡ true) × (next_of t h ≢ None)

  -- the lowest of them
  abbrev pub IsFirstReady : TaskId → List Event → Type 0
  IsFirstReady t h = IsReady t h × ((u : TaskId) → IsReady u h → is_le (task_id_cmp t u) ≡ true)

  -- The move that settling makes next: the oldest message is delivered; where none is in flight the first open listing makes a step; where there is none either, the first ready task.
  abbrev pub FirstMoves : List Event → List Event → Type 0
  FirstMoves h new =
      Delivers cluster h 0 new
      ⊎ ((in_flight h ≡ []) × ((l : Listing) × IsFirstListing l h × ListSteps l h new))
      ⊎ ((in_flight h ≡ []) × ((l : Listing) → is_open l h ≡ false) × ((t : TaskId) × IsFirstReady t h × Steps t h new))

  -- Nothing is in flight, no listing is open, and every live task waits.
  pub record IsSettled (h : List Event) : Type 0 where
    pub nothing_in_flight : in_flight h ≡ []
    pub no_listing : (l : Listing) → is_open l h ≡ false
    pub all_wait : (t : TaskId) → is_live t h ≡ true → next_of t h ≡ None

  -- the past after some first moves, through these pasts
  abbrev pub Passes : List Event → List (List Event) → List Event → Type 0
  Passes h [] new = h ≡ new
  Passes h (next ∷ later) new = FirstMoves h next × Passes next later new

  -- the past after as many first moves as there are
  abbrev pub Settles : List Event → List Event → Type 0
  Settles h new = IsSettled new × ((between : List (List Event)) × Passes h between new)

  -- some first moves, and perhaps a first part of one more
  abbrev pub PartlySettles : List Event → List Event → Type 0
  PartlySettles h new = (between : List (List Event)) × (now : List Event) × Passes h between now × IsPartly FirstMoves now new

  -- the first move is the delivery of a request that finds a free slot, and no number is left for its child
  abbrev pub FirstLacksNumber : List Event → List Event → Type 0
  FirstLacksNumber h new = DeliveryLacksNumber cluster h 0 × (new ≡ h)

  -- settling has come to such a move
  abbrev pub SettlingLacksNumber : List Event → List Event → Type 0
  SettlingLacksNumber h new = (between : List (List Event)) × Passes h between new × DeliveryLacksNumber cluster new 0

  -- why a first move comes to an early end, and why settling does
  abbrev pub StopsFirst : List Event → List Event → Stop → Type 0
  StopsFirst h new stop = Stops (IsPartly FirstMoves h) (FirstLacksNumber h new) new stop

  abbrev pub StopsSettling : List Event → List Event → Stop → Type 0
  StopsSettling h new stop = Stops (PartlySettles h) (SettlingLacksNumber h new) new stop

-- where a task made its step there was room for what it appended
abbrev pub HasRoom : Stepped → List Event → Type 0
HasRoom Done h = length h ≤ MAX_EVENTS
HasRoom Waiting h = ⊤
HasRoom NotRunning h = ⊤
