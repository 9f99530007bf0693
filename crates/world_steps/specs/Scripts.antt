-- The run of a script: command by command, and then the closing drain.
use Rattle.std.specs.Prelude.{◌≡◌, ℕ, zero, suc, ◌+◌, ◌≤◌, Bool, true, false, ◌&&◌, List, [], ◌∷◌, ◌++◌, ◌⊎◌, length, is_some, is_ok, Option, Some, None, Result, Ok, Err, ⊤}
use Rattle.std.specs.List.{list_any}
use Rattle.std.specs.Option.{option_map_or}
use Rattle.std.specs.Result.{result_ok}
use Rattle.serde_json.specs.Data.{Data}
use Rattle.query_parse.specs.Bodies.{body_at}
use Rattle.query_parse.specs.Reindexes.{reindex_at}
use Rattle.task_ids.specs.declared.cluster.Cluster.{Cluster}
use Rattle.task_ids.specs.declared.corpus.Corpus.{Corpus}
use Rattle.task_events.specs.declared.event.Event.{Event}
use Rattle.task_events.specs.declared.context.Context.{Context}
use Rattle.task_events.specs.declared.event.Event.TheVariants.{Begin, Tick as TickEvent}
use Rattle.task_events.specs.declared.stop.Stop.{Stop}
use Rattle.task_events.specs.Messages.{in_flight}
use Rattle.task_events.specs.Turns.{is_begin}
use Rattle.scroll_table.specs.declared.context.PageError.{PageError}
use Rattle.script_lang.specs.declared.command.Command.{Command}
use Rattle.script_lang.specs.declared.command.ContextTarget.{ContextTarget}
use Rattle.script_lang.specs.declared.command.Command.TheVariants.{Search, Scroll, ClearScroll, Reindex, Cancel, ListTasks, GetTask, ForgetTask, ListResults, Tick, Deliver, Step, ListStep, Settle, Shuffle, WaitFor, History, Summary}
use Rattle.script_lang.specs.declared.command.Script.{Script}
use Rattle.world_steps.specs.declared.acting.Stepped.{Stepped}
use Rattle.node_parts.specs.declared.listing.Listing.{Listing}
use Rattle.world_moves.specs.Cancels.{after_cancel}
use Rattle.world_moves.specs.Listings.{is_open, ListSteps}
use Rattle.script_lang.specs.Fits.{IsSliceCount, IsRate}
use Rattle.script_lang.specs.KeepAlives.{day_ms}
use Rattle.world_moves.specs.Moves.{Delivers, Starts, NodeLacksNumber, DeliveryLacksNumber, IsPartly, Stops}
use Rattle.command_roots.specs.Known.{is_known}
use Rattle.command_roots.specs.Roots.{body_or_none, command_at, context_named, least_size, page_answer}
use Rattle.world_steps.specs.Draining.{Empties, PartlyEmpties, EmptyingLacksNumber}
use Rattle.world_steps.specs.Runs.{AnswersStep, Settles, PartlySettles, SettlingLacksNumber}
use Rattle.world_steps.specs.Shuffling.{Shuffles, PartlyShuffles, ShufflingLacksNumber}

-- A command has begun, and some events came since, with none of which another began.
abbrev pub IsTurn : ℕ → List Event → List Event → Type 0
IsTurn k h new = (events : List Event) × (new ≡ events ++ Begin k ∷ h) × (list_any is_begin events ≡ false)

-- ---- the scripts that run

-- a command that the world can do: a search and a reindex start on a node of the cluster, a reindex has numbers in their ranges, and the
-- clock moves by a day at most
abbrev pub CanDo : ℕ → Command → Type 0
CanDo nodes (Search index node scroll body opaque_id) = (1 ≤ node) × (node ≤ nodes)
CanDo nodes (Scroll target keep opaque_id) = ⊤
CanDo nodes (ClearScroll target) = ⊤
CanDo nodes (Reindex node body slices rate opaque_id store) = ((1 ≤ node) × (node ≤ nodes)) × IsSliceCount slices × IsRate rate
CanDo nodes (Cancel target reason wait) = ⊤
CanDo nodes (ListTasks wanted group detailed) = ⊤
CanDo nodes (GetTask task wait) = ⊤
CanDo nodes (ForgetTask task) = ⊤
CanDo nodes ListResults = ⊤
CanDo nodes (Tick ms) = ms ≤ day_ms
CanDo nodes (Deliver nth) = ⊤
CanDo nodes (Step task) = ⊤
CanDo nodes (ListStep node parent) = ⊤
CanDo nodes Settle = ⊤
CanDo nodes (Shuffle seed moves) = ⊤
CanDo nodes (WaitFor command) = ⊤
CanDo nodes History = ⊤
CanDo nodes Summary = ⊤

-- the world can do each command
abbrev pub CanRun : ℕ → List Command → Type 0
CanRun nodes [] = ⊤
CanRun nodes (command ∷ more) = CanDo nodes command × CanRun nodes more

-- the number with which the closing drain begins
abbrev pub closing : Script → ℕ
closing script = length script.commands + 1

-- ---- one command

-- the body of a search has no fault, and its index is known
abbrev pub can_start : Corpus → List Command → List ℕ → Option ℕ → Data → Bool
can_start corpus commands index scroll body = is_some (body_or_none (body_at (is_some scroll) (least_size scroll) body)) && is_known corpus commands index

-- the body of a reindex has no fault, and the index that it reads is known
abbrev pub can_copy : Corpus → List Command → Data → Bool
can_copy corpus commands body = option_map_or (λ read. is_known corpus commands read.source) (result_ok (reindex_at body)) false

-- the context that a scroll is about stands, and no task uses it
abbrev pub can_page : Script → ContextTarget → List Event → Bool
can_page script target h = is_ok (page_answer script target h)

-- why it is not so, if it is not
abbrev pub error_in : Result Context PageError → Option PageError
error_in (Ok context) = None
error_in (Err error) = Some error

-- the node of that context
abbrev pub page_node : ContextTarget → List Event → ℕ
page_node target h = option_map_or (λ id. id.node) (context_named target h) 0

-- a root that can start comes to its node; else nothing happens
abbrev pub StartsWhere : Cluster → Bool → ℕ → ℕ → List Event → List Event → Type 0
StartsWhere cluster true k node h new = (started : Bool) × Starts cluster h k node started new
StartsWhere cluster false k node h new = new ≡ h

-- the message of this place is delivered; where there is none, nothing happens
abbrev pub DeliversWhere : Cluster → ℕ → List Event → List Event → Type 0
DeliversWhere cluster nth h new = Delivers cluster h nth new ⊎ ((length (in_flight h) ≤ nth) × (new ≡ h))

-- an open listing makes a step; where it is not open, nothing happens
abbrev pub ListsWhere : Listing → List Event → List Event → Type 0
ListsWhere l h new = ListSteps l h new ⊎ ((is_open l h ≡ false) × (new ≡ h))

module _ (cluster : Cluster) (corpus : Corpus) (script : Script) where
  -- what a command with this number appends after its beginning
  abbrev pub Does : ℕ → Command → List Event → List Event → Type 0
  Does k (Search index node scroll body opaque_id) h new = StartsWhere cluster (can_start corpus script.commands index scroll body) k node h new
  Does k (Scroll target keep opaque_id) h new = StartsWhere cluster (can_page script target h) k (page_node target h) h new
  Does k (ClearScroll target) h new = new ≡ h
  Does k (Reindex node body slices rate opaque_id store) h new = StartsWhere cluster (can_copy corpus script.commands body) k node h new
  Does k (Cancel target reason wait) h new = new ≡ after_cancel cluster script k target wait h
  Does k (ListTasks wanted group detailed) h new = new ≡ h
  Does k (GetTask task wait) h new = new ≡ h
  Does k (ForgetTask task) h new = new ≡ h
  Does k ListResults h new = new ≡ h
  Does k (Tick ms) h new = new ≡ TickEvent ms ∷ h
  Does k (Deliver nth) h new = DeliversWhere cluster nth h new
  Does k (Step task) h new = (stepped : Stepped) × AnswersStep cluster corpus script task h stepped new
  Does k (ListStep node parent) h new = ListsWhere (record { node = node; parent = parent }) h new
  Does k Settle h new = Settles cluster corpus script h new
  Does k (Shuffle seed moves) h new = Shuffles cluster corpus script seed moves h new
  Does k (WaitFor command) h new = Settles cluster corpus script h new
  Does k History h new = new ≡ h
  Does k Summary h new = new ≡ h

  -- a first part of that
  abbrev pub PartlyDoes : ℕ → Command → List Event → List Event → Type 0
  PartlyDoes k Settle h new = PartlySettles cluster corpus script h new
  PartlyDoes k (Shuffle seed moves) h new = PartlyShuffles cluster corpus script seed moves h new
  PartlyDoes k (WaitFor command) h new = PartlySettles cluster corpus script h new
  PartlyDoes k command h new = IsPartly (Does k command) h new

  -- the past after the command of this number, and after a first part of it
  abbrev pub Commands : ℕ → List Event → List Event → Type 0
  Commands k h new = (command : Command) × (command_at script k ≡ Some command) × Does k command (Begin k ∷ h) new

  abbrev pub PartlyCommands : ℕ → List Event → List Event → Type 0
  PartlyCommands k h new = (new ≡ h) ⊎ ((command : Command) × (command_at script k ≡ Some command) × PartlyDoes k command (Begin k ∷ h) new)

  -- ---- the whole run

  -- the past after the closing drain, and after a first part of it
  abbrev pub Drains : List Event → List Event → Type 0
  Drains h new = Empties cluster corpus script (Begin (closing script) ∷ h) new

  abbrev pub PartlyDrains : List Event → List Event → Type 0
  PartlyDrains h new = (new ≡ h) ⊎ PartlyEmpties cluster corpus script (Begin (closing script) ∷ h) new

  -- the past after the first commands, so many
  abbrev pub HasRun : ℕ → List Event → Type 0
  HasRun zero h = h ≡ []
  HasRun (suc n) h = (before : List Event) × HasRun n before × Commands (suc n) before h

  -- The run of the script: all its commands, and the closing drain.
  abbrev pub IsRun : List Event → Type 0
  IsRun h = (before : List Event) × HasRun (length script.commands) before × Drains before h

  -- a first part of the run: some commands and a part of the next, or all commands and a part of the closing drain
  abbrev pub IsRunSoFar : List Event → Type 0
  IsRunSoFar h =
      ((n : ℕ) × (before : List Event) × HasRun n before × PartlyCommands (suc n) before h)
      ⊎ ((before : List Event) × HasRun (length script.commands) before × PartlyDrains before h)

  -- ---- early ends

  -- The next event of a command would start or put a task for which its node has no number.
  abbrev pub CommandLacksNumber : Command → List Event → List Event → Type 0
  CommandLacksNumber (Search index node scroll body opaque_id) h new = (can_start corpus script.commands index scroll body ≡ true) × NodeLacksNumber cluster h node × (new ≡ h)
  CommandLacksNumber (Scroll target keep opaque_id) h new = (can_page script target h ≡ true) × NodeLacksNumber cluster h (page_node target h) × (new ≡ h)
  CommandLacksNumber (Reindex node body slices rate opaque_id store) h new = (can_copy corpus script.commands body ≡ true) × NodeLacksNumber cluster h node × (new ≡ h)
  CommandLacksNumber (Deliver nth) h new = DeliveryLacksNumber cluster h nth × (new ≡ h)
  CommandLacksNumber Settle h new = SettlingLacksNumber cluster corpus script h new
  CommandLacksNumber (Shuffle seed moves) h new = ShufflingLacksNumber cluster corpus script seed moves h new
  CommandLacksNumber (WaitFor command) h new = SettlingLacksNumber cluster corpus script h new
  CommandLacksNumber _ h new = ⊥

  -- Why a command that has begun comes to an early end: where the history is full, an event of it was still to come.
  abbrev pub StopsDoing : ℕ → Command → List Event → List Event → Stop → Type 0
  StopsDoing k command h new stop = Stops (PartlyDoes k command h) (CommandLacksNumber command h new) new stop

  -- the command of this number lacks one
  abbrev pub NumberedLacksNumber : ℕ → List Event → List Event → Type 0
  NumberedLacksNumber k h new = (command : Command) × (command_at script k ≡ Some command) × CommandLacksNumber command (Begin k ∷ h) new

  abbrev pub StopsCommand : ℕ → List Event → List Event → Stop → Type 0
  StopsCommand k h new stop = Stops (PartlyCommands k h) (NumberedLacksNumber k h new) new stop

  -- the closing drain
  abbrev pub DrainLacksNumber : List Event → List Event → Type 0
  DrainLacksNumber h new = EmptyingLacksNumber cluster corpus script (Begin (closing script) ∷ h) new

  abbrev pub StopsDrain : List Event → List Event → Stop → Type 0
  StopsDrain h new stop = Stops (PartlyDrains h) (DrainLacksNumber h new) new stop

  -- the next event of the run would start or put a task for which its node has no number
  abbrev pub RunLacksNumber : List Event → Type 0
  RunLacksNumber h =
      ((n : ℕ) × (before : List Event) × HasRun n before × NumberedLacksNumber (suc n) before h)
      ⊎ ((before : List Event) × HasRun (length script.commands) before × DrainLacksNumber before h)

  -- Why a run comes to an early end: the history is full and the run goes on, or its next event needs a number that is not there, or memory ran out.
  abbrev pub StopsRun : List Event → Stop → Type 0
  StopsRun h stop = Stops IsRunSoFar (RunLacksNumber h) h stop
