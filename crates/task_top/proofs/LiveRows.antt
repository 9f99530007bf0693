-- In a run each live task has a row: a root was asked to do something, since its command could start it, and a child to do what its parent asked for.
use Rattle.std.proofs.Common.{◌≡◌, ℕ, zero, suc, Bool, true, false, ◌&&◌, List, [], ◌∷◌, ◌++◌, Option, Some, None, Result, Ok, Err, refl, ap, ◌∙◌}
use Rattle.std.specs.Option.{option_map_or}
use Rattle.std.specs.Prelude.{is_ok, is_some, option_and_then, option_map, if◌then◌else◌}
use Rattle.std.specs.Result.{result_ok}
use Rattle.serde_json.specs.Data.{Data}
use Rattle.query_match.specs.declared.body.SearchBody.{SearchBody}
use Rattle.query_parse.specs.declared.fault.ReindexError.{ReindexError}
use Rattle.query_parse.specs.declared.reindex_body.ReindexBody.{ReindexBody}
use Rattle.query_parse.specs.Bodies.{body_at}
use Rattle.query_parse.specs.Reindexes.{reindex_at}
use Rattle.task_ids.specs.declared.cluster.Cluster.{Cluster}
use Rattle.task_ids.specs.declared.corpus.Corpus.{Corpus}
use Rattle.task_ids.specs.declared.task_id.TaskId.{TaskId}
use Rattle.task_ids.specs.declared.task_info.TaskInfo.{TaskInfo}
use Rattle.task_events.specs.declared.event.Event.{Event}
use Rattle.task_events.specs.declared.event.Event.TheVariants as events
use Rattle.task_events.specs.declared.request.ReindexAsk.{ReindexAsk}
use Rattle.task_events.specs.declared.request.Request.TheVariants as asks
use Rattle.task_events.specs.Asks.{node_of_ask, request_of_ask}
use Rattle.task_events.specs.Lawful.{Lawful}
use Rattle.task_events.specs.Requests.{Scripted, request_of}
use Rattle.task_events.specs.Same.{same_pair, same_task}
use Rattle.task_events.specs.TaskRows.{row_of}
use Rattle.task_events.specs.Tasks.{is_live}
use Rattle.script_lang.specs.declared.command.Command.{Command}
use Rattle.script_lang.specs.declared.command.Command.TheVariants.{Search, Scroll, Reindex}
use Rattle.script_lang.specs.declared.command.Script.{Script}
use Rattle.script_lang.specs.Fits.{IsRate, IsSliceCount}
use Rattle.command_roots.specs.Known.{is_known}
use Rattle.command_roots.specs.Reindexes.{reindex_ask}
use Rattle.command_roots.specs.Roots.{body_or_none, command_at, context_named, least_size, page_at, request_in, root_request, scripted, search_ask}
use Rattle.command_roots.proofs.AskLemmas.{ask_there}
use Rattle.command_roots.proofs.BatchLemmas.{batch_read}
use Rattle.world_steps.specs.Scripts.{CanDo, CanRun, IsRunSoFar}
use Rattle.world_steps.proofs.Commanded.{can_do}
use Rattle.write_laws.proofs.RootsFit.{EachRoot, roots_before}
use Rattle.write_laws.proofs.RootsOfRuns.{each_root}
use Rattle.write_laws.proofs.RootsStart.{CouldStart, StartFits}

-- ---- what a command asks for that could start its root

module _ (corpus : Corpus) (script : Script) (h : List Event) where
  search_asks : (found : Option SearchBody) (known : Bool) (index : List ℕ) (scroll : Option ℕ) → (is_some found && known) ≡ true → is_some (option_map asks.Search (option_map (search_ask index scroll) found)) ≡ true
  search_asks None known index scroll could = absurd (let no : false ≡ true = could in cc)
  search_asks (Some body) known index scroll could = refl

  page_asks : (keep : Option ℕ) (o : Option TaskId) → is_ok (page_at script o h) ≡ true → is_some (option_map (λ id. asks.Scroll (record { id = id; keep = keep; owner = None })) o) ≡ true
  page_asks keep None could = absurd (let no : false ≡ true = could in cc)
  page_asks keep (Some id) could = refl

  copy_asks : (body : Data) (slices : ℕ) (rate : Option ℕ) → IsSliceCount slices → IsRate rate → (r : Result ReindexBody ReindexError) → reindex_at body ≡ r
      → option_map_or (λ (read : ReindexBody). is_known corpus script.commands read.source) (result_ok r) false ≡ true
      → is_some (option_map asks.Reindex (option_and_then (λ (read : ReindexBody). reindex_ask read slices rate) (result_ok r))) ≡ true
  copy_asks body slices rate count bounded (Err fault) read_so could = absurd (let no : false ≡ true = could in cc)
  copy_asks body slices rate count bounded (Ok read) read_so could =
      let there = ask_there read slices rate (batch_read body read read_so) count bounded in
      ap (λ (o : Option ReindexAsk). is_some (option_map asks.Reindex o)) there.1

  asks_something : (nodes : ℕ) (command : Command) → CanDo nodes command → CouldStart corpus script command h → is_some (request_in command h) ≡ true
  asks_something nodes (Search index node scroll body opaque_id) can could = search_asks (body_or_none (body_at (is_some scroll) (least_size scroll) body)) (is_known corpus script.commands index) index scroll could
  asks_something nodes (Scroll target keep opaque_id) can could = page_asks keep (context_named target h) could
  asks_something nodes (Reindex node body slices rate opaque_id store) can could = copy_asks body slices rate can.1 can.2 (reindex_at body) refl could
  asks_something nodes _ can could = absurd could

-- what the world can do with a command of the script
pub can_at : (nodes : ℕ) (script : Script) → CanRun nodes script.commands → (k : ℕ) (command : Command) → command_at script k ≡ Some command → CanDo nodes command
can_at nodes script can zero command at = absurd (cc)
can_at nodes script can (suc n) command at = can_do nodes script.commands can n command at

-- ---- what roots were asked to do

-- each was asked to do something
abbrev pub RootsAsked : Scripted → List Event → Type 0
RootsAsked said h = EachRoot (λ k past. is_some (said.root k past) ≡ true) h

pub asked_before : (said : Scripted) (later base : List Event) → RootsAsked said (later ++ base) → RootsAsked said base
asked_before said [] base asked = asked
asked_before said (e ∷ later) base asked = asked_before said later base (roots_before (λ k past. is_some (said.root k past) ≡ true) e (later ++ base) asked)

pub run_asked : (cluster : Cluster) (corpus : Corpus) (script : Script) (h : List Event) → CanRun cluster.nodes script.commands → IsRunSoFar cluster corpus script h → RootsAsked (scripted script) h
run_asked cluster corpus script h can run = each_root (λ k past. is_some (root_request script k past) ≡ true) cluster corpus script by_start h run
  where
    by_start : (k : ℕ) (past : List Event) → StartFits corpus script k past → is_some (root_request script k past) ≡ true
    by_start k past start =
        let something = asks_something corpus script past cluster.nodes start.command (can_at cluster.nodes script can k start.command start.at) start.could in
        ap (λ (o : Option Command). is_some (option_and_then (λ command. request_in command past) o)) start.at ∙ something

-- ---- live tasks

-- what was sent to a node asks for something
sent_asks : (p : TaskId) (k : ℕ) (h : List Event) → is_some (node_of_ask p k h) ≡ true → is_some (request_of_ask p k h) ≡ true
sent_asks p k [] sent = absurd (let no : false ≡ true = sent in cc)
sent_asks p k (events.Ask q j n r ∷ h) sent = by_pair (same_pair p k q j) (sent_asks p k h) sent
  where
    by_pair : (b : Bool) → (is_some (node_of_ask p k h) ≡ true → is_some (request_of_ask p k h) ≡ true) → is_some (if b then Some n else node_of_ask p k h) ≡ true → is_some (if b then Some r else request_of_ask p k h) ≡ true
    by_pair true earlier sent = refl
    by_pair false earlier sent = earlier sent
sent_asks p k (_ ∷ h) sent = sent_asks p k h sent

module _ (cluster : Cluster) (said : Scripted) (t : TaskId) where
  abbrev LiveAsked : List Event → Type 0
  LiveAsked h = is_live t h ≡ true → is_some (request_of said t h) ≡ true

  -- it is no live task that leaves
  left : (h : List Event) (b : Bool) → LiveAsked h → (if b then false else is_live t h) ≡ true → is_some (request_of said t h) ≡ true
  left h true earlier live = absurd (let no : false ≡ true = live in cc)
  left h false earlier live = earlier live

  live_asked : (h : List Event) → Lawful cluster h → RootsAsked said h → LiveAsked h
  live_asked [] lawful roots live = absurd (let no : false ≡ true = live in cc)
  live_asked (events.Root k u ∷ h) lawful roots live = by_task (same_task t u) (live_asked h lawful.1 roots.1) live
    where
      by_task : (b : Bool) → LiveAsked h → (if b then true else is_live t h) ≡ true → is_some (if b then said.root k h else request_of said t h) ≡ true
      by_task true earlier live = roots.0
      by_task false earlier live = earlier live
  live_asked (events.Put u p k ∷ h) lawful roots live = by_task (same_task t u) (live_asked h lawful.1 roots) live
    where
      by_task : (b : Bool) → LiveAsked h → (if b then true else is_live t h) ≡ true → is_some (if b then request_of_ask p k h else request_of said t h) ≡ true
      by_task true earlier live = sent_asks p k h (ap is_some lawful.0.node)
      by_task false earlier live = earlier live
  live_asked (events.Refuse u c ∷ h) lawful roots live = left h (same_task t u) (live_asked h lawful.1 roots) live
  live_asked (events.End u r ∷ h) lawful roots live = left h (same_task t u) (live_asked h lawful.1 roots) live
  live_asked (_ ∷ h) lawful roots live = live_asked h lawful.1 roots live

  mapped : {A B : Type 0} (f : A → B) (o : Option A) → is_some (option_map f o) ≡ is_some o
  mapped f None = refl
  mapped f (Some x) = refl

  row_there : (o : Option TaskInfo) → is_some o ≡ true → (row : TaskInfo) × (o ≡ Some row)
  row_there None there = absurd (let no : false ≡ true = there in cc)
  row_there (Some row) there = (row, refl)

  pub live_row : (h : List Event) → Lawful cluster h → RootsAsked said h → is_live t h ≡ true → (row : TaskInfo) × (row_of said t h ≡ Some row)
  live_row h lawful roots live = row_there (row_of said t h) (mapped _ (request_of said t h) ∙ live_asked h lawful roots live)
