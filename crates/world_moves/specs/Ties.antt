-- What the world's tables say of the past.
use Rattle.std.specs.Prelude.{◌≡◌, ℕ, ◌+◌, ◌≤◌, true, false, Bool, List, length, map, slice_get, Option, Some, None, option_map, option_and_then, ⊤}
use Rattle.std.specs.List.{AllByRecursion}
use Rattle.std.specs.BTreeMap.{BTreeMap, get}
use Rattle.std.specs.Ordering.{nat_cmp}
use Rattle.task_ids.specs.declared.task_id.TaskId.{TaskId}
use Rattle.task_ids.specs.declared.cluster.Cluster.{Cluster}
use Rattle.task_ids.specs.Limits.{IsCancel}
use Rattle.task_ids.specs.TaskIdOrder.{task_id_cmp}
use Rattle.task_ids.specs.declared.corpus.Corpus.{Corpus}
use Rattle.task_table.specs.Table.{Table}
use Rattle.task_work.specs.declared.work.Work.{Work}
use Rattle.corpus_shards.specs.declared.Shards.{Shards}
use Rattle.corpus_shards.specs.Stored.{HasWritten, AllNoted, was_there}
use Rattle.script_lang.specs.declared.command.Command.{Command}
use Rattle.script_lang.specs.declared.command.Script.{Script}
use Rattle.task_events.specs.declared.request.Request.{Request}
use Rattle.task_events.specs.declared.request.Request.TheVariants.{Search, Query, Fetch, Scroll, Reindex, Slice, Bulk, BulkShard}
use Rattle.task_events.specs.Kind.{Progress}
use Rattle.task_events.specs.declared.event.Event.{Event}
use Rattle.task_events.specs.TaskRows.{living_on}
use Rattle.task_events.specs.Readings.{search_reading}
use Rattle.task_events.specs.Steps.{after_turn, counted}
use Rattle.task_events.specs.declared.reply.Counts.{Counts}
use Rattle.task_events.specs.Tasks.{last_number}
use Rattle.task_events.specs.Asks.{request_of_ask}
use Rattle.task_events.specs.Messages.{Message, in_flight}
use Rattle.task_events.specs.Messages.Message.{Answer, Ban}
use Rattle.task_events.specs.Lawful.{AwaitsNoMark, Lawful}
use Rattle.node_parts.specs.declared.running.Running.{Running}
use Rattle.node_parts.specs.Starting.{page_in}
use Rattle.world_moves.specs.declared.state.State.{State}
use Rattle.command_roots.specs.Known.{is_known}
use Rattle.command_roots.specs.Roots.{scripted}
use Rattle.world_moves.specs.declared.flight.Sent.{Sent}
use Rattle.world_moves.specs.BulkRuns.{RunsBulk, RunsPart}
use Rattle.world_moves.specs.FetchRuns.{RunsFetch}
use Rattle.world_moves.specs.Good.{IsGoodReply, IsWithin, own_writes, so_far}
use Rattle.world_moves.specs.QueryRuns.{RunsQuery}
use Rattle.world_moves.specs.ReindexRuns.{RunsReindex, RunsSlice}
use Rattle.world_moves.specs.SearchRuns.{RunsSearch, RunsPage}
use Rattle.world_moves.specs.Facts.{Facts, facts_of, token_from, track_from}
use Rattle.world_moves.specs.Flights.{message_of}
use Rattle.world_moves.specs.Owning.{OneAtATime}
use Rattle.world_moves.specs.Plain.{AnswersPlainly}
use Rattle.world_moves.specs.Cancels.{waiting_for}
use Rattle.world_moves.specs.Cancelling.{Cancelling}
use Rattle.world_moves.specs.Describing.{Describing}
use Rattle.world_moves.specs.Left.{HasLeft, left_in}
use Rattle.world_moves.specs.Paging.{Paging}
use Rattle.world_moves.specs.Reads.{Oldest, ReadsFrom}

-- the work of a task is as far as the past says, for what it was asked to do
abbrev pub WorksFor : Cluster → Corpus → TaskId → Bool → Progress → List Request → List (Option ℕ) → Option Request → Work → Type 0
WorksFor cluster corpus t new p requests awaited None work = ⊥
WorksFor cluster corpus t new p requests awaited (Some (Search ask)) work = RunsSearch cluster corpus (search_reading t ask cluster.shards) p.asked requests awaited work
WorksFor cluster corpus t new p requests awaited (Some (Query ask)) work = RunsQuery cluster corpus p.version p.turns awaited ask work
WorksFor cluster corpus t new p requests awaited (Some (Fetch ask)) work = RunsFetch cluster corpus p.turns awaited ask work
WorksFor cluster corpus t new p requests awaited (Some (Scroll ask)) work = RunsPage cluster corpus ask.id new p.page p.asked requests awaited work
WorksFor cluster corpus t new p requests awaited (Some (Reindex ask)) work = RunsReindex cluster.shards t p.asked p.came requests awaited ask work
WorksFor cluster corpus t new p requests awaited (Some (Slice ask)) work = RunsSlice cluster.shards t p.asked p.came requests awaited ask work
WorksFor cluster corpus t new p requests awaited (Some (Bulk ask)) work = RunsBulk cluster.shards p.asked requests awaited ask work
WorksFor cluster corpus t new p requests awaited (Some (BulkShard ask)) work = RunsPart cluster p awaited ask work

-- how many writes the shard of a request had at a moment of the past, by what was written so far
abbrev pub version_from : Cluster → (List Event → Corpus) → Option Request → Option (List Event) → Option ℕ
version_from cluster look o began = option_map (λ past. length (own_writes cluster (look past) o)) began

-- how far a task has come
abbrev pub progress_from : Cluster → (List Event → Corpus) → Facts → Progress
progress_from cluster look facts = record {
  page = facts.page;
  asked = facts.asked;
  came = facts.came;
  turns = facts.turns;
  version = version_from cluster look facts.request facts.began;
  created = facts.created;
  updated = facts.updated;
}

-- what is kept of a live task is what the past says of it
pub record Runs (cluster : Cluster) (corpus : Corpus) (p : Progress) (t : TaskId) (facts : Facts) (running : Running) : Type 0 where
  pub live : facts.live ≡ true
  pub id : running.ticket.id ≡ t
  pub token : running.ticket.token ≡ token_from facts
  pub track : running.track ≡ track_from t facts
  pub new : running.is_new ≡ facts.new
  pub page : running.page ≡ option_and_then page_in facts.request
  pub headers : running.headers ≡ facts.headers
  pub works : WorksFor cluster corpus t facts.new p facts.requests facts.awaited facts.request running.work

-- at a moment, by what was written at each
abbrev pub RunsAt : Cluster → (List Event → Corpus) → List Event → TaskId → Facts → Running → Type 0
RunsAt cluster look h t facts running = Runs cluster (look h) (progress_from cluster look facts) t facts running

-- a task is kept exactly where it is live
abbrev pub IsKept : Cluster → (List Event → Corpus) → List Event → TaskId → Facts → Option Running → Type 0
IsKept cluster look h t facts None = facts.live ≡ false
IsKept cluster look h t facts (Some running) = RunsAt cluster look h t facts running

-- a node's table lists its live tasks, and knows the last number
pub record IsTableOf (cluster : Cluster) (node : ℕ) (h : List Event) (table : Table) : Type 0 where
  pub node_is : table.node ≡ node
  pub slots_are : table.slots ≡ cluster.slots
  pub last_is : table.last ≡ last_number node h
  pub lists : map (λ row. row.id) table.live ≡ living_on node h

-- there is a table for each node of the cluster, from the first on
abbrev pub IsTableAt : Cluster → ℕ → List Event → Option Table → Type 0
IsTableAt cluster place h None = cluster.nodes ≤ place
IsTableAt cluster place h (Some table) = IsTableOf cluster (place + 1) h table

-- an answer in flight is one that its request can have, and says what its shard's writes say; and a ban has the number of a cancel
abbrev pub IsGood : Cluster → Corpus → List Event → Message → Type 0
IsGood cluster corpus h (Answer p k reply) = (r : Request) → request_of_ask p k h ≡ Some r → IsGoodReply cluster corpus r reply
IsGood cluster corpus h (Ban p c n) = IsCancel c
IsGood cluster corpus h _ = ⊤

pub record Ties (cluster : Cluster) (corpus : Corpus) (script : Script) (h : List Event) (tasks : TaskId → Option Running) (tables : List Table) (flight : List Sent) : Type 0 where
  pub lawful : Lawful cluster h
  pub kept : (t : TaskId) → IsKept cluster (so_far corpus script) h t (facts_of (scripted script) t h) (tasks t)
  pub listed : (place : ℕ) → IsTableAt cluster place h (slice_get tables place)
  pub sent : map (message_of h) flight ≡ map Some (in_flight h)
  pub good : AllByRecursion (IsGood cluster (so_far corpus script h) h) (in_flight h)
  -- what was asked for names versions that were written
  pub within : (p : TaskId) (k : ℕ) (r : Request) → request_of_ask p k h ≡ Some r → IsWithin cluster (so_far corpus script h) r
  pub plain : AnswersPlainly cluster corpus script h

-- the kept task of an id
abbrev pub task_at : BTreeMap TaskId Running → TaskId → Option Running
task_at tasks t = get task_id_cmp tasks t

-- the tables of tasks and messages say of the past what they should
abbrev pub HasTies : State → Type 0
HasTies s = Ties s.cluster s.corpus.now s.script.now s.history (task_at s.tasks) s.tables.items s.flight

-- and so do the tables of bans and cancellations, where these cancels wait for the cancellation of each task
abbrev pub HasCancels : (TaskId → List ℕ) → State → Type 0
HasCancels waiting s = Cancelling s.cluster waiting s.history s.tables.items (get nat_cmp s.roots) s.bans.items s.cores.items s.listings

-- and what task lists show
abbrev pub HasDescriptions : State → Type 0
HasDescriptions s = Describing s.script.now s.history s.tables.items s.flight s.clock

-- and the tables of contexts
abbrev pub HasContexts : State → Type 0
HasContexts s = Paging s.cluster s.corpus.now s.script.now s.history s.contexts.items

-- the shards show what is written, from some versions on, tell which indices are known from the start, and are noted where rows may be forgotten
pub record HoldsShards (written corpus : Corpus) (commands : List Command) (count : ℕ) (oldest : Oldest) (shards : Shards) : Type 0 where
  pub has : HasWritten written count oldest shards
  pub from_start : (index : List ℕ) → was_there shards index ≡ is_known corpus commands index
  pub noted : AllNoted shards

-- and the shards
abbrev pub HasShards : Oldest → State → Type 0
HasShards oldest s = HoldsShards (so_far s.corpus.now s.script.now s.history) s.corpus.now s.script.now.commands s.cluster.shards oldest s.shards

-- and no version of a shard is read below these
abbrev pub HasReads : Oldest → State → Type 0
HasReads oldest s = ReadsFrom oldest s.cluster s.corpus.now s.script.now s.history

-- the shards, of which no version is read below some
abbrev pub HasShardsRead : State → Type 0
HasShardsRead s = (oldest : Oldest) × HasShards oldest s × HasReads oldest s

-- All tables say of the past what they should, while one cancel, perhaps, is still naming tasks.
pub record IsTiedWhile (naming : Option ℕ) (s : State) : Type 0 where
  pub ties : HasTies s
  pub cancels : HasCancels (λ t. waiting_for t s.history) s
  pub counts : HasLeft naming s.history (left_in s.left)
  pub tells : HasDescriptions s
  pub pages : HasContexts s
  pub oldest : Oldest
  pub reads : HasReads oldest s
  pub shards : HasShards oldest s
  pub awaits : AwaitsNoMark s.history

-- and while none is
abbrev pub IsTied : State → Type 0
IsTied s = IsTiedWhile None s

-- the cluster, the documents and the script stay
pub record Keeps (old new : State) : Type 0 where
  pub cluster : new.cluster ≡ old.cluster
  pub corpus : new.corpus.now ≡ old.corpus.now
  pub script : new.script.now ≡ old.script.now

-- what a task has counted so far
abbrev pub counts_in : State → TaskId → Counts
counts_in s t = counted s.cluster s.corpus.now (scripted s.script.now) t s.history

-- the past after a turn of work
abbrev pub turned_in : State → TaskId → List Event
turned_in s t = after_turn s.cluster s.corpus.now (scripted s.script.now) t s.history

-- The past is lawful, and each search that has ended replied with the plain answer, unless it was cancelled.
pub record KeepsLaws (s : State) : Type 0 where
  pub lawful : Lawful s.cluster s.history
  pub plain : AnswersPlainly s.cluster s.corpus.now s.script.now s.history
  -- each page began where no task used its context
  pub alone : OneAtATime (scripted s.script.now) s.history
