-- What each search and each page that has ended replied: the plain answer; and what each reindex did, and each task that it asked to write: what it has counted.
use Rattle.std.specs.Prelude.{◌≡◌, ℕ, Bool, List, [], ◌∷◌, length, map, filter, slice_get, Option, Some, None, option_map, option_and_then, ⊤}
use Rattle.std.specs.Option.{option_or}
use Rattle.task_ids.specs.declared.task_id.TaskId.{TaskId}
use Rattle.task_ids.specs.declared.cluster.Cluster.{Cluster}
use Rattle.task_ids.specs.declared.corpus.Corpus.{Corpus}
use Rattle.task_events.specs.declared.context.Context.{Context}
use Rattle.task_events.specs.declared.reading.ShardRead.{ShardRead}
use Rattle.task_events.specs.declared.request.Request.{Request}
use Rattle.task_events.specs.declared.request.Request.TheVariants.{Search, Scroll, Query, Reindex, Slice, Bulk, BulkShard}
use Rattle.task_events.specs.declared.request.ShardAsk.{ShardAsk}
use Rattle.task_events.specs.declared.reply.Counts.{Counts}
use Rattle.task_events.specs.declared.reply.FailedShard.{FailedShard}
use Rattle.task_events.specs.declared.reply.Reply.{Reply}
use Rattle.task_events.specs.declared.reply.Reply.TheVariants.{Top, Wrote, Cancelled}
use Rattle.task_events.specs.declared.reply.ShardTop.{ShardTop}
use Rattle.task_events.specs.Tasks.{child_of}
use Rattle.task_events.specs.Steps.{before_first_turn, counted}
use Rattle.task_events.specs.Bans.{mark_of}
use Rattle.task_events.specs.declared.event.Event.{Event}
use Rattle.task_events.specs.declared.event.Event.TheVariants.{End}
use Rattle.task_events.specs.Answers.{plain_answer}
use Rattle.task_events.specs.Contexts.{page_of}
use Rattle.task_events.specs.Documents.{writes_of}
use Rattle.task_events.specs.Readings.{Reading, search_reading, page_reading, shard_read, version_read}
use Rattle.task_events.specs.Requests.{request_of}
use Rattle.task_events.specs.ShardOutcomes.{ask_for, is_query_of, found_in, answered_shards, shard_failed, failed_shards}
use Rattle.script_lang.specs.declared.command.Script.{Script}
use Rattle.command_roots.specs.Roots.{scripted}
use Rattle.world_moves.specs.Good.{so_far}

-- the child that a task asked for such a thing
abbrev pub child_for : (Request → Bool) → TaskId → List Event → Option TaskId
child_for test t h = option_and_then (λ k. child_of t k h) (ask_for test t h)

-- how many writes a shard of an index had before the first turn of a task, by what was written at each moment
abbrev pub read_by : Cluster → (List Event → Corpus) → List ℕ → ℕ → TaskId → List Event → Option ℕ
read_by cluster look index shard u h = option_map (λ past. length (writes_of (look past) cluster.shards index shard)) (before_first_turn u h)

-- What a search or a page replies once all that it asked for is answered, by what was written at each moment.
pub record IsPlainReply (cluster : Cluster) (look : List Event → Corpus) (t : TaskId) (r : Reading) (h : List Event) (reply : Reply) : Type 0 where
  -- one list of the rows of the shards that answered, filtered, put in hit order and cut, without the documents of the shards that failed
  pub answer : let writes = writes_of (look h) cluster.shards r.ask.index in reply ≡ plain_answer r writes (answered_shards r writes t h) (failed_shards r t h)
  -- a query child reads its shard at the version that its context keeps, or else at the newest: the number of its writes before the child's first turn
  pub version : (place : ℕ) (at : ShardRead) (top : ShardTop) → slice_get r.shards place ≡ Some at → found_in t h (shard_read at) ≡ Some top
      → Some top.version ≡ option_or (version_read at) (option_and_then (λ u. read_by cluster look r.ask.index (shard_read at) u h) (child_for (is_query_of (shard_read at)) t h))
  -- those that failed are the shards that did not answer, and those whose fetch failed
  pub failed : map (λ (f : FailedShard). f.shard) (failed_shards r t h) ≡ filter (shard_failed t h) (map shard_read r.shards)

-- a page goes through its context, which stood when the task started
abbrev pub IsPlainPage : Cluster → (List Event → Corpus) → TaskId → Option Context → List Event → Reply → Type 0
IsPlainPage cluster look t None h reply = ⊥
IsPlainPage cluster look t (Some c) h reply = IsPlainReply cluster look t (page_reading c) h reply

-- a query finds what it finds at the version that it names, or else at the newest before its first turn
abbrev pub ReadsInTime : Cluster → (List Event → Corpus) → TaskId → ShardAsk → List Event → Reply → Type 0
ReadsInTime cluster look t ask h (Top top) = Some top.version ≡ option_or ask.version (read_by cluster look ask.index ask.shard t h)
ReadsInTime cluster look t ask h reply = ⊤

-- The reply with which a task ends. That of a marked task is cancelled, with the number of its mark and what it has counted; of another it goes by what it was asked to do and what its children replied.
abbrev pub EndsPlainly : Cluster → (List Event → Corpus) → TaskId → Option Context → Option ℕ → Counts → Option Request → List Event → Reply → Type 0
EndsPlainly cluster look t page (Some c) counts request h reply = reply ≡ Cancelled t c counts
EndsPlainly cluster look t page None counts (Some (Search ask)) h reply = IsPlainReply cluster look t (search_reading t ask cluster.shards) h reply
EndsPlainly cluster look t page None counts (Some (Scroll ask)) h reply = IsPlainPage cluster look t page h reply
EndsPlainly cluster look t page None counts (Some (Query ask)) h reply = ReadsInTime cluster look t ask h reply
EndsPlainly cluster look t page None counts (Some (Reindex ask)) h reply = reply ≡ Wrote counts
EndsPlainly cluster look t page None counts (Some (Slice ask)) h reply = reply ≡ Wrote counts
EndsPlainly cluster look t page None counts (Some (Bulk ask)) h reply = reply ≡ Wrote counts
EndsPlainly cluster look t page None counts (Some (BulkShard ask)) h reply = reply ≡ Wrote counts
EndsPlainly cluster look t page None counts _ h reply = ⊤

-- Each search that has ended replied with the plain answer, and each page of one too, and each task that writes with what it has counted, unless it was cancelled.
abbrev pub AnswersPlainly : Cluster → Corpus → Script → List Event → Type 0
AnswersPlainly cluster corpus script [] = ⊤
AnswersPlainly cluster corpus script (End t reply ∷ h) =
    EndsPlainly cluster (so_far corpus script) t (page_of (scripted script) t h) (mark_of t h) (counted cluster corpus (scripted script) t h) (request_of (scripted script) t h) h reply × AnswersPlainly cluster corpus script h
AnswersPlainly cluster corpus script (_ ∷ h) = AnswersPlainly cluster corpus script h
