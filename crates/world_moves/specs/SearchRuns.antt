-- What the past says of the work of a search, and of a page of one.
use Rattle.std.specs.Prelude.{◌≡◌, ℕ, ◌≤◌, List, [], length, map, take, not, is_some, slice_get, Bool, true, Option, Some, None}
use Rattle.std.specs.List.{range_with_len}
use Rattle.task_ids.specs.declared.cluster.Cluster.{Cluster}
use Rattle.task_ids.specs.declared.corpus.Corpus.{Corpus}
use Rattle.task_ids.specs.declared.task_id.TaskId.{TaskId}
use Rattle.search_phase.specs.Runs.{IsSearchAt}
use Rattle.search_phase.specs.Searching.{Searching, EachAnswer, IsReading}
use Rattle.task_events.specs.declared.context.Context.{Context}
use Rattle.task_events.specs.declared.reading.ShardRead.{ShardRead}
use Rattle.task_events.specs.declared.request.Request.{Request}
use Rattle.task_events.specs.declared.step.Asked.{Asked}
use Rattle.task_events.specs.Readings.{Reading, page_reading, shard_read, version_read}
use Rattle.task_events.specs.Searches.{requests_of}
use Rattle.task_work.specs.declared.work.Work.{Work}
use Rattle.task_work.specs.declared.work.Work.TheVariants as works
use Rattle.world_moves.specs.Good.{IsGoodReply, IsShardWithin}

-- It has made the first of its requests, and knows the answers that have come. Its asks are numbered from 1.
pub record SearchesFor (cluster : Cluster) (corpus : Corpus) (r : Reading) (asked : List Asked) (requests : List Request) (awaited : List (Option ℕ)) (s : Searching) : Type 0 where
  pub state_is : IsSearchAt r asked s
  pub reading_is : IsReading r
  pub few : length r.shards ≤ cluster.shards
  -- and shows at most so many documents
  pub shown : r.ask.body.size ≤ 10000
  pub numbered : map (λ a. a.ask) asked ≡ range_with_len 1 (length asked)
  pub planned : requests ≡ take (length asked) (requests_of r asked)
  pub as_many : length requests ≡ length asked
  pub answered : map (λ a. is_some a.answer) asked ≡ map (λ o. not (is_some o)) awaited
  -- the shards are of its index, and the versions that a context keeps were written
  pub within : (place : ℕ) (at : ShardRead) → slice_get r.shards place ≡ Some at → IsShardWithin cluster corpus r.ask.index (shard_read at) (version_read at)
  pub good : EachAnswer (IsGoodReply cluster corpus) s

abbrev pub RunsSearch : Cluster → Corpus → Reading → List Asked → List Request → List (Option ℕ) → Work → Type 0
RunsSearch cluster corpus r asked requests awaited (works.Search s) = SearchesFor cluster corpus r asked requests awaited s
RunsSearch cluster corpus r asked requests awaited _ = ⊥

-- A page goes through the context of an id, as that stood when its task took it. A child that has not passed has none yet.
abbrev pub RunsPage : Cluster → Corpus → TaskId → Bool → Option Context → List Asked → List Request → List (Option ℕ) → Work → Type 0
RunsPage cluster corpus id new (Some c) asked requests awaited (works.Scroll s) = (c.id ≡ id) × SearchesFor cluster corpus (page_reading c) asked requests awaited s
RunsPage cluster corpus id new None asked requests awaited work = (new ≡ true) × (asked ≡ []) × (requests ≡ []) × (awaited ≡ [])
RunsPage cluster corpus id new _ asked requests awaited _ = ⊥
