-- What the past says of the work of a slice, and of a reindex.
use Rattle.std.specs.Prelude.{◌≡◌, ◌≢◌, ◌⊎◌, ℕ, ◌+◌, ◌-◌, ◌≤◌, List, length, get_or, slice_get, option_map, Option, is_some, true, ⊤}
use Rattle.task_ids.specs.declared.task_id.TaskId.{TaskId}
use Rattle.task_events.specs.declared.request.ReindexAsk.{ReindexAsk}
use Rattle.task_events.specs.declared.request.Request.{Request}
use Rattle.task_events.specs.declared.request.SliceAsk.{SliceAsk}
use Rattle.task_events.specs.declared.step.Asked.{Asked}
use Rattle.task_events.specs.SliceTask.{first_page}
use Rattle.reindex.specs.declared.phase.Phase.{Phase}
use Rattle.reindex.specs.declared.phase.Phase.TheVariants.{First, Reads, Holds, Writes, Rests, Over}
use Rattle.reindex.specs.declared.root.ReindexRoot.TheVariants.{Alone, Cut}
use Rattle.reindex.specs.RootFields.{IsCut}
use Rattle.reindex.specs.Roots.{Cutting, IsCutAt, cut_takes}
use Rattle.reindex.specs.SliceFields.{IsSlice}
use Rattle.reindex.specs.SliceRuns.{IsSliceAt}
use Rattle.reindex.specs.Slices.{Slicing, slice_takes}
use Rattle.task_work.specs.declared.work.Work.{Work}
use Rattle.task_work.specs.declared.work.Work.TheVariants as works
use Rattle.world_moves.specs.AsksKnown.{KnowsAsks}

-- It knows the context that its first page has opened, from that page on.
abbrev pub HasContext : (made : ℕ) → Option TaskId → Phase → Type 0
HasContext made context First = ⊤
HasContext made context (Reads ask) = (made ≡ 1) ⊎ (is_some context ≡ true)
HasContext made context (Holds docs came) = is_some context ≡ true
HasContext made context (Writes ask docs came) = is_some context ≡ true
HasContext made context (Rests until) = is_some context ≡ true
HasContext made context Over = ⊤

-- After its newest answer it waits no longer than 10,000 documents in 32 slices take at one a second.
abbrev pub RestsShortly : List ℕ → Phase → Type 0
RestsShortly came (Rests until) = until ≤ get_or came (length came - 1) 0 + 320000000
RestsShortly came _ = ⊤

-- A slice has come as far as its asks and their answers.
pub record SlicesFor (shards : ℕ) (t : TaskId) (ask : ReindexAsk) (slice : ℕ) (asked : List Asked) (came : List ℕ) (requests : List Request) (awaited : List (Option ℕ)) (s : Slicing) : Type 0 where
  pub here : IsSliceAt t ask slice shards asked came s
  pub sound : IsSlice s
  pub knows : KnowsAsks shards (slice_takes s) asked requests awaited
  -- the first of them was for its first page
  pub first : slice_get requests 0 ≡ option_map (λ a. first_page t ask slice shards) (slice_get asked 0)
  pub opened : HasContext s.made s.context s.phase
  pub rests : RestsShortly came s.phase

-- So has a reindex that is cut into slices.
pub record CutsFor (shards : ℕ) (ask : ReindexAsk) (asked : List Asked) (came : List ℕ) (requests : List Request) (awaited : List (Option ℕ)) (c : Cutting) : Type 0 where
  pub here : IsCutAt ask asked c
  pub moments : length came ≡ length asked
  pub sound : IsCut c 32
  pub knows : KnowsAsks shards (cut_takes c) asked requests awaited

abbrev pub RunsSlice : ℕ → TaskId → List Asked → List ℕ → List Request → List (Option ℕ) → SliceAsk → Work → Type 0
RunsSlice shards t asked came requests awaited ask (works.Slice s) = SlicesFor shards t ask.reindex ask.slice asked came requests awaited s
RunsSlice shards t asked came requests awaited ask _ = ⊥

-- A reindex does the work of its one slice itself, or is cut into several.
abbrev pub RunsReindex : ℕ → TaskId → List Asked → List ℕ → List Request → List (Option ℕ) → ReindexAsk → Work → Type 0
RunsReindex shards t asked came requests awaited ask (works.Reindex (Alone s)) = (ask.slices ≡ 1) × SlicesFor shards t ask 0 asked came requests awaited s
RunsReindex shards t asked came requests awaited ask (works.Reindex (Cut c)) = (ask.slices ≢ 1) × CutsFor shards ask asked came requests awaited c
RunsReindex shards t asked came requests awaited ask _ = ⊥
