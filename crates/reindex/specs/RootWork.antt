-- A reindex does the work of its one slice itself, or asks for its slices.
use Rattle.std.specs.Prelude.{◌≡◌, ◌≢◌, ℕ, List, Bool, length}
use Rattle.task_ids.specs.declared.task_id.TaskId.{TaskId}
use Rattle.task_events.specs.declared.request.ReindexAsk.{ReindexAsk}
use Rattle.task_events.specs.declared.reply.Counts.{Counts}
use Rattle.task_events.specs.declared.reply.Reply.{Reply}
use Rattle.task_events.specs.declared.step.Asked.{Asked}
use Rattle.task_events.specs.declared.step.Do.{Do}
use Rattle.reindex.specs.declared.root.ReindexRoot.{ReindexRoot}
use Rattle.reindex.specs.declared.root.ReindexRoot.TheVariants.{Alone, Cut}
use Rattle.reindex.specs.RootFields.{IsCut}
use Rattle.reindex.specs.SliceFields.{IsSlice}
use Rattle.reindex.specs.Slices.{IsNewSlice, slice_next, slice_may_ask, slice_with_ask, slice_takes, slice_with_answer}
use Rattle.reindex.specs.SliceRuns.{IsSliceAt}
use Rattle.reindex.specs.Roots.{IsNewCut, cut_next, cut_may_ask, cut_with_ask, cut_takes, cut_with_answer, IsCutAt}

abbrev pub IsNewRoot : TaskId → ReindexAsk → ℕ → ReindexRoot → Type 0
IsNewRoot task ask shards (Alone s) = (ask.slices ≡ 1) × IsNewSlice task ask 0 shards s
IsNewRoot task ask shards (Cut c) = (ask.slices ≢ 1) × IsNewCut ask c

-- what it does next at a moment
abbrev pub root_next : ReindexRoot → ℕ → Do
root_next (Alone s) now = slice_next s now
root_next (Cut c) now = cut_next c

-- it asks at some moment
abbrev pub root_may_ask : ReindexRoot → Bool
root_may_ask (Alone s) = slice_may_ask s
root_may_ask (Cut c) = cut_may_ask c

abbrev pub root_with_ask : ReindexRoot → ℕ → ReindexRoot
root_with_ask (Alone s) ask = Alone (slice_with_ask s ask)
root_with_ask (Cut c) ask = Cut (cut_with_ask c ask)

-- the ask has no answer yet, and the reply is one that its request can have
abbrev pub root_takes : ReindexRoot → ℕ → Reply → Bool
root_takes (Alone s) ask reply = slice_takes s ask reply
root_takes (Cut c) ask reply = cut_takes c ask reply

-- after the answer to an ask at a moment
abbrev pub root_with_answer : ReindexRoot → ℕ → Reply → ℕ → ReindexRoot
root_with_answer (Alone s) ask reply now = Alone (slice_with_answer s ask reply now)
root_with_answer (Cut c) ask reply now = Cut (cut_with_answer c ask reply)

abbrev pub root_counts : ReindexRoot → Counts
root_counts (Alone s) = s.counts
root_counts (Cut c) = c.counts

-- what holds of the fields of a reindex
abbrev pub IsRoot : ReindexRoot → Type 0
IsRoot (Alone s) = IsSlice s
IsRoot (Cut c) = (capacity : ℕ) × IsCut c capacity

-- its own work, or that of asking for its slices
abbrev pub IsRootWork : TaskId → ReindexAsk → (shards : ℕ) → List Asked → List ℕ → ReindexRoot → Type 0
IsRootWork t ask shards asked came (Alone s) = (ask.slices ≡ 1) × IsSliceAt t ask 0 shards asked came s
IsRootWork t ask shards asked came (Cut c) = (ask.slices ≢ 1) × IsCutAt ask asked c

-- This reindex of an index with so many shards has made these asks, which were answered at these moments, and is in this state.
pub record IsRootAt (t : TaskId) (ask : ReindexAsk) (shards : ℕ) (asked : List Asked) (came : List ℕ) (r : ReindexRoot) : Type 0 where
  pub moments : length came ≡ length asked
  pub work : IsRootWork t ask shards asked came r
