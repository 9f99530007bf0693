-- A core stays sound where one of its live tasks changes by a call on the board, or ends by one.
use Rattle.std.proofs.Common.{◌≡◌, ℕ, Option, Some, None}
use Rattle.live_tasks.specs.declared.entry.Entry.{Entry}
use Rattle.live_tasks.specs.declared.live.LiveTasks.{LiveTasks}
use Rattle.live_tasks.specs.Live.{entry_at, ChangesAt, ChangesTask, SameCore}
use Rattle.live_tasks.specs.Ties.{Together}
use Rattle.entry_facts.proofs.Live.{changed_each, each_at}
use Rattle.data_core.specs.declared.state.DataCore.{DataCore}
use Rattle.data_core.specs.Cores.{IsSound, IsGoodEntry}
use Rattle.data_core.proofs.Sound.{tasks_sound}

module _ (allowed : ℕ → Type 0) (n m : ℕ) (has held : ℕ → ℕ → Type 0) (drawn unused : Option ℕ) (clear passed : ℕ → Type 0) (old : DataCore) (live : LiveTasks) where
  pub change_sound : (k : ℕ) (e f : Entry) → IsSound allowed n has drawn clear old → Together m held unused passed live → SameCore old.live live → entry_at old.live k ≡ Some e → ChangesTask old.live live k f
      → (IsGoodEntry allowed old.shards e → IsGoodEntry allowed old.shards f) → IsSound allowed m held unused passed (record old { live = live })
  change_sound k e f sound together core at change good =
      tasks_sound allowed n m has held drawn unused clear passed old live sound together core
      (changed_each (IsGoodEntry allowed old.shards) old.live live sound.good k (Some f) change.0 (good (each_at (IsGoodEntry allowed old.shards) old.live sound.good k e at)))

  pub gone_sound : (k : ℕ) → IsSound allowed n has drawn clear old → Together m held unused passed live → SameCore old.live live → ChangesAt (entry_at old.live) (entry_at live) k None → IsSound allowed m held unused passed (record old { live = live })
  gone_sound k sound together core gone =
      tasks_sound allowed n m has held drawn unused clear passed old live sound together core (changed_each (IsGoodEntry allowed old.shards) old.live live sound.good k None gone tt)
