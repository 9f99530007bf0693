-- What a core keeps of a live task and of its shards, by what is known of the run.
use Rattle.std.specs.Prelude.{◌≡◌, ℕ, true, List, [], Option, Some, None, IfSome, ⊤}
use Rattle.std.specs.List.{AllByRecursion}
use Rattle.task_ids.specs.declared.doc.Doc.{Doc}
use Rattle.task_events.specs.declared.step.Do.{Do}
use Rattle.task_events.specs.declared.step.Do.TheVariants as steps
use Rattle.task_work.specs.Works.{place_of}
use Rattle.data_parts.specs.declared.ending.Ending.{Ending}
use Rattle.data_parts.specs.declared.ending.Ending.TheVariants.{Refused, Marked, Finished}
use Rattle.held_shards.specs.Held.{holds, shard_at}
use Rattle.held_shards.specs.declared.HeldShards.{HeldShards}
use Rattle.live_tasks.specs.Live.{entry_at}
use Rattle.live_tasks.specs.declared.entry.Entry.{Entry}
use Rattle.live_tasks.specs.declared.live.LiveTasks.{LiveTasks}
use Rattle.reply_facts.specs.Letters.{IsPageAt, IsRequestAt}
use Rattle.reply_facts.specs.Settings.{IsSteady, Setting, lines_in}
use Rattle.work_facts.specs.Works.{IsWorkOfRun}

-- the writes of the shard on which a task works, where it works on one
abbrev pub writes_for : HeldShards → Option (List ℕ × ℕ) → List Doc
writes_for held None = []
writes_for held (Some place) = (shard_at held place.0 place.1).writes

-- each shard that is held of an index that stays has the lines of the run, and no other document
abbrev pub AreSteady : Setting → HeldShards → Type 0
AreSteady run held = (index : List ℕ) (shard : ℕ) → IsSteady run index → holds held shard ≡ true → (shard_at held index shard).writes ≡ lines_in run index shard

-- A live task of a run.
pub record IsEntryOfRun (run : Setting) (held : HeldShards) (e : Entry) : Type 0 where
  pub asked : IsRequestAt run e.place e.request
  pub shown : IfSome e.page (IsPageAt run e.place)
  -- it does what it was asked
  pub work : IsWorkOfRun run e.place e.running.ticket.id e.request e.page e.running.work
  -- the shard on which it works is held
  pub on : IfSome (place_of e.running.work) (λ p. holds held p.1 ≡ true)
  -- its children look through the rows of its search
  pub children : AllByRecursion (λ p. p.search ≡ e.place.search) e.asked

-- a task whose plan is this may end so: with the reply of the plan, or for a ban or a mark
abbrev pub EndsByPlan : Do → Ending → Type 0
EndsByPlan step (Finished reply) = step ≡ steps.Finish reply
EndsByPlan step (Refused cancel) = ⊤
EndsByPlan step (Marked cancel) = ⊤

-- P of each live task
abbrev pub EachLive : (Entry → Type 0) → LiveTasks → Type 0
EachLive P live = (n : ℕ) → IfSome (entry_at live n) P

-- What a core keeps of its tasks and shards, where its indices have so many shards.
pub record IsCoreOfRun (run : Setting) (shards : ℕ) (held : HeldShards) (live : LiveTasks) : Type 0 where
  pub tasks : EachLive (IsEntryOfRun run held) live
  pub steady : AreSteady run held
  pub as_many : shards ≡ run.shards
