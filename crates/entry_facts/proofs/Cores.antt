-- What a core keeps of its tasks and shards stays with each change.
use Rattle.std.proofs.Common.{◌≡◌, ℕ, zero, suc, List, [], ◌∷◌, ◌++◌, take, Option, Some, None, refl, sym, subst}
use Rattle.std.specs.Prelude.{IfSome}
use Rattle.shard_docs.specs.ShardView.{ShardView}
use Rattle.task_ids.specs.declared.doc.Doc.{Doc}
use Rattle.task_work.specs.Works.{BrokeOff, docs_next, place_of}
use Rattle.task_work.specs.declared.work.Work.{Work}
use Rattle.held_shards.specs.Held.{HasLines, Replaces, SameShards, shard_at}
use Rattle.held_shards.specs.declared.HeldShards.{HeldShards}
use Rattle.live_tasks.specs.Entries.{with_work}
use Rattle.live_tasks.specs.Live.{ChangesAt, ChangesTask, entry_at}
use Rattle.live_tasks.specs.Turning.{TurnedOn}
use Rattle.live_tasks.specs.declared.entry.Entry.{Entry}
use Rattle.live_tasks.specs.declared.live.LiveTasks.{LiveTasks}
use Rattle.reply_facts.specs.Settings.{IsSteady, Setting}
use Rattle.entry_facts.specs.Entries.{IsCoreOfRun, IsEntryOfRun, writes_for}
use Rattle.entry_facts.proofs.Entries.{broken_of_run, held_of_run, turned_of_run}
use Rattle.entry_facts.proofs.Live.{changed_each, each_at, same_each, weaker_each}
use Rattle.entry_facts.proofs.Shards.{grown_steady, lines_steady, same_steady, writes_nothing}

take_none : (n : ℕ) (docs : List Doc) → docs ≡ [] → take n docs ≡ []
take_none zero docs none = refl
take_none (suc n) [] none = refl
take_none (suc n) (doc ∷ docs) none = absurd cc

module _ (run : Setting) (shards : ℕ) where
  -- a core with no live task and the lines of its run
  pub new_core : (held : HeldShards) (live : LiveTasks) → ((n : ℕ) → entry_at live n ≡ None) → HasLines run.corpus.lines run.shards held → shards ≡ run.shards → IsCoreOfRun run shards held live
  new_core held live none lines many = record {
    tasks = λ n. subst (λ o. IfSome o (IsEntryOfRun run held)) (sym (none n)) tt;
    steady = lines_steady run held lines;
    as_many = many;
  }

  module _ (held : HeldShards) (old : LiveTasks) (h : IsCoreOfRun run shards held old) where
    -- one task changes, comes or goes
    pub task_changed : (new : LiveTasks) (n : ℕ) (o : Option Entry) → ChangesAt (entry_at old) (entry_at new) n o → IfSome o (IsEntryOfRun run held) → IsCoreOfRun run shards held new
    task_changed new n o changes here = record { tasks = changed_each (IsEntryOfRun run held) old new h.tasks n o changes here; steady = h.steady; as_many = h.as_many }

    pub tasks_same : (new : LiveTasks) → ((n : ℕ) → entry_at new n ≡ entry_at old n) → IsCoreOfRun run shards held new
    tasks_same new same = record { tasks = same_each (IsEntryOfRun run held) old new h.tasks same; steady = h.steady; as_many = h.as_many }

    pub task_at : (n : ℕ) (e : Entry) → entry_at old n ≡ Some e → IsEntryOfRun run held e
    task_at n e is = each_at (IsEntryOfRun run held) old h.tasks n e is

    -- one task goes on as this
    pub task_goes_on : (new : LiveTasks) (n : ℕ) (e f : Entry) → entry_at old n ≡ Some e → ChangesTask old new n f → (IsEntryOfRun run held e → IsEntryOfRun run held f) → IsCoreOfRun run shards held new
    task_goes_on new n e f is change goes_on = task_changed new n (Some f) change.0 (goes_on (task_at n e is))

    -- a shard is made, with no document
    pub shards_same : (after : HeldShards) → SameShards held after → after.numbers ≡ held.numbers → IsCoreOfRun run shards after old
    shards_same after same numbers = record {
      tasks = weaker_each (IsEntryOfRun run held) (IsEntryOfRun run after) (λ e k. held_of_run run held after e numbers k) old h.tasks;
      steady = same_steady run held after same numbers h.steady;
      as_many = h.as_many;
    }

    -- a task takes a turn over its shard
    module _ (after : HeldShards) (new : LiveTasks) (n : ℕ) (e : Entry) (w : Work) (is : entry_at old n ≡ Some e) (changes : ChangesAt (entry_at old) (entry_at new) n (Some (with_work e w)))
        (index : List ℕ) (number : ℕ) (at : place_of e.running.work ≡ Some (index, number)) (left : ShardView) (replaces : Replaces index number left held after) (numbers : after.numbers ≡ held.numbers) where
      worked : (more : List Doc) → left.writes ≡ (shard_at held index number).writes ++ more → (IsSteady run index → more ≡ []) → IsEntryOfRun run held (with_work e w) → IsCoreOfRun run shards after new
      worked more grown nothing here = record {
        tasks = changed_each (IsEntryOfRun run after) old new (weaker_each (IsEntryOfRun run held) (IsEntryOfRun run after) (λ x k. held_of_run run held after x numbers k) old h.tasks) n (Some (with_work e w)) changes
            (held_of_run run held after (with_work e w) numbers here);
        steady = grown_steady run held after index number left more replaces grown nothing numbers h.steady;
        as_many = h.as_many;
      }

      nothing_written : IsSteady run index → docs_next e.running.work ≡ []
      nothing_written steady = writes_nothing run e.place e.running.work index number at (task_at n e is).work.keeps steady

      pub turned_core : (now : List Doc) → left.writes ≡ (shard_at held index number).writes ++ docs_next e.running.work → TurnedOn e.running.work w (writes_for held (place_of e.running.work)) now → IsCoreOfRun run shards after new
      turned_core now grown turned = worked (docs_next e.running.work) grown nothing_written (turned_of_run run held h.steady e w (task_at n e is) now turned)

      pub broken_core : (written : ℕ) (now : List Doc) → left.writes ≡ (shard_at held index number).writes ++ take written (docs_next e.running.work) → BrokeOff e.running.work w (writes_for held (place_of e.running.work)) now → IsCoreOfRun run shards after new
      broken_core written now grown broke =
          worked (take written (docs_next e.running.work)) grown (λ steady. take_none written (docs_next e.running.work) (nothing_written steady)) (broken_of_run run held h.steady e w (task_at n e is) now broke)
