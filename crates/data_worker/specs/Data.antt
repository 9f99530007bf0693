-- What a data worker does as a kind of worker.
use Rattle.std.specs.Prelude.{◌≡◌, ◌<◌, ◌⊎◌, ℕ, Bool, true, false, List, [], Option, None, Some, filter_map}
use Rattle.task_ids.specs.declared.task_id.TaskId.{TaskId}
use Rattle.node_boards.specs.Calls.{DataCall}
use Rattle.node_link.specs.declared.body.Body.{Body}
use Rattle.node_link.specs.declared.body.Body.TheVariants as says
use Rattle.run_facts.specs.declared.To.TheVariants as to
use Rattle.live_tasks.specs.declared.entry.Entry.{Entry}
use Rattle.live_tasks.specs.declared.live.LiveTasks.{LiveTasks}
use Rattle.live_tasks.specs.Live.{entry_at, IsBeyond, HasId}
use Rattle.data_core.specs.declared.state.DataCore.{DataCore}
use Rattle.data_core.specs.Cores.{IsSound}
use Rattle.data_core.specs.Turns.{Posts, post, Turned}
use Rattle.data_core.specs.Steps as core
use Rattle.reply_facts.specs.Settings.{Setting}
use Rattle.entry_facts.specs.Entries.{IsCoreOfRun}
use Rattle.data_worker.specs.declared.state.DataState.{DataState}
use Rattle.data_worker.specs.Posts.{addressed}
use Rattle.node_worker.specs.declared.post.Post.{Post}
use Rattle.node_worker.specs.Turns.{Given, took, stepped, waited}

-- what contracts see of it: its core, its seat of the board, the task of its last step, and whether it has said that it has left
pub record Seen (B : Type 0) : Type 0 where
  pub core : DataCore
  pub board : B
  pub last : Option TaskId
  pub has_said : Bool

abbrev pub seen : {W B : Type 0} → DataState W B → Seen B
seen state = record { core = state.core; board = state.board; last = state.last; has_said = state.has_said }

-- these letters, each with the number of its inbox
abbrev pub sent : DataCore → Posts → List (Post Body)
sent core gave = filter_map (addressed core.cluster.nodes core.pool.workers) gave

-- no task is live
abbrev pub HasNone : LiveTasks → Type 0
HasNone live = (n : ℕ) → entry_at live n ≡ None

-- the next live task above one, or the lowest where none is above it
pub record IsNextInTurn (last : Option TaskId) (task : TaskId) (live : LiveTasks) : Type 0 where
  pub is_live : HasId task (entry_at live task.number)
  pub order : (IsBeyond last task.number × ((n : ℕ) → IsBeyond last n → n < task.number → entry_at live n ≡ None))
      ⊎ (((n : ℕ) → IsBeyond last n → entry_at live n ≡ None) × ((n : ℕ) → n < task.number → entry_at live n ≡ None))

module _ {B : Type 0} where
  -- it had not said that it has left; it was told to leave, and no task is live
  pub record MaySay (v : Seen B) : Type 0 where
    pub unsaid : v.has_said ≡ false
    pub leaving : v.core.leaving ≡ true
    pub none : HasNone v.core.live

  -- it tells the control worker of its node that it has left
  pub record Saying (posts : List (Post Body)) (v w : Seen B) : Type 0 where
    pub may : MaySay v
    pub given : posts ≡ sent v.core (post (to.Control v.core.node) (says.DataLeft v.core.worker))
    pub now : w ≡ record v { has_said = true }

  unfoldable pub Said : List (Post Body) → Seen B → Seen B → Type 0
  Said posts v w = Saying posts v w

  -- it has said that it has left, and no task is live
  pub record Rests (v : Seen B) : Type 0 where
    pub said : v.has_said ≡ true
    pub none : HasNone v.core.live

module _ {B : Type 0} (rests : B → B → DataCall → Type 0) where
  -- a turn of its core, whose letters go to their inboxes
  pub record Taking (letter : Body) (posts : List (Post Body)) (v w : Seen B) : Type 0 where
    pub gave : Posts
    pub turned : Turned rests letter v.board v.core gave w.core w.board
    pub given : posts ≡ sent v.core gave
    pub last : w.last ≡ v.last
    pub said : w.has_said ≡ v.has_said

  unfoldable pub Took : Body → List (Post Body) → Seen B → Seen B → Type 0
  Took letter posts v w = Taking letter posts v w

  -- a step of the task whose turn it is
  pub record Stepping (gave : core.Given) (v w : Seen B) : Type 0 where
    pub task : TaskId
    pub next : IsNextInTurn v.last task v.core.live
    pub entry : Entry
    pub live : entry_at v.core.live task.number ≡ Some entry
    pub stepped : core.Stepped rests entry v.board v.core gave w.core w.board
    pub last : w.last ≡ Some task
    pub said : w.has_said ≡ v.has_said

  -- a step that goes on, whose letters go to their inboxes
  unfoldable pub Stepped : List (Post Body) → Seen B → Seen B → Type 0
  Stepped posts v w = (gave : Posts) × Stepping (Some gave) v w × (posts ≡ sent v.core gave)

  -- the step of the task whose turn it is waits; or no task is live, and it has nothing to say
  unfoldable pub Waited : Seen B → Seen B → Type 0
  Waited v w = Stepping None v w ⊎ (HasNone v.core.live × (MaySay v → ⊥) × (w ≡ v))

  abbrev pub Does : Seen B → Given → List (Post Body) → Seen B → Type 0
  Does v (took letter) posts w = Took letter posts v w
  Does v stepped posts w = Stepped posts v w ⊎ Said posts v w
  Does v waited posts w = (posts ≡ []) × Waited v w

-- the core belongs to the seat
abbrev pub Fits : {B : Type 0} → (B → ℕ) → (B → ℕ → ℕ → Type 0) → (B → Option ℕ) → (B → ℕ → Type 0) → (ℕ → Type 0) → DataCore → B → Type 0
Fits node has drawn clear allowed core board = IsSound allowed (node board) (has board) (drawn board) (clear board) core

-- the core keeps what is known of the run
abbrev pub IsOfRun : Setting → DataCore → Type 0
IsOfRun run core = IsCoreOfRun run core.cluster.shards core.shards core.live
