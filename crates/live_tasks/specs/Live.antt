-- The live tasks of a data worker, as contracts see them.
use Rattle.std.specs.Prelude.{◌≡◌, ◌≢◌, ℕ, ◌<◌, Option, None, Some, ⊤}
use Rattle.std.specs.BTreeMap.{BTreeMap, get, btree_map_len}
use Rattle.std.specs.Ordering.{nat_cmp}
use Rattle.task_ids.specs.declared.task_id.TaskId.{TaskId}
use Rattle.node_link.specs.declared.body.Place.{Place}
use Rattle.live_tasks.specs.Order.{place_cmp}
use Rattle.live_tasks.specs.declared.entry.Entry.{Entry}
use Rattle.live_tasks.specs.declared.live.LiveTasks.{LiveTasks}

-- the live task of a number
abbrev pub entry_at : LiveTasks → ℕ → Option Entry
entry_at live n = get nat_cmp live.tasks n

-- the number of the live task at a place
abbrev pub number_at : LiveTasks → Place → Option ℕ
number_at live p = get place_cmp live.places p

-- how many tasks are live
abbrev pub count : LiveTasks → ℕ
count live = btree_map_len live.tasks

-- the number is above that of the task, where there is one
abbrev pub IsBeyond : Option TaskId → ℕ → Type 0
IsBeyond None n = ⊤
IsBeyond (Some t) n = t.number < n

-- the live task with this id
abbrev pub HasId : TaskId → Option Entry → Type 0
HasId t None = ⊥
HasId t (Some e) = e.running.ticket.id ≡ t

-- at one key there is this, and at each other what there was
abbrev pub ChangesAt : {K X : Type 0} → (K → Option X) → (K → Option X) → K → Option X → Type 0
ChangesAt old new k x = (new k ≡ x) × ((q : _) → q ≢ k → new q ≡ old q)

-- the same tasks are live at the same places
abbrev pub SameTasks : LiveTasks → LiveTasks → Type 0
SameTasks old new = ((n : ℕ) → entry_at new n ≡ entry_at old n) × ((p : Place) → number_at new p ≡ number_at old p) × (count new ≡ count old)

-- whose core it is stays, and how many tasks may be live
abbrev pub SameCore : LiveTasks → LiveTasks → Type 0
SameCore old new = (new.node ≡ old.node) × (new.quota ≡ old.quota)

-- one live task changes, to this, and keeps its place
abbrev pub ChangesTask : LiveTasks → LiveTasks → ℕ → Entry → Type 0
ChangesTask old new n e = ChangesAt (entry_at old) (entry_at new) n (Some e) × ((p : Place) → number_at new p ≡ number_at old p) × (count new ≡ count old) × (new.drawn ≡ old.drawn)

-- one task of a table changes, to this
abbrev pub ChangesOne : BTreeMap ℕ Entry → BTreeMap ℕ Entry → ℕ → Entry → Type 0
ChangesOne old new n e = ChangesAt (get nat_cmp old) (get nat_cmp new) n (Some e) × (btree_map_len new ≡ btree_map_len old)
