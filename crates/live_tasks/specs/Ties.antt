-- What a core keeps of its live tasks, and that it belongs to its seat at the board.
use Rattle.std.specs.Prelude.{◌≡◌, ℕ, ◌↔◌, length, slice_index_or, false, true, Option, None, Some, IfSome, ⊤}
use Rattle.task_ids.specs.Limits.{IsNode, IsNumber}
use Rattle.child_track.specs.Token.{token_parent}
use Rattle.child_track.specs.Track.{Track}
use Rattle.race_board.specs.Keys.{parent_key}
use Rattle.node_link.specs.declared.body.Place.{Place}
use Rattle.live_tasks.specs.declared.entry.Entry.{Entry}
use Rattle.live_tasks.specs.declared.live.LiveTasks.{LiveTasks}
use Rattle.live_tasks.specs.Live.{entry_at, number_at}

-- a live task whose parent has this key
abbrev pub HasParent : ℕ → Option Entry → Type 0
HasParent p None = ⊥
HasParent p (Some e) = parent_key (token_parent e.running.ticket.token) ≡ p

-- a live task at this place
abbrev pub HasPlace : Place → Option Entry → Type 0
HasPlace p None = ⊥
HasPlace p (Some e) = e.place ≡ p

-- each unanswered ask went to a node
abbrev pub AskedOnNodes : Track → Type 0
AskedOnNodes track = (i : ℕ) → IfSome (slice_index_or track.asks i None) IsNode

-- a live task of this node under its number, with a place for each of its asks
pub record IsEntry (node n : ℕ) (e : Entry) : Type 0 where
  pub of_node : e.running.ticket.id.node ≡ node
  pub numbered : e.running.ticket.id.number ≡ n
  pub tracked : e.running.track.task ≡ e.running.ticket.id
  pub placed : length e.asked ≡ length e.running.track.asks
  pub on_nodes : AskedOnNodes e.running.track

-- each live task is kept under its number and found by its place
pub record AreTasks (node : ℕ) (at : ℕ → Option Entry) (number : Place → Option ℕ) : Type 0 where
  pub entries : (n : ℕ) → IfSome (at n) (IsEntry node n)
  pub places : (p : Place) (n : ℕ) → (number p ≡ Some n) ↔ HasPlace p (at n)

-- the check of this live task was clear, unless it is still to come
abbrev pub HasPassed : (ℕ → Type 0) → ℕ → Entry → Type 0
HasPassed clear n e = e.running.is_new ≡ false → clear n

-- the seat has the tickets of these tasks and no other, and each that is not new is clear
pub record AreSeated (has : ℕ → ℕ → Type 0) (clear : ℕ → Type 0) (at : ℕ → Option Entry) : Type 0 where
  pub tickets : (n p : ℕ) → has n p ↔ HasParent p (at n)
  pub passed : (n : ℕ) → IfSome (at n) (HasPassed clear n)

-- a core and a seat belong together: of one node, with one drawn number, and for the same tasks
pub record Together (node : ℕ) (has : ℕ → ℕ → Type 0) (drawn : Option ℕ) (clear : ℕ → Type 0) (live : LiveTasks) : Type 0 where
  pub of_node : live.node ≡ node
  pub in_range : IsNode live.node
  pub number : drawn ≡ live.drawn
  pub numbered : IfSome live.drawn IsNumber
  pub tasks : AreTasks live.node (entry_at live) (number_at live)
  pub seated : AreSeated has clear (entry_at live)

-- a live task whose check is still to come
abbrev pub IsNew : Option Entry → Type 0
IsNew None = ⊥
IsNew (Some e) = e.running.is_new ≡ true

-- a live task that has passed
abbrev pub IsPassed : Option Entry → Type 0
IsPassed None = ⊥
IsPassed (Some e) = e.running.is_new ≡ false

-- a core of this node with no task and no number
pub record IsNewCore (node : ℕ) (live : LiveTasks) : Type 0 where
  pub in_range : IsNode node
  pub of_node : live.node ≡ node
  pub drawn : live.drawn ≡ None
  pub tasks : (n : ℕ) → entry_at live n ≡ None
  pub places : (p : Place) → number_at live p ≡ None

-- a live task still has its ticket, and is new exactly if it was
abbrev pub KeepsRight : Option Entry → Option Entry → Type 0
KeepsRight None None = ⊤
KeepsRight None (Some f) = ⊥
KeepsRight (Some e) None = ⊥
KeepsRight (Some e) (Some f) = (f.running.ticket ≡ e.running.ticket) × (f.running.is_new ≡ e.running.is_new)

-- a core belongs to each seat to which it belonged before
pub record StaysTogether (old new : LiveTasks) : Type 0 where
  pub of_node : new.node ≡ old.node
  pub drawn : new.drawn ≡ old.drawn
  pub tasks : AreTasks new.node (entry_at new) (number_at new)
  pub rights : (n : ℕ) → KeepsRight (entry_at old n) (entry_at new n)
