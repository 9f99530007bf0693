-- What a control worker does as a kind of worker.
use Rattle.std.specs.Prelude.{◌≡◌, ◌≤◌, ℕ, true, false, List, []}
use Rattle.child_track.specs.NodeSet.{has_node}
use Rattle.node_boards.specs.Calls.{ControlCall}
use Rattle.node_boards.specs.Seats.{HasNoBan}
use Rattle.control_worker.specs.declared.act.ControlAct.{ControlAct}
use Rattle.control_worker.specs.View.{View, view_of, IsIdle}
use Rattle.control_worker.specs.Turn.{Turned}
use Rattle.control_worker.specs.Together.{Together}
use Rattle.node_link.specs.declared.body.Body.{Body}
use Rattle.node_worker.specs.declared.control_state.ControlState.{ControlState}
use Rattle.node_worker.specs.declared.left.Left.{Left}
use Rattle.node_worker.specs.declared.post.Post.{Post}
use Rattle.node_worker.specs.Turns.{Given, took, stepped, waited}
use Rattle.node_worker.specs.ControlPosts.{act_posts, left_posts}
use Rattle.node_worker.specs.Leaving.{Noted}

-- what contracts see of it: how many nodes its cluster has, its core, its seat of the board, and who has left
pub record Seen (B : Type 0) : Type 0 where
  pub nodes : ℕ
  pub core : View
  pub board : B
  pub left : Left

abbrev pub seen : {N B : Type 0} → ControlState N B → Seen B
seen state = record { nodes = state.cluster.nodes; core = view_of state.core; board = state.board; left = state.left }

module _ {B : Type 0} where
  -- it has not said that it has left; its data workers have, and no cancellation is under way
  pub record MaySay (v : Seen B) : Type 0 where
    pub unsaid : v.left.has_said ≡ false
    pub data_left : (n : ℕ) → 1 ≤ n → n ≤ v.core.workers → has_node v.left.«data» n ≡ true
    pub idle : IsIdle v.core

  -- it might say that it has left, and says so
  pub record Saying (posts : List (Post Body)) (v w : Seen B) : Type 0 where
    pub may : MaySay v
    pub given : posts ≡ left_posts v.core.workers v.core.node v.nodes
    pub now : w ≡ record v { left = record v.left { has_said = true } }

  unfoldable pub Said : List (Post Body) → Seen B → Seen B → Type 0
  Said posts v w = Saying posts v w

module _ {B : Type 0} (rests : B → B → ControlCall → Type 0) where
  -- a turn of its core, whose acts it gives as letters; and who has left is noted
  pub record Taking (letter : Body) (posts : List (Post Body)) (v w : Seen B) : Type 0 where
    pub acts : List ControlAct
    pub turned : Turned rests v.board v.core letter acts w.core w.board
    pub given : posts ≡ act_posts v.core.workers v.nodes v.core.node acts
    pub left : Noted letter v.left w.left
    pub nodes : w.nodes ≡ v.nodes

  unfoldable pub Took : Body → List (Post Body) → Seen B → Seen B → Type 0
  Took letter posts v w = Taking letter posts v w

  -- it waits only where it may not say that it has left
  abbrev pub Does : Seen B → Given → List (Post Body) → Seen B → Type 0
  Does v (took letter) posts w = Took letter posts v w
  Does v stepped posts w = Said posts v w
  Does v waited posts w = (posts ≡ []) × (w ≡ v) × ¬ MaySay v

module _ {B : Type 0} (bans : B → ℕ → ℕ → ℕ → Type 0) where
  -- it has said that it has left, and so have all others; and no ban stands on the board, nor is one kept back
  pub record Rests (v : Seen B) : Type 0 where
    pub said : v.left.has_said ≡ true
    pub told : (n : ℕ) → 1 ≤ n → n ≤ v.nodes → has_node v.left.control n ≡ true
    pub clear : HasNoBan (bans v.board)
    pub kept : v.core.kept ≡ []

-- the core belongs to the seat
abbrev pub Fits : {B : Type 0} → (B → ℕ → ℕ → ℕ → Type 0) → (B → ℕ) → (ℕ → Type 0) → Seen B → Type 0
Fits bans slots allowed v = Together (bans v.board) (slots v.board) allowed v.core
