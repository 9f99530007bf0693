-- What a control worker did as a kind of worker.
use Rattle.std.proofs.Common.{◌≡◌, ◌≤◌, ℕ, true, false, List, [], ◌∙◌}
use Rattle.task_ids.specs.declared.task_id.TaskId.{TaskId}
use Rattle.child_track.specs.NodeSet.{has_node}
use Rattle.node_boards.specs.Calls.{ControlCall}
use Rattle.control_worker.specs.declared.act.ControlAct.{ControlAct}
use Rattle.control_worker.specs.View.{has_ban}
use Rattle.control_worker.specs.Turn.{Turned}
use Rattle.control_worker.specs.Together.{Together}
use Rattle.control_worker.proofs.Belonging.{no_bans, none_banned}
use Rattle.node_link.specs.declared.body.Body.{Body}
use Rattle.node_worker.specs.declared.post.Post.{Post}
use Rattle.node_worker.specs.Control.{Seen, Took, MaySay, Said, Rests}
use Rattle.node_worker.specs.ControlPosts.{act_posts, left_posts}
use Rattle.node_worker.specs.Leaving.{Noted}

module _ {B : Type 0} where
  pub said_once : (v w : Seen B) (posts : List (Post Body)) (workers node : ℕ) → MaySay v → workers ≡ v.core.workers → node ≡ v.core.node → posts ≡ left_posts workers node v.nodes → w ≡ record v { left = record v.left { has_said = true } } → Said posts v w
  unfolding Said
  said_once v w posts workers node may many own given now = record {
    may = may;
    given = given ∙ (λ i. left_posts (many i) (own i) v.nodes);
    now = now;
  }

module _ {B : Type 0} (rests : B → B → ControlCall → Type 0) where
  pub took_letter : (v w : Seen B) (letter : Body) (posts : List (Post Body)) (acts : List ControlAct) (workers node : ℕ) → Turned rests v.board v.core letter acts w.core w.board → workers ≡ v.core.workers → node ≡ v.core.node → posts ≡ act_posts workers v.nodes node acts
      → Noted letter v.left w.left → w.nodes ≡ v.nodes → Took rests letter posts v w
  unfolding Took
  took_letter v w letter posts acts workers node turned many own given left nodes = record {
    acts = acts;
    turned = turned;
    given = given ∙ (λ i. act_posts (many i) v.nodes (own i) acts);
    left = left;
    nodes = nodes;
  }

-- a core that knows of no ban rests on a board with none
pub rests_clear : {B : Type 0} (bans : B → ℕ → ℕ → ℕ → Type 0) (slots : ℕ) (allowed : ℕ → Type 0) (v : Seen B) → Together (bans v.board) slots allowed v.core → v.left.has_said ≡ true
    → ((n : ℕ) → 1 ≤ n → n ≤ v.nodes → has_node v.left.control n ≡ true) → ((parent : TaskId) → has_ban v.core parent ≡ false) → v.core.kept ≡ [] → Rests bans v
rests_clear bans slots allowed v t said told none kept = record {
  said = said;
  told = told;
  clear = no_bans (bans v.board) slots allowed v.core v.core t none;
  kept = kept;
}

-- and one that rests has a core that knows of no ban
pub rests_known : {B : Type 0} (bans : B → ℕ → ℕ → ℕ → Type 0) (slots : ℕ) (allowed : ℕ → Type 0) (v : Seen B) → Together (bans v.board) slots allowed v.core → Rests bans v → (parent : TaskId) → has_ban v.core parent ≡ false
rests_known bans slots allowed v t rests = none_banned (bans v.board) slots allowed v.core v.core t rests.clear
