-- The ban of a child's parent on its node, by the table of the bans there.
use Rattle.std.proofs.Common.{◌≡◌, ◌<◌, ℕ, ◌+◌, ◌-◌, true, List, length, get_or, Option, Some, None, refl, ap, ◌∙◌, arith}
use Rattle.std.specs.Prelude.{slice_get}
use Rattle.std.specs.FinMap.{FinMap, get}
use Rattle.std.proofs.lemmas.Option.{slice_get_within, get_or_from_slice_get}
use Rattle.child_track.specs.Token.{token_parent}
use Rattle.task_ids.specs.declared.task_id.TaskId.{TaskId}
use Rattle.task_ids.specs.declared.cluster.Cluster.{Cluster}
use Rattle.task_ids.specs.TaskIdOrder.{task_id_cmp}
use Rattle.task_events.specs.declared.event.Event.{Event}
use Rattle.task_events.specs.Tasks.{is_live, parent_of}
use Rattle.task_events.specs.Bans.{ban_over, standing_ban}
use Rattle.task_events.specs.Lawful.{Lawful}
use Rattle.task_laws.proofs.Reach.{reach_facts}
use Rattle.world_moves.specs.Facts.{Facts, token_from}
use Rattle.world_moves.specs.Cancelling.{HasBansAt}
use Rattle.world_moves.proofs.AtPlace.{at_node}

-- the token of a task tells its parent
pub parent_told : (facts : Facts) → token_parent (token_from facts) ≡ facts.parent
parent_told facts = by_parent facts.parent refl
  where
    by_parent : (o : Option TaskId) → facts.parent ≡ o → token_parent (token_from facts) ≡ facts.parent
    by_parent None e = rw e refl
    by_parent (Some p) e = rw e refl

module _ (t : TaskId) (h : List Event) where
  pub no_parent : parent_of t h ≡ None → ban_over t h ≡ None
  no_parent e = rw e refl

  pub with_parent : (p : TaskId) → parent_of t h ≡ Some p → ban_over t h ≡ standing_ban t.node p h
  with_parent p e = rw e refl

module _ (cluster : Cluster) (h : List Event) (bans : List (FinMap task_id_cmp ℕ)) (l : Lawful cluster h) (stand : (place : ℕ) → HasBansAt cluster place h (slice_get bans place)) (t : TaskId) (live : is_live t h ≡ true) where
  there : (b : FinMap task_id_cmp ℕ) × (slice_get bans (t.node - 1) ≡ Some b)
  there = at_node bans cluster.nodes t.node (λ place e. rw e at (stand place)) t.node_in_range.0 ((reach_facts cluster h l).live_in t live)

  pub has_place : t.node - 1 < length bans
  has_place = slice_get_within bans (t.node - 1) there.0 there.1

  -- the bans that stand on its node, however they are read
  pub found : (b : FinMap task_id_cmp ℕ) → b ≡ get_or bans (t.node - 1) b → (p : TaskId) → get b p ≡ standing_ban t.node p h
  found b e p =
      let same : b ≡ there.0 = e ∙ get_or_from_slice_get bans (t.node - 1) there.0 b there.1 in
      let stands = rw there.1 at (stand (t.node - 1)) in
      let low = t.node_in_range.0 in
      let node : t.node - 1 + 1 ≡ t.node = omega (arith, low) in
      ap (λ x. get x p) same ∙ stands p ∙ ap (λ n. standing_ban n p h) node
