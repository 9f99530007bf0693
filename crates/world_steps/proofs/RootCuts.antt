-- A root that does not lack a number is cut short by a full history.
use Rattle.std.proofs.Common.{◌≡◌, ◌≤◌, ◌∷◌, ℕ, Bool, true, false, List, length, inl, inr, refl}
use Rattle.task_ids.specs.declared.cluster.Cluster.{Cluster}
use Rattle.task_events.specs.declared.event.Event.{Event}
use Rattle.task_events.specs.declared.event.Event.TheVariants.{Root, RootRejected}
use Rattle.task_events.specs.declared.history.TheConstants.{MAX_EVENTS}
use Rattle.world_moves.specs.Moves.{IsCutShort, IsPartly, NodeLacksNumber, Starts}
use Rattle.world_moves.proofs.CutShort.{cut_only}
use Rattle.world_moves.proofs.NextNumbers.{slot_or_none}

pub root_cut : (cluster : Cluster) (h : List Event) (command node : ℕ) → 1 ≤ node → node ≤ cluster.nodes → (NodeLacksNumber cluster h node → ⊥) → length h ≡ MAX_EVENTS
    → IsCutShort (IsPartly (λ x y. (started : Bool) × Starts cluster x command node started y) h) h
root_cut cluster h command node low high has full = elim (slot_or_none cluster h node low high has) [
  | inl takes ↦ cut_only (λ x y. (started : Bool) × Starts cluster x command node started y) h h (Root command takes.0) (true, (Root command takes.0, (takes.2, takes.1, refl), refl)) full refl
  | inr none ↦ cut_only (λ x y. (started : Bool) × Starts cluster x command node started y) h h (RootRejected command node) (false, (RootRejected command node, (none, refl, refl), refl)) full refl
]
