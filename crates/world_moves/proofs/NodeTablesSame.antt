-- What a node's table lists after an event.
use Rattle.std.proofs.Common.{◌≡◌, ◌==◌, ℕ, ◌+◌, List, ◌∷◌, Option, Some, None, sym, ap, ◌∙◌, filter, reverse}
use Rattle.task_ids.specs.declared.cluster.Cluster.{Cluster}
use Rattle.task_table.specs.Table.{Table}
use Rattle.task_events.specs.declared.event.Event.{Event}
use Rattle.task_events.specs.Tasks.{live_tasks, last_number}
use Rattle.world_moves.specs.Ties.{IsTableAt}

-- an event that starts and ends no task
pub listed_same : (cluster : Cluster) (e : Event) (h : List Event) → ((n : ℕ) → last_number n (e ∷ h) ≡ last_number n h) → live_tasks (e ∷ h) ≡ live_tasks h
    → (place : ℕ) (o : Option Table) → IsTableAt cluster place h o → IsTableAt cluster place (e ∷ h) o
listed_same cluster e h last live place None i = i
listed_same cluster e h last live place (Some table) i = record {
  node_is = i.node_is;
  slots_are = i.slots_are;
  last_is = i.last_is ∙ sym (last (place + 1));
  lists = i.lists ∙ sym (ap (λ ts. reverse (filter (λ t. (place + 1) == t.node) ts)) live);
}
