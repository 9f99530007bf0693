-- The tables of tasks and messages fit the past after the clock has moved.
use Rattle.std.proofs.Common.{ℕ, List, ◌∷◌, Option, refl}
use Rattle.task_ids.specs.declared.cluster.Cluster.{Cluster}
use Rattle.task_ids.specs.declared.corpus.Corpus.{Corpus}
use Rattle.task_ids.specs.declared.task_id.TaskId.{TaskId}
use Rattle.script_lang.specs.declared.command.Script.{Script}
use Rattle.task_table.specs.Table.{Table}
use Rattle.task_events.specs.declared.event.Event.{Event}
use Rattle.task_events.specs.declared.event.Event.TheVariants.{Tick}
use Rattle.task_events.specs.Lawful.{AwaitsNoMark}
use Rattle.node_parts.specs.declared.running.Running.{Running}
use Rattle.command_roots.specs.Roots.{scripted}
use Rattle.world_moves.specs.declared.flight.Sent.{Sent}
use Rattle.world_moves.specs.Ties.{Ties}
use Rattle.world_moves.proofs.FlightAfter.{all_stay}
use Rattle.world_moves.proofs.KeptTasks.{kept_same}
use Rattle.world_moves.proofs.NodeTablesSame.{listed_same}

pub ticked : (cluster : Cluster) (corpus : Corpus) (script : Script) (h : List Event) (tasks : TaskId → Option Running) (tables : List Table) (flight : List Sent) → Ties cluster corpus script h tasks tables flight
    → AwaitsNoMark h → (ms : ℕ) → Ties cluster corpus script (Tick ms ∷ h) tasks tables flight
ticked cluster corpus script h tasks tables flight ties awaits ms = record {
  lawful = (tt, ties.lawful, awaits);
  kept = kept_same cluster corpus (scripted script) (Tick ms) h tasks refl refl ties.kept;
  listed = λ place. listed_same cluster (Tick ms) h (λ n. refl) refl place _ (ties.listed place);
  sent = all_stay (Tick ms) h flight _ ties.sent;
  good = ties.good;
  within = ties.within;
  plain = ties.plain;
}
