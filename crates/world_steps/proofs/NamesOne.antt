-- What a cancel of one task names, and the tables after one that named none.
use Rattle.std.proofs.Common.{◌≡◌, ℕ, Bool, true, false, List, [], ◌∷◌, Option, Some, None, refl}
use Rattle.task_ids.specs.declared.task_id.TaskId.{TaskId}
use Rattle.task_ids.specs.declared.cluster.Cluster.{Cluster}
use Rattle.task_ids.specs.declared.corpus.Corpus.{Corpus}
use Rattle.task_table.specs.Table.{Table}
use Rattle.script_lang.specs.declared.command.Script.{Script}
use Rattle.task_events.specs.declared.event.Event.{Event}
use Rattle.task_events.specs.declared.event.Event.TheVariants.{NotFound}
use Rattle.task_events.specs.Tasks.{is_live}
use Rattle.task_events.specs.Cancels.{beginning}
use Rattle.task_events.specs.Lawful.{AwaitsNoMark}
use Rattle.world_moves.specs.declared.flight.Sent.{Sent}
use Rattle.node_parts.specs.declared.running.Running.{Running}
use Rattle.world_moves.specs.Cancels.{after_cancel_of, after_naming}
use Rattle.command_roots.specs.Roots.{scripted}
use Rattle.world_moves.specs.Ties.{Ties}
use Rattle.world_moves.proofs.FlightAfter.{all_stay}
use Rattle.world_moves.proofs.KeptTasks.{kept_same}
use Rattle.world_moves.proofs.NodeTablesSame.{listed_same}

-- the task that it is about is not live, if there is one
pub names_none : (c : ℕ) (wait : Bool) (h : List Event) (o : Option TaskId) → ((t : TaskId) → o ≡ Some t → is_live t h ≡ false) → after_cancel_of c wait o h ≡ NotFound c ∷ h
names_none c wait h None gone = refl
names_none c wait h (Some t) gone = rw (gone t refl) refl

-- it is live
pub names_one : (c : ℕ) (wait : Bool) (h : List Event) (o : Option TaskId) (t : TaskId) → o ≡ Some t → is_live t h ≡ true → after_cancel_of c wait o h ≡ after_naming c wait (t ∷ []) h
names_one c wait h o t named live = rw (named, live) refl

pub ties_after_missing : (cluster : Cluster) (corpus : Corpus) (script : Script) (h : List Event) (tasks : TaskId → Option Running) (tables : List Table) (flight : List Sent) (c : ℕ)
    → Ties cluster corpus script h tasks tables flight → AwaitsNoMark h → beginning h ≡ Some c → Ties cluster corpus script (NotFound c ∷ h) tasks tables flight
ties_after_missing cluster corpus script h tasks tables flight c ties awaits begun = record {
  lawful = (begun, ties.lawful, awaits);
  kept = kept_same cluster corpus (scripted script) (NotFound c) h tasks refl refl ties.kept;
  listed = λ place. listed_same cluster (NotFound c) h (λ n. refl) refl place _ (ties.listed place);
  sent = all_stay (NotFound c) h flight _ ties.sent;
  good = ties.good;
  within = ties.within;
  plain = ties.plain;
}
