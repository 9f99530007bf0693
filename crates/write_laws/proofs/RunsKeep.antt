-- In a run each task keeps to its kind.
use Rattle.std.proofs.Common.{◌≡◌, false, List}
use Rattle.task_ids.specs.declared.cluster.Cluster.{Cluster}
use Rattle.task_ids.specs.declared.corpus.Corpus.{Corpus}
use Rattle.task_events.specs.declared.event.Event.{Event}
use Rattle.task_events.specs.declared.event.Event.TheVariants.{Ask, Write}
use Rattle.task_events.specs.Requests.{Scripted}
use Rattle.script_lang.specs.declared.command.Script.{Script}
use Rattle.command_roots.specs.Roots.{scripted}
use Rattle.world_steps.specs.Scripts.{IsRunSoFar}
use Rattle.write_laws.specs.KindsAsked.{KeepsToKind, KeepsToKinds}
use Rattle.write_laws.proofs.EachRun.{each_run, is_own}
use Rattle.write_laws.proofs.StepsKeep.{step_keeps, turn_keeps}

-- what is no step of a task asks for nothing and writes nothing
one_kept : (said : Scripted) (e : Event) (h : List Event) → is_own e ≡ false → KeepsToKind said e h
one_kept said (Ask p k n child) h quiet = absurd (cc)
one_kept said (Write index shard outcome id) h quiet = absurd (cc)
one_kept said _ h quiet = tt

pub run_keeps : (cluster : Cluster) (corpus : Corpus) (script : Script) (h : List Event) → IsRunSoFar cluster corpus script h → KeepsToKinds (scripted script) h
run_keeps cluster corpus script =
    each_run (KeepsToKinds (scripted script)) (KeepsToKinds (scripted script)) (λ h keeps. keeps) (λ e h keeps. keeps.1) (λ e h quiet keeps. (one_kept (scripted script) e h quiet, keeps)) cluster corpus script tt
    (λ t h e next alone keeps. (step_keeps cluster corpus (scripted script) t h e next, keeps))
    (λ t u h next keeps. turn_keeps (scripted script) u cluster corpus h keeps)
