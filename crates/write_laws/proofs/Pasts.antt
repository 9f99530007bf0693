-- What is known of the past of a run, at each moment of it.
use Rattle.std.proofs.Common.{List, ◌∷◌}
use Rattle.task_ids.specs.declared.cluster.Cluster.{Cluster}
use Rattle.task_ids.specs.declared.corpus.Corpus.{Corpus}
use Rattle.task_events.specs.declared.event.Event.{Event}
use Rattle.task_events.specs.declared.event.Event.TheVariants.{End}
use Rattle.task_events.specs.Lawful.{Lawful}
use Rattle.script_lang.specs.declared.command.Script.{Script}
use Rattle.command_roots.specs.Roots.{scripted}
use Rattle.world_moves.specs.Plain.{AnswersPlainly}
use Rattle.write_laws.specs.KindsAsked.{KeepsToKinds}
use Rattle.write_laws.proofs.RootsFit.{RootsFit, fit_before}
use Rattle.write_laws.proofs.WholeTurns.{AllPlanned}

pub record IsPast (cluster : Cluster) (corpus : Corpus) (script : Script) (h : List Event) : Type 0 where
  pub lawful : Lawful cluster h
  pub keeps : KeepsToKinds (scripted script) h
  pub planned : AllPlanned cluster corpus (scripted script) h
  pub plain : AnswersPlainly cluster corpus script h
  pub fit : RootsFit (scripted script) h

module _ (cluster : Cluster) (corpus : Corpus) (script : Script) where
  plain_before : (e : Event) (h : List Event) → AnswersPlainly cluster corpus script (e ∷ h) → AnswersPlainly cluster corpus script h
  plain_before (End t reply) h plain = plain.1
  plain_before _ h plain = plain

  -- so it was at each earlier moment
  pub earlier : (e : Event) (h : List Event) → IsPast cluster corpus script (e ∷ h) → IsPast cluster corpus script h
  earlier e h past = record {
    lawful = past.lawful.1;
    keeps = past.keeps.1;
    planned = past.planned.1;
    plain = plain_before e h past.plain;
    fit = fit_before (scripted script) e h past.fit;
  }
