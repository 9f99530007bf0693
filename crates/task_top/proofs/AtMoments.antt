-- What is known of a past of a run is known of each earlier moment of it.
use Rattle.std.proofs.Common.{◌≡◌, List, [], ◌++◌, refl, sym, subst, ◌∙◌, inl}
use Rattle.task_ids.specs.declared.cluster.Cluster.{Cluster}
use Rattle.task_ids.specs.declared.corpus.Corpus.{Corpus}
use Rattle.task_events.specs.declared.event.Event.{Event}
use Rattle.task_events.specs.Lawful.{Lawful}
use Rattle.script_lang.specs.declared.command.Script.{Script}
use Rattle.command_roots.specs.Roots.{scripted}
use Rattle.world_moves.specs.Owning.{OneAtATime}
use Rattle.world_moves.specs.Plain.{AnswersPlainly}
use Rattle.world_moves.proofs.Parts.{earlier_plain, earlier_alone}
use Rattle.world_steps.specs.Scripts.{IsRun, IsRunSoFar}
use Rattle.task_top.specs.declared.kept.Kept.{Kept}
use Rattle.top_parts.specs.declared.status.Status.{Status}
use Rattle.task_top.specs.Kept.{IsAfterReading, IsNothing, RanAsRead}
use Rattle.task_top.proofs.EarlierRuns.{nothing_before}
use Rattle.task_top.proofs.RanSoFar.{ran_so_far}

pub record IsPast (cluster : Cluster) (corpus : Corpus) (script : Script) (h : List Event) : Type 0 where
  pub ran : IsRunSoFar cluster corpus script h
  pub lawful : Lawful cluster h
  pub plain : AnswersPlainly cluster corpus script h
  pub alone : OneAtATime (scripted script) h

module _ (cluster : Cluster) where
  -- ---- a run

  module _ (earlier_lawful : (c : Cluster) (later h : List Event) → Lawful c (later ++ h) → Lawful c h)
      (earlier_run : (c : Cluster) (corpus : Corpus) (script : Script) (later h : List Event) → IsRunSoFar c corpus script (later ++ h) → IsRunSoFar c corpus script h) where
    sooner : (corpus : Corpus) (script : Script) (later h : List Event) → IsPast cluster corpus script (later ++ h) → IsPast cluster corpus script h
    sooner corpus script later h past = record {
      ran = earlier_run cluster corpus script later h past.ran;
      lawful = earlier_lawful cluster later h past.lawful;
      plain = earlier_plain cluster corpus script later h past.plain;
      alone = earlier_alone (scripted script) later h past.alone;
    }

    -- what was read ran so far at each moment
    pub past_of_run : ((c : Cluster) (corpus : Corpus) (script : Script) (h : List Event) → IsRun c corpus script h → IsRunSoFar c corpus script h) → (status : Status) (kept : Kept) → IsAfterReading status → RanAsRead cluster status kept
        → Lawful cluster kept.history → AnswersPlainly cluster kept.corpus kept.script kept.history → OneAtATime (scripted kept.script) kept.history → (later h : List Event) → later ++ h ≡ kept.history → IsPast cluster kept.corpus kept.script h
    past_of_run whole status kept after ran lawful plain alone later h e =
        sooner kept.corpus kept.script later h
        (subst (IsPast cluster kept.corpus kept.script) (sym e) (record { ran = ran_so_far cluster whole status kept after ran; lawful = lawful; plain = plain; alone = alone }))

  -- ---- where nothing happened

  at_start : (corpus : Corpus) (script : Script) → IsPast cluster corpus script []
  at_start corpus script = record { ran = inl (0, [], refl, inl refl); lawful = tt; plain = tt; alone = tt }

  pub past_of_nothing : (kept : Kept) → IsNothing kept → (later h : List Event) → later ++ h ≡ kept.history → IsPast cluster kept.corpus kept.script h
  past_of_nothing kept none later h e = subst (IsPast cluster kept.corpus kept.script) (sym (nothing_before later h (e ∙ none.no_event))) (at_start kept.corpus kept.script)
