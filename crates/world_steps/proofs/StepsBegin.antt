-- A step begins with the next event of its task; so where the history is full it is cut short.
use Rattle.std.proofs.Common.{◌≡◌, true, List, [], ◌∷◌, ◌++◌, length, Option, Some, None, refl, sym, subst}
use Rattle.std.specs.Prelude.{is_some}
use Rattle.std.specs.Option.{option_map_or}
use Rattle.task_ids.specs.declared.task_id.TaskId.{TaskId}
use Rattle.task_ids.specs.declared.cluster.Cluster.{Cluster}
use Rattle.task_ids.specs.declared.corpus.Corpus.{Corpus}
use Rattle.task_events.specs.declared.event.Event.{Event}
use Rattle.task_events.specs.declared.event.Event.TheVariants.{Acked, Refuse, Work, End}
use Rattle.task_events.specs.declared.history.TheConstants.{MAX_EVENTS}
use Rattle.task_events.specs.Steps.{turns_of}
use Rattle.task_events.specs.Written.{corpus_at, turn_notes}
use Rattle.task_events.specs.Requests.{request_of}
use Rattle.command_roots.specs.Roots.{scripted}
use Rattle.script_lang.specs.declared.command.Script.{Script}
use Rattle.task_laws.proofs.Numbers.{both}
use Rattle.world_moves.specs.Cancels.{with_due}
use Rattle.world_moves.specs.Moves.{IsCutShort, IsPartly, IsPartOf}
use Rattle.world_moves.proofs.CutShort.{cut_first, cut_move}
use Rattle.world_moves.proofs.NoteParts.{grown_by}
use Rattle.world_steps.specs.Runs.{next_of, after_step, Steps, is_ready}

begins_due : (e : Event) (h : List Event) → (due : List Event) × (with_due e h ≡ due ++ (e ∷ h))
begins_due (Refuse t c) h = (_, refl)
begins_due (End t reply) h = (_, refl)
begins_due (Acked p n) h = (_, refl)
begins_due _ h = ([], refl)

module _ (cluster : Cluster) (corpus : Corpus) (script : Script) where
  begins_with : (e : Event) (h : List Event) → (due : List Event) × (after_step cluster corpus script e h ≡ due ++ (e ∷ h))
  begins_with (Work t) h = grown_by (option_map_or (λ request. turn_notes cluster (corpus_at corpus (scripted script) h) request (turns_of t h)) (request_of (scripted script) t h) []) (Work t ∷ h)
  begins_with e h = begins_due e h

  pub cut_at_full : (t : TaskId) (h : List Event) → length h ≡ MAX_EVENTS → is_ready cluster corpus script h t ≡ true → IsCutShort (IsPartly (Steps cluster corpus script t) h) h
  cut_at_full t h full ready = by_next (next_of cluster corpus script t h) refl (both _ (is_some (next_of cluster corpus script t h)) ready).1
    where
      by_next : (o : Option Event) → next_of cluster corpus script t h ≡ o → is_some o ≡ true → IsCutShort (IsPartly (Steps cluster corpus script t) h) h
      by_next None e some = absurd (cc)
      by_next (Some e) is some =
          let begins = begins_with e h in
          cut_move (Steps cluster corpus script t) h h (after_step cluster corpus script e h) (e, (both _ (is_some (next_of cluster corpus script t h)) ready).0, is, refl)
          (subst (λ whole. IsCutShort (λ past. IsPartOf h past whole) h) (sym begins.1) (cut_first h h begins.0 e full refl))
