-- In a run it is so of each root that its command could start it. So one that shows a page finds its context free, and of nobody.
use Rattle.std.proofs.Common.{◌≡◌, ◌+◌, ℕ, Bool, true, false, List, [], ◌∷◌, Option, Some, None, refl, sym, ap}
use Rattle.std.specs.Option.{option_map_or}
use Rattle.task_ids.specs.declared.cluster.Cluster.{Cluster}
use Rattle.task_ids.specs.declared.corpus.Corpus.{Corpus}
use Rattle.task_ids.specs.declared.task_id.TaskId.{TaskId}
use Rattle.task_events.specs.declared.event.Event.{Event}
use Rattle.task_events.specs.declared.event.Event.TheVariants.{Ask, End, Root, Work}
use Rattle.task_events.specs.declared.request.WriteNote.{WriteNote}
use Rattle.task_events.specs.declared.step.Do.{Do}
use Rattle.task_events.specs.declared.step.Do.TheVariants.{AskNext, Finish, Turn, Wait}
use Rattle.task_events.specs.Asks.{last_ask}
use Rattle.task_events.specs.Kinds.{node_for}
use Rattle.task_events.specs.Requests.{Scripted, request_of}
use Rattle.task_events.specs.Steps.{event_of, first_step, next_step, planned_step, turns_of}
use Rattle.task_events.specs.Written.{corpus_at, turn_notes, with_notes, write_of}
use Rattle.script_lang.specs.declared.command.Script.{Script}
use Rattle.command_roots.specs.Roots.{root_request, scripted}
use Rattle.world_steps.specs.Scripts.{IsRunSoFar}
use Rattle.write_laws.proofs.EachRun.{each_rooted_run, is_led}
use Rattle.write_laws.proofs.RootsFit.{EachRoot, RootFits, RootsFit, roots_before}
use Rattle.write_laws.proofs.RootsStart.{StartFits}
use Rattle.write_laws.proofs.StepCases.{step_case}

abbrev is_root : Event → Bool
is_root (Root k t) = true
is_root _ = false

-- no step of a task starts a root
module _ (cluster : Cluster) (corpus : Corpus) (said : Scripted) (h : List Event) (t : TaskId) where
  done_no_root : (d : Do) (e : Event) → event_of cluster t h d ≡ Some e → is_root e ≡ false
  done_no_root (AskNext child) e is = let same : Ask t (last_ask t h + 1) (node_for cluster t child) child ≡ e = cc in ap is_root (sym same)
  done_no_root Turn e is = let same : Work t ≡ e = cc in ap is_root (sym same)
  done_no_root (Wait due) e is = absurd (cc)
  done_no_root (Finish reply) e is = let same : End t reply ≡ e = cc in ap is_root (sym same)

  first_no_root : (ban : Option ℕ) → is_root (first_step t ban) ≡ false
  first_no_root None = refl
  first_no_root (Some c) = refl

  step_no_root : (e : Event) → next_step cluster corpus said t h ≡ Some e → is_root e ≡ false
  step_no_root = step_case cluster corpus said t h (λ e. is_root e ≡ false) first_no_root (λ c counts. refl) (λ request e asked is. done_no_root (planned_step cluster corpus said t request h) e is)

not_led : (e : Event) → is_led e ≡ false → is_root e ≡ false
not_led (Root k t) quiet = absurd (cc)
not_led _ quiet = refl

module _ (So : ℕ → List Event → Type 0) where
  no_root_more : (e : Event) (h : List Event) → is_root e ≡ false → EachRoot So h → EachRoot So (e ∷ h)
  no_root_more (Root k t) h other each = absurd (cc)
  no_root_more _ h other each = each

  notes_more : (notes : List WriteNote) (g : List Event) → EachRoot So g → EachRoot So (with_notes notes g)
  notes_more [] g each = each
  notes_more (note ∷ notes) g each = notes_more notes (write_of note ∷ g) each

  -- what is so where a command could start its root is so of each root
  pub each_root : (cluster : Cluster) (corpus : Corpus) (script : Script) → ((k : ℕ) (h : List Event) → StartFits corpus script k h → So k h) → (h : List Event) → IsRunSoFar cluster corpus script h → EachRoot So h
  each_root cluster corpus script so =
      each_rooted_run (EachRoot So) (EachRoot So) (λ h each. each) (roots_before So) (λ e h quiet. no_root_more e h (not_led e quiet)) cluster corpus script tt
      (λ k t h start before. (so k h start, before))
      (λ t h e next alone. no_root_more e h (step_no_root cluster corpus (scripted script) h t e next))
      (λ t u h next. notes_more (option_map_or (λ request. turn_notes cluster (corpus_at corpus (scripted script) h) request (turns_of u h)) (request_of (scripted script) u h) []) (Work u ∷ h))

-- In a run each root that shows a page finds its context free, and of nobody.
pub run_fits : (cluster : Cluster) (corpus : Corpus) (script : Script) (h : List Event) → IsRunSoFar cluster corpus script h → RootsFit (scripted script) h
run_fits cluster corpus script = each_root (λ k past. RootFits (scripted script) (root_request script k past) past) cluster corpus script (λ k h start. start.fits)
