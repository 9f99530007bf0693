-- What a get tells stands in what happened: a result is the reply of its task, and who waits is told once the task has ended.
use Rattle.std.proofs.Common.{◌≡◌, ◌≢◌, ◌⊎◌, inl, inr, ℕ, Bool, true, false, List, [], ◌∷◌, ◌++◌, Option, Some, None, refl, sym, ap, subst, ◌∙◌, arith}
use Rattle.std.specs.Prelude.{is_some}
use Rattle.task_ids.specs.declared.cluster.Cluster.{Cluster}
use Rattle.task_ids.specs.declared.corpus.Corpus.{Corpus}
use Rattle.task_ids.specs.declared.task_id.TaskId.{TaskId}
use Rattle.task_events.specs.declared.event.Event.{Event}
use Rattle.task_events.specs.declared.event.Event.TheVariants.{Begin, Root, Put, Refuse, End}
use Rattle.task_events.specs.declared.reply.Reply.{Reply}
use Rattle.task_events.specs.Lawful.{Lawful}
use Rattle.task_events.specs.Laws.{IsDrained}
use Rattle.task_events.specs.Same.{same_task}
use Rattle.task_events.specs.Tasks.{is_live, reply_of}
use Rattle.task_events.specs.Turns.{history_before}
use Rattle.task_laws.proofs.Asks.{ask_facts}
use Rattle.task_laws.proofs.Same.{same_task_tells, same_tests}
use Rattle.task_results.specs.Stands.{result_at}
use Rattle.script_lang.specs.declared.command.Command.TheVariants as commands
use Rattle.script_lang.specs.declared.command.Script.{Script}
use Rattle.script_lang.specs.declared.command.TaskTarget.{TaskTarget}
use Rattle.command_roots.specs.declared.results.TaskFound.TheVariants.{Live}
use Rattle.command_roots.specs.Results.{found_at, keeping, task_named}
use Rattle.command_roots.specs.Roots.{scripted}
use Rattle.world_moves.proofs.OwnTasks.{replied_ended}
use Rattle.world_steps.proofs.ResultsFollow.{result_is_reply}
use Rattle.task_top.specs.EachLine.{TellsFound, TellsTask}
use Rattle.task_top.proofs.LiveRows.{RootsAsked, asked_before, live_row}
use Rattle.task_top.proofs.TurnEvents.{HasDone}

module _ (t : TaskId) (base : List Event) where
  -- a live task that is not live any more has replied
  replied_since : (later : List Event) → is_live t base ≡ true → is_live t (later ++ base) ≡ false → is_some (reply_of t (later ++ base)) ≡ true
  replied_since [] live gone = absurd (let no : true ≡ false = sym live ∙ gone in cc)
  replied_since (Root c u ∷ later) live gone = grind (arith, same_tests, replied_since later live)
  replied_since (Put u p j ∷ later) live gone = grind (arith, same_tests, replied_since later live)
  replied_since (Refuse u c ∷ later) live gone = grind (arith, same_tests, replied_since later live)
  replied_since (End u r ∷ later) live gone = grind (arith, same_tests, replied_since later live)
  replied_since (_ ∷ later) live gone = replied_since later live gone

  module _ (cluster : Cluster) (reply : Reply) where
    ended_not_live : (h : List Event) → Lawful cluster h → reply_of t h ≡ Some reply → is_live t h ≡ true → ⊥
    ended_not_live h lawful replied live = let no : false ≡ true = sym ((ask_facts cluster h lawful).live_or_ended t live) ∙ replied_ended t h reply replied in cc

    -- a reply stays what it is
    reply_stays : (later : List Event) → Lawful cluster (later ++ base) → reply_of t base ≡ Some reply → reply_of t (later ++ base) ≡ Some reply
    reply_stays [] lawful is = is
    reply_stays (Refuse u c ∷ later) lawful is = by_case (same_task_tells t u) (reply_stays later lawful.1 is)
      where
        by_case : ((same_task t u ≡ true) × (t ≡ u)) ⊎ ((same_task t u ≡ false) × (t ≢ u)) → reply_of t (later ++ base) ≡ Some reply → reply_of t (Refuse u c ∷ (later ++ base)) ≡ Some reply
        by_case (inl (is_one, same)) before = absurd (ended_not_live (later ++ base) lawful.1 before (ap (λ x. is_live x (later ++ base)) same ∙ lawful.0.live))
        by_case (inr (differs, apart)) before = rw differs before
    reply_stays (End u r ∷ later) lawful is = by_case (same_task_tells t u) (reply_stays later lawful.1 is)
      where
        by_case : ((same_task t u ≡ true) × (t ≡ u)) ⊎ ((same_task t u ≡ false) × (t ≢ u)) → reply_of t (later ++ base) ≡ Some reply → reply_of t (End u r ∷ (later ++ base)) ≡ Some reply
        by_case (inl (is_one, same)) before = absurd (ended_not_live (later ++ base) lawful.1 before (ap (λ x. is_live x (later ++ base)) same ∙ lawful.0.goes_on.live))
        by_case (inr (differs, apart)) before = rw differs before
    reply_stays (_ ∷ later) lawful is = reply_stays later lawful.1 is

lawful_base : (cluster : Cluster) (later base : List Event) → Lawful cluster (later ++ base) → Lawful cluster base
lawful_base cluster [] base lawful = lawful
lawful_base cluster (e ∷ later) base lawful = lawful_base cluster later base lawful.1

module _ (cluster : Cluster) (corpus : Corpus) (script : Script) (h : List Event) (k : ℕ) (target : TaskTarget) (wait : Bool) (lawful : Lawful cluster h) (drained : IsDrained h)
    (roots : RootsAsked (scripted script) h) (done : HasDone cluster corpus script k (commands.GetTask target wait) h) where
  -- what happened since the command began
  whole : h ≡ done.later ++ Begin k ∷ history_before k h
  whole = done.stands ∙ ap (λ g. done.later ++ g) (done.does ∙ ap (λ g. Begin k ∷ g) (sym done.past))

  abbrev past : List Event
  past = history_before k h

  all_lawful : Lawful cluster (done.later ++ Begin k ∷ past)
  all_lawful = subst (Lawful cluster) whole lawful

  lawful_past : Lawful cluster past
  lawful_past = (lawful_base cluster done.later (Begin k ∷ past) all_lawful).1

  roots_past : RootsAsked (scripted script) past
  roots_past = asked_before (scripted script) done.later (Begin k ∷ past) (subst (RootsAsked (scripted script)) whole roots)

  given : (o : Option Reply) → is_some o ≡ true → (reply : Reply) × (o ≡ Some reply)
  given None e = absurd (cc)
  given (Some reply) e = (reply, refl)

  of_live : (wait : Bool) (t : TaskId) → is_live t past ≡ true → TellsFound script wait past h (Live t)
  of_live true t live =
      let gone = ap (is_live t) (sym whole) ∙ drained.nothing_live t in
      given (reply_of t h) (ap (λ g. is_some (reply_of t g)) whole ∙ replied_since t (Begin k ∷ past) done.later live gone)
  of_live false t live = live_row cluster (scripted script) t past lawful_past roots_past live

  pub get_told : TellsTask script target wait k h
  get_told = by_task (task_named target past)
    where
      of_result : (t : TaskId) (o : Option Reply) → result_at (keeping script) t past ≡ o → is_live t past ≡ false → TellsFound script wait past h (found_at script (Some t) past)
      of_result t None is gone = rw (gone, is) tt
      of_result t (Some reply) is gone =
          let replied = result_is_reply (keeping script) cluster t reply past lawful_past is in
          rw (gone, is) (reply, is, ap (reply_of t) whole ∙ reply_stays t (Begin k ∷ past) cluster reply done.later all_lawful replied)

      by_live : (t : TaskId) (b : Bool) → is_live t past ≡ b → TellsFound script wait past h (found_at script (Some t) past)
      by_live t true live = rw live (of_live wait t live)
      by_live t false gone = of_result t (result_at (keeping script) t past) refl gone

      by_task : (o : Option TaskId) → TellsFound script wait past h (found_at script o past)
      by_task None = tt
      by_task (Some t) = by_live t (is_live t past) refl
