-- The soonest alarm is the soonest moment for which a task waits.
use Rattle.std.proofs.Common.{◌≡◌, ◌<◌, ◌≤◌, ℕ, ◌+◌, false, length, Option, Some, None, sym, ap, ◌∙◌, arith}
use Rattle.std.specs.Prelude.{nat_le, IfNone, IfSome}
use Rattle.std.proofs.lemmas.Bool.Decides.{nat_tests}
use Rattle.task_ids.specs.declared.task_id.TaskId.{TaskId}
use Rattle.task_events.specs.Clock.{clock}
use Rattle.task_events.specs.Laws.{IsDrained}
use Rattle.command_roots.specs.Roots.{scripted}
use Rattle.world_moves.specs.declared.state.State.{State}
use Rattle.world_moves.specs.Describing.{longest_tick}
use Rattle.world_moves.specs.Ties.{IsTied}
use Rattle.world_steps.specs.declared.ready.Ready.{Ready}
use Rattle.world_steps.specs.Alarms.{alarm_at}
use Rattle.world_steps.specs.Draining.{due_of, IsNextDue}
use Rattle.world_steps.specs.Runs.{IsSettled}
use Rattle.world_steps.specs.World.{HasReady, has_come}
use Rattle.world_steps.proofs.Resting.{drained}
use Rattle.world_steps.proofs.Soon.{due_soon}
use Rattle.world_steps.proofs.Stances.{stance_of, to_come, waits_by_stance}

module _ (s : State) (ready : Ready) (tied : IsTied s) (known : HasReady s ready) where
  pub next : (o : Option ℕ) → IfSome o (λ moment. (t : TaskId) × (alarm_at ready.alarms t ≡ Some moment)) → IfSome o (λ moment. (q : TaskId) (later : ℕ) → alarm_at ready.alarms q ≡ Some later → moment ≤ later)
      → IfSome o (λ due. IsNextDue s.cluster s.corpus.now s.script.now due s.history)
  next None there least = tt
  next (Some moment) there least = ((there.0, sym (known.alarms there.0) ∙ there.1), λ u other e. least u other (known.alarms u ∙ e))

  -- it is to come, and a tick can take the time that is left to it
  within : (t : TaskId) (due : ℕ) → due_of s.cluster s.corpus.now s.script.now t s.history ≡ Some due → (s.clock ≤ due) × (due ≤ s.clock + longest_tick)
  within t due e =
      let to_be = to_come s.cluster t (stance_of (scripted s.script.now) t s.history) (clock s.history) in
      let before : nat_le due (clock s.history) ≡ false = sym (ap (has_come (clock s.history)) (sym (waits_by_stance s.cluster s.corpus.now s.script.now t s.history) ∙ e)) ∙ to_be in
      let low : clock s.history < due = grind (arith, nat_tests) in
      let high = due_soon s.cluster s.corpus.now s.script.now s.history _ _ _ tied.ties t due e in
      let now = tied.tells.clock_is in
      (omega (arith, low, now), omega (arith, high, now))

  pub later : (o : Option ℕ) → IfSome o (λ moment. (t : TaskId) × (alarm_at ready.alarms t ≡ Some moment)) → IfSome o (λ due. (s.clock ≤ due) × (due ≤ s.clock + longest_tick))
  later None there = tt
  later (Some moment) there = within there.0 moment (sym (known.alarms there.0) ∙ there.1)

  -- and where there is none nothing is live
  pub none : length s.history ≤ 4000000 → (o : Option ℕ) → IfNone o ((q : TaskId) → alarm_at ready.alarms q ≡ None) → IsSettled s.cluster s.corpus.now s.script.now s.history → IfNone o (IsDrained s.history)
  none room None never settled = drained s.cluster s.corpus.now s.script.now s.history _ _ _ tied.ties room settled (λ t. sym (known.alarms t) ∙ never t)
  none room (Some moment) never settled = tt
