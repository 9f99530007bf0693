-- Without a mark of the task no answer comes due.
use Rattle.std.proofs.Common.{◌≡◌, ◌++◌, ◌&&◌, ℕ, Bool, true, false, not, List, map, filter, reverse, None, refl, sym, ap, ◌∙◌}
use Rattle.task_ids.specs.declared.task_id.TaskId.{TaskId}
use Rattle.task_events.specs.declared.event.Event.{Event}
use Rattle.task_events.specs.Bans.{mark_of}
use Rattle.task_events.specs.Cancels.{is_named}
use Rattle.world_moves.specs.Cancels.{answer_to, due_for, is_answered, is_due, named_by, with_answers}
use Rattle.world_moves.proofs.AtOneTask.{holds_up}
use Rattle.world_moves.proofs.DueActs.{none_pass}
use Rattle.world_moves.proofs.NamedCancels.{filter_same, named_in}
use Rattle.world_moves.proofs.TasksNamed.{through_with}

module _ (t : TaskId) (h : List Event) (unmarked : mark_of t h ≡ None) where
  not_due : (c : ℕ) → is_named c t h ≡ true → is_due h c ≡ false
  not_due c n = by_due (is_due h c) refl
    where
      by_due : (b : Bool) → is_due h c ≡ b → b ≡ false
      by_due true d = absurd (let through = through_with c t h d n in let held = holds_up t c h unmarked in cc)
      by_due false d = refl

  none : due_for t h ≡ filter (λ c. false) (named_by t h)
  none = filter_same (λ c. is_due h c && not (is_answered c h)) (λ c. false) (named_by t h) (λ c i. ap (λ b. b && not (is_answered c h)) (not_due c (sym (named_in c t h) ∙ i)))

  pub none_due : with_answers t h ≡ h
  none_due = ap (λ due. reverse (map (answer_to h) due) ++ h) (none ∙ none_pass (named_by t h))
