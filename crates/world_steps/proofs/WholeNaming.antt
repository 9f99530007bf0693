-- What comes on the way of a cancel that names its tasks and is answered where it is due.
use Rattle.std.proofs.Common.{◌≡◌, ℕ, Bool, true, false, cond, List, [], ◌∷◌, ◌++◌, length, refl, sym, ap, ◌∙◌, append_assoc}
use Rattle.task_ids.specs.declared.task_id.TaskId.{TaskId}
use Rattle.task_events.specs.declared.event.Event.{Event}
use Rattle.task_events.specs.declared.history.TheConstants.{MAX_EVENTS}
use Rattle.world_moves.specs.Cancels.{after_naming, answer_by, is_due, with_answer, with_cancels}
use Rattle.world_moves.specs.Moves.{IsPartOf, IsCutShort}
use Rattle.world_moves.proofs.CutShort.{cut_as}
use Rattle.world_steps.proofs.NamesAll.{cancels_append, part_within}

module _ (c : ℕ) (wait : Bool) where
  answer_appends : (h : List Event) → (es : List Event) × (with_answer c wait h ≡ es ++ h)
  answer_appends h = by_due (is_due h c)
    where
      by_due : (b : Bool) → (es : List Event) × (cond b (answer_by wait c ∷ h) h ≡ es ++ h)
      by_due true = (answer_by wait c ∷ [], refl)
      by_due false = ([], refl)

  module _ (ts : List TaskId) (h : List Event) where
    pub named_part : (new : List Event) → IsPartOf h new (with_cancels c wait ts h) → IsPartOf h new (after_naming c wait ts h)
    named_part new part = let answer = answer_appends (with_cancels c wait ts h) in part_within h h (with_cancels c wait ts h) (after_naming c wait ts h) new [] answer.0 refl answer.1 part

    pub named_cut : (new : List Event) → IsCutShort (λ past. IsPartOf h past (with_cancels c wait ts h)) new → IsCutShort (λ past. IsPartOf h past (after_naming c wait ts h)) new
    named_cut new cut = cut_as (λ past. IsPartOf h past (with_cancels c wait ts h)) (λ past. IsPartOf h past (after_naming c wait ts h)) new named_part cut

    -- nothing has come yet
    pub none_yet : IsPartOf h h (after_naming c wait ts h)
    none_yet =
        let names = cancels_append c wait ts h in
        let answer = answer_appends (with_cancels c wait ts h) in
        (answer.0 ++ names.0, [], answer.1 ∙ ap (λ g. answer.0 ++ g) names.1 ∙ sym (append_assoc answer.0 names.0 h), refl)

    -- all tasks are named, and the answer has not come
    pub answer_part : (new : List Event) → new ≡ with_cancels c wait ts h → IsPartOf h new (after_naming c wait ts h)
    answer_part new named =
        let names = cancels_append c wait ts h in
        let answer = answer_appends (with_cancels c wait ts h) in
        (answer.0, names.0, answer.1 ∙ ap (λ g. answer.0 ++ g) (sym named), named ∙ names.1)

    pub answer_cut : (past new : List Event) → past ≡ with_cancels c wait ts h → new ≡ past → length past ≡ MAX_EVENTS → is_due past c ≡ true → IsCutShort (λ g. IsPartOf h g (after_naming c wait ts h)) new
    answer_cut past new named same full due =
        let names = cancels_append c wait ts h in
        let is = same ∙ named in
        let due_then : is_due (with_cancels c wait ts h) c ≡ true = ap (λ g. is_due g c) (sym named) ∙ due in (
          ap length same ∙ full,
          answer_by wait c,
          ([], answer_by wait c ∷ names.0, ap (λ b. cond b (answer_by wait c ∷ with_cancels c wait ts h) (with_cancels c wait ts h)) due_then ∙ ap (λ g. answer_by wait c ∷ g) (sym is), ap (λ g. answer_by wait c ∷ g) (is ∙ names.1)),
        )
