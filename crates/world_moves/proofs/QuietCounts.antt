-- The counts of cancels fit the past after events that let no cancel be answered.
use Rattle.std.proofs.Common.{◌≡◌, ◌-◌, ◌==◌, ◌&&◌, ℕ, Bool, true, false, cond, not, List, ◌∷◌, Option, refl, sym, ap, ◌∙◌}
use Rattle.task_ids.specs.declared.task_id.TaskId.{TaskId}
use Rattle.task_ids.specs.declared.cluster.Cluster.{Cluster}
use Rattle.task_events.specs.declared.event.Event.{Event}
use Rattle.task_events.specs.declared.event.Event.TheVariants.{Refuse, Cancel, Mark, Acked, End, AnswerPlaced, AnswerDone}
use Rattle.task_events.specs.Allowed.{is_number}
use Rattle.task_events.specs.Lawful.{Lawful}
use Rattle.world_moves.specs.Cancels.{left_of}
use Rattle.world_moves.specs.Left.{HasLeft}
use Rattle.world_moves.proofs.CountsAfter.{IsAt, let_go, left_then}
use Rattle.world_moves.proofs.NamedCancels.{is_in}

-- the event names a task, lets one go on, or answers
abbrev pub concerns_cancels : Event → Bool
concerns_cancels (Refuse t c) = true
concerns_cancels (End t r) = true
concerns_cancels (Cancel c t wait) = true
concerns_cancels (Mark t c) = true
concerns_cancels (Acked p n) = true
concerns_cancels (AnswerPlaced c) = true
concerns_cancels (AnswerDone c) = true
concerns_cancels _ = false

pub still_counts : (naming : Option ℕ) (e : Event) (h : List Event) (left : ℕ → ℕ) → concerns_cancels e ≡ false → HasLeft naming h left → HasLeft naming (e ∷ h) left
still_counts naming (Refuse t c) h left q x = absurd (cc)
still_counts naming (End t r) h left q x = absurd (cc)
still_counts naming (Cancel c t wait) h left q x = absurd (cc)
still_counts naming (Mark t c) h left q x = absurd (cc)
still_counts naming (Acked p n) h left q x = absurd (cc)
still_counts naming (AnswerPlaced c) h left q x = absurd (cc)
still_counts naming (AnswerDone c) h left q x = absurd (cc)
still_counts naming _ h left q x = record { counts = x.counts; answered = x.answered }

-- An event at one task lets no cancel go on but the one that is still naming tasks.
pub counts_at : (cluster : Cluster) (naming : Option ℕ) (t : TaskId) (e : Event) (h : List Event) (left after : ℕ → ℕ) → Lawful cluster h → IsAt t e h
    → ((c : ℕ) → is_number c naming ≡ false → is_in c (let_go t e h) ≡ false) → ((c : ℕ) → after c ≡ cond (is_in c (let_go t e h)) (left c - 1) (left c))
    → HasLeft naming h left → HasLeft naming (e ∷ h) after
counts_at cluster naming t e h left after lawful at nobody is has = record {
  counts = λ c. is c ∙ (λ i. cond (is_in c (let_go t e h)) (has.counts c i - 1) (has.counts c i)) ∙ sym (left_then cluster t e h lawful at c);
  answered = λ c u n. at.answered c ∙ has.answered c u (sym (at.named c u) ∙ n) ∙ by_number c (is_number c naming) refl;
}
  where
    by_number : (c : ℕ) (b : Bool) → is_number c naming ≡ b → (not (is_number c naming) && (left_of c h == 0)) ≡ (not (is_number c naming) && (left_of c (e ∷ h) == 0))
    by_number c true n = rw n refl
    by_number c false n = rw n (ap (λ k. k == 0) (sym (left_then cluster t e h lawful at c ∙ ap (λ b. cond b (left_of c h - 1) (left_of c h)) (nobody c n))))
