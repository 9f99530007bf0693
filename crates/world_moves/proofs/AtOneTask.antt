-- Marks, acknowledgements and ends let cancels go on at one task at most.
use Rattle.std.proofs.Common.{◌≡◌, ◌&&◌, ◌||◌, ℕ, Bool, true, false, not, List, [], ◌∷◌, None, refl, arith}
use Rattle.std.specs.Prelude.{is_some}
use Rattle.std.specs.List.{list_all}
use Rattle.task_ids.specs.declared.task_id.TaskId.{TaskId}
use Rattle.task_events.specs.declared.event.Event.{Event}
use Rattle.task_events.specs.declared.event.Event.TheVariants.{Refuse, Mark, Acked, End}
use Rattle.task_events.specs.declared.reply.Reply.{Reply}
use Rattle.task_events.specs.Same.{same_task}
use Rattle.task_events.specs.Bans.{mark_of, banned_nodes, is_acked, bans_are_placed}
use Rattle.task_events.specs.Tasks.{has_ended}
use Rattle.task_laws.proofs.Same.{same_tests}
use Rattle.world_moves.specs.Cancels.{is_through, waits_for_end}
use Rattle.world_moves.proofs.CountsAfter.{IsAt}

turned : (t u : TaskId) → same_task t u ≡ false → same_task u t ≡ false
turned t u e = grind (arith, same_tests)

ended_too : (placed waits ended : Bool) → (placed && (not waits || ended)) ≡ true → (placed && (not waits || true)) ≡ true
ended_too true waits ended e = grind arith
ended_too false waits ended e = absurd (cc)

itself : (t : TaskId) → same_task t t ≡ true
itself t = grind (arith, same_tests)

pub at_end : (t : TaskId) (reply : Reply) (h : List Event) → IsAt t (End t reply) h
at_end t reply h = record {
  names = λ c. refl;
  by = λ u. refl;
  named = λ c u. refl;
  answered = λ c. refl;
  others = λ c u differs. rw (turned t u differs) refl;
  stays = λ c e. rw (itself t) (ended_too (bans_are_placed t h) (waits_for_end c h) (has_ended t h) e);
}

pub at_refusal : (t : TaskId) (cancel : ℕ) (h : List Event) → IsAt t (Refuse t cancel) h
at_refusal t cancel h = record {
  names = λ c. refl;
  by = λ u. refl;
  named = λ c u. refl;
  answered = λ c. refl;
  others = λ c u differs. rw (turned t u differs) refl;
  stays = λ c e. rw (itself t) (ended_too (bans_are_placed t h) (waits_for_end c h) (has_ended t h) e);
}

-- a task without a mark lets no cancel go on
pub holds_up : (t : TaskId) (c : ℕ) (h : List Event) → mark_of t h ≡ None → is_through h c t ≡ false
holds_up t c h none = rw none refl

pub at_mark : (t : TaskId) (cancel : ℕ) (h : List Event) → mark_of t h ≡ None → IsAt t (Mark t cancel) h
at_mark t cancel h none = record {
  names = λ c. refl;
  by = λ u. refl;
  named = λ c u. refl;
  answered = λ c. refl;
  others = λ c u differs. rw (turned t u differs) refl;
  stays = λ c e. absurd (let held = holds_up t c h none in cc);
}

module _ (p : TaskId) (n : ℕ) (h : List Event) where
  acked_elsewhere : (u : TaskId) → same_task p u ≡ false → (m : ℕ) → is_acked m u (Acked p n ∷ h) ≡ is_acked m u h
  acked_elsewhere u differs m = grind (arith, same_tests)

  acked_still : (ms : List ℕ) → list_all (λ m. is_acked m p h) ms ≡ true → list_all (λ m. is_acked m p (Acked p n ∷ h)) ms ≡ true
  acked_still [] e = refl
  acked_still (m ∷ ms) e = let rest = acked_still ms in grind (arith, same_tests, rest)

  placed_still : bans_are_placed p h ≡ true → bans_are_placed p (Acked p n ∷ h) ≡ true
  placed_still e = by_mark (is_some (mark_of p h)) (list_all (λ m. is_acked m p h) (banned_nodes p h)) e (acked_still (banned_nodes p h))
    where
      by_mark : (a b : Bool) → (a && b) ≡ true → (b ≡ true → list_all (λ m. is_acked m p (Acked p n ∷ h)) (banned_nodes p h) ≡ true) → (a && list_all (λ m. is_acked m p (Acked p n ∷ h)) (banned_nodes p h)) ≡ true
      by_mark true true both later = later refl
      by_mark true false both later = absurd (cc)
      by_mark false b both later = absurd (cc)

  pub at_ack : IsAt p (Acked p n) h
  at_ack = record {
    names = λ c. refl;
    by = λ u. refl;
    named = λ c u. refl;
    answered = λ c. refl;
    others = λ c u differs. (λ i. (is_some (mark_of u h) && list_all (λ m. acked_elsewhere u differs m i) (banned_nodes u h)) && (not (waits_for_end c h) || has_ended u h));
    stays = λ c e. by_parts (bans_are_placed p h) (bans_are_placed p (Acked p n ∷ h)) (waits_for_end c h) (has_ended p h) placed_still e;
  }
    where
      by_parts : (was now waits ended : Bool) → (was ≡ true → now ≡ true) → (was && (not waits || ended)) ≡ true → (now && (not waits || ended)) ≡ true
      by_parts true now waits ended still e = rw (still refl) e
      by_parts false now waits ended still e = absurd (cc)
