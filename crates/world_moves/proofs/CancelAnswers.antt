-- Answers that come one after the other.
use Rattle.std.proofs.Common.{◌≡◌, ◌++◌, ◌==◌, ◌||◌, ℕ, Bool, true, false, List, [], ◌∷◌, map, reverse, Some, refl, sym, ap, ◌∙◌, append_assoc, arith}
use Rattle.std.proofs.lemmas.Bool.Decides.{nat_tests}
use Rattle.std.proofs.lemmas.Grind.{reverse_onto}
use Rattle.task_ids.specs.declared.task_id.TaskId.{TaskId}
use Rattle.task_ids.specs.declared.cluster.Cluster.{Cluster}
use Rattle.task_events.specs.declared.event.Event.{Event}
use Rattle.task_events.specs.declared.event.Event.TheVariants.{AnswerPlaced, AnswerDone}
use Rattle.task_events.specs.Tasks.{has_ended}
use Rattle.task_events.specs.Bans.{bans_are_placed}
use Rattle.task_events.specs.Cancels.{is_named, waits, found_none, is_answered_placed, is_answered_done}
use Rattle.task_events.specs.Allowed.{IsDue}
use Rattle.task_events.specs.Lawful.{AwaitsNoMark, Lawful}
use Rattle.world_moves.specs.Cancels.{is_answered, answer_by, answer_to, waits_for_end}
use Rattle.world_moves.proofs.NamedCancels.{is_in, AllDiffer}

-- the past after the answers to these cancels, of which the first comes first; an earlier past says which of them wait for the end
abbrev pub after_answers : List Event → List ℕ → List Event → List Event
after_answers past [] h = h
after_answers past (c ∷ cs) h = after_answers past cs (answer_to past c ∷ h)

pub answers_appended : (past : List Event) (cs : List ℕ) (h : List Event) → after_answers past cs h ≡ reverse (map (answer_to past) cs) ++ h
answers_appended past [] h = refl
answers_appended past (c ∷ cs) h =
    answers_appended past cs (answer_to past c ∷ h) ∙ sym (append_assoc (reverse (map (answer_to past) cs)) (answer_to past c ∷ []) h)
    ∙ ap (λ es. es ++ h) (sym (reverse_onto (map (answer_to past) cs) (answer_to past c) []))

-- what one answer leaves as it is, all of them do
module _ (P : List Event → Type 0) (placed : (c : ℕ) (h : List Event) → P h → P (AnswerPlaced c ∷ h)) (done : (c : ℕ) (h : List Event) → P h → P (AnswerDone c ∷ h)) where
  one_kept : (b : Bool) (c : ℕ) (h : List Event) → P h → P (answer_by b c ∷ h)
  one_kept true c h p = done c h p
  one_kept false c h p = placed c h p

  pub answers_keep : (past : List Event) (cs : List ℕ) (h : List Event) → P h → P (after_answers past cs h)
  answers_keep past [] h p = p
  answers_keep past (c ∷ cs) h p = answers_keep past cs (answer_to past c ∷ h) (one_kept (waits_for_end c past) c h p)

-- The cancel may be answered in this way.
pub record IsAnswerable (waits_end : Bool) (c : ℕ) (h : List Event) : Type 0 where
  pub placed_once : is_answered_placed c h ≡ false
  pub done_once : is_answered_done c h ≡ false
  pub found : found_none c h ≡ false
  pub kind : waits c h ≡ Some waits_end
  pub placed : (t : TaskId) → is_named c t h ≡ true → bans_are_placed t h ≡ true
  pub ended : waits_end ≡ true → (t : TaskId) → is_named c t h ≡ true → has_ended t h ≡ true

is_due_now : (b : Bool) (c : ℕ) (h : List Event) → IsAnswerable b c h → IsDue c h
is_due_now b c h a = record { placed_once = a.placed_once; done_once = a.done_once; found = a.found; at_once = λ none. absurd (cc (none, a.kind)) }

-- it may still be after the answer to another
still_answerable : (b e : Bool) (c d : ℕ) (h : List Event) → (c == d) ≡ false → IsAnswerable b c h → IsAnswerable b c (answer_by e d ∷ h)
still_answerable b true c d h apart a = record { placed_once = a.placed_once; done_once = rw apart a.done_once; found = a.found; kind = a.kind; placed = a.placed; ended = a.ended }
still_answerable b false c d h apart a = record { placed_once = rw apart a.placed_once; done_once = a.done_once; found = a.found; kind = a.kind; placed = a.placed; ended = a.ended }

no_mark_after : (b : Bool) (c : ℕ) (h : List Event) → AwaitsNoMark (answer_by b c ∷ h)
no_mark_after true c h = tt
no_mark_after false c h = tt

module _ (cluster : Cluster) where
  one_lawful : (b : Bool) (c : ℕ) (h : List Event) → IsAnswerable b c h → Lawful cluster h → AwaitsNoMark h → Lawful cluster (answer_by b c ∷ h)
  one_lawful true c h a l awaits = (record { due = is_due_now true c h a; kind = λ e. cc (e, a.kind); placed = a.placed; ended = a.ended refl }, l, awaits)
  one_lawful false c h a l awaits = (record { due = is_due_now false c h a; kind = λ e. cc (e, a.kind); placed = a.placed }, l, awaits)

  pub all_lawful : (past : List Event) (cs : List ℕ) (h : List Event) → AllDiffer cs → ((c : ℕ) → is_in c cs ≡ true → IsAnswerable (waits_for_end c past) c h) → Lawful cluster h → AwaitsNoMark h → Lawful cluster (after_answers past cs h)
  all_lawful past [] h differ ready l awaits = l
  all_lawful past (c ∷ cs) h differ ready l awaits =
      all_lawful past cs (answer_to past c ∷ h) differ.1
      (λ d i. still_answerable (waits_for_end d past) (waits_for_end c past) d c h (let not_this = differ.0 in grind (arith, nat_tests)) (ready d (grind (arith, nat_tests))))
      (one_lawful (waits_for_end c past) c h (ready c (grind (arith, nat_tests))) l awaits) (no_mark_after (waits_for_end c past) c h)

-- who has been answered after them
answered_now : (b : Bool) (c d : ℕ) (h : List Event) → is_answered c (answer_by b d ∷ h) ≡ ((c == d) || is_answered c h)
answered_now true c d h = grind arith
answered_now false c d h = grind arith

pub answered_after : (past : List Event) (cs : List ℕ) (h : List Event) (c : ℕ) → is_answered c (after_answers past cs h) ≡ (is_answered c h || is_in c cs)
answered_after past [] h c = grind arith
answered_after past (d ∷ cs) h c =
    let rest = answered_after past cs (answer_to past d ∷ h) c in
    let now = answered_now (waits_for_end d past) c d h in
    rest ∙ joined _ (c == d) (is_answered c h) (is_in c cs) now
  where
    joined : (a b x y : Bool) → a ≡ (b || x) → (a || y) ≡ (x || (b || y))
    joined a b x y e = grind arith
