-- A cancel names one live task after the other.
use Rattle.std.proofs.Common.{◌≡◌, ◌<◌, ◌+◌, ℕ, Bool, true, false, List, [], ◌∷◌, ◌++◌, drop, get_or, length, refl, sym, ap, ◌∙◌, append_assoc, arith}
use Rattle.std.specs.Prelude.{is_some, if◌then◌else◌}
use Rattle.std.specs.List.{list_any}
use Rattle.std.proofs.lemmas.List.{drop_more}
use Rattle.task_ids.specs.declared.task_id.TaskId.{TaskId}
use Rattle.task_events.specs.declared.event.Event.{Event}
use Rattle.task_events.specs.declared.event.Event.TheVariants.{Cancel, Mark}
use Rattle.task_events.specs.Same.{same_task}
use Rattle.task_events.specs.Tasks.{is_live}
use Rattle.task_events.specs.Bans.{mark_of}
use Rattle.task_events.specs.Cancels.{is_named}
use Rattle.task_laws.proofs.Same.{same_tests}
use Rattle.world_moves.specs.Cancels.{with_cancel, with_cancels}
use Rattle.world_moves.specs.Moves.{IsPartOf}
use Rattle.world_steps.specs.Naming.{CanName}

-- what comes on the way to a later past
pub part_within : (old h next whole new es more : List Event) → h ≡ es ++ old → whole ≡ more ++ next → IsPartOf h new next → IsPartOf old new whole
part_within old h next whole new es more so_far to_come (later, earlier, is_next, is_new) =
    (more ++ later, earlier ++ es, to_come ∙ ap (λ g. more ++ g) is_next ∙ sym (append_assoc more later new), is_new ∙ ap (λ g. earlier ++ g) so_far ∙ sym (append_assoc earlier es old))

-- the next of some tasks that a cancel can name
pub next_of : (tasks : List TaskId) (i : ℕ) (t : TaskId) → i < length tasks → t ≡ get_or tasks i t → drop i tasks ≡ t ∷ drop (i + 1) tasks
next_of tasks i t below is = drop_more tasks i t below ∙ ap (λ u. u ∷ drop (i + 1) tasks) (sym is)

module _ (c : ℕ) (wait : Bool) where
  pub one_appends : (t : TaskId) (h : List Event) → (es : List Event) × (with_cancel c t wait h ≡ es ++ h)
  one_appends t h = by_mark (is_some (mark_of t h))
    where
      by_mark : (b : Bool) → (es : List Event) × ((if b then Cancel c t wait ∷ h else Mark t c ∷ Cancel c t wait ∷ h) ≡ es ++ h)
      by_mark true = (Cancel c t wait ∷ [], refl)
      by_mark false = (Mark t c ∷ Cancel c t wait ∷ [], refl)

  pub cancels_append : (ts : List TaskId) (h : List Event) → (es : List Event) × (with_cancels c wait ts h ≡ es ++ h)
  cancels_append [] h = ([], refl)
  cancels_append (t ∷ ts) h =
      let one = one_appends t h in
      let rest = cancels_append ts (with_cancel c t wait h) in
      (rest.0 ++ one.0, rest.1 ∙ ap (λ g. rest.0 ++ g) one.1 ∙ sym (append_assoc rest.0 one.0 h))

  -- nobody starts or ends by it, and one task is named
  live_still : (u t : TaskId) (h : List Event) → is_live u (with_cancel c t wait h) ≡ is_live u h
  live_still u t h = by_mark (is_some (mark_of t h))
    where
      by_mark : (b : Bool) → is_live u (if b then Cancel c t wait ∷ h else Mark t c ∷ Cancel c t wait ∷ h) ≡ is_live u h
      by_mark true = refl
      by_mark false = refl

  named_still : (u t : TaskId) (h : List Event) → same_task u t ≡ false → is_named c u (with_cancel c t wait h) ≡ is_named c u h
  named_still u t h apart = by_mark (is_some (mark_of t h))
    where
      by_mark : (b : Bool) → is_named c u (if b then Cancel c t wait ∷ h else Mark t c ∷ Cancel c t wait ∷ h) ≡ is_named c u h
      by_mark true = grind (arith, same_tests, apart)
      by_mark false = grind (arith, same_tests, apart)

  pub can_go_on : (t : TaskId) (ts : List TaskId) (h : List Event) → list_any (same_task t) ts ≡ false → CanName c ts h → CanName c ts (with_cancel c t wait h)
  can_go_on t [] h apart can = tt
  can_go_on t (u ∷ ts) h apart can =
      (live_still u t h ∙ can.0, named_still u t h (grind (arith, same_tests, apart)) ∙ can.1, can.2, can_go_on t ts h (grind (arith, apart)) can.3)
