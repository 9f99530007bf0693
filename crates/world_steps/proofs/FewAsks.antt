-- A task whose asks are all answered has asked less than half as often as there are events, so a slice has asks left.
use Rattle.std.proofs.Common.{◌≡◌, ◌<◌, ◌≤◌, ℕ, zero, suc, ◌+◌, ◌-◌, ◌*◌, Bool, true, false, cond, List, [], ◌∷◌, ◌++◌, length, Option, Some, None, refl, sym, ap, ◌∙◌, arith, length-append, length-set}
use Rattle.std.specs.Prelude.{slice_set}
use Rattle.task_ids.specs.declared.cluster.Cluster.{Cluster}
use Rattle.task_ids.specs.declared.task_id.TaskId.{TaskId}
use Rattle.task_events.specs.declared.event.Event.{Event}
use Rattle.task_events.specs.declared.event.Event.TheVariants.{Ask, Answered}
use Rattle.task_events.specs.Lawful.{Lawful}
use Rattle.task_events.specs.Same.{same_task}
use Rattle.task_events.specs.SliceTask.{most_asks}
use Rattle.task_events.specs.Steps.{asked_by}
use Rattle.task_events.specs.Tasks.{is_live}
use Rattle.search_phase.proofs.Sorting.{by_test}
use Rattle.world_moves.specs.Facts.{awaited_by, none_awaited}
use Rattle.world_moves.proofs.AsksCounted.{awaited_counted}
use Rattle.world_moves.proofs.PassedWorks.{asked_counted}
use Rattle.world_steps.proofs.UsedAlone.{is_one}

-- how many asks are not answered yet
abbrev open_among : List (Option ℕ) → ℕ
open_among [] = 0
open_among (None ∷ awaited) = open_among awaited
open_among (Some n ∷ awaited) = 1 + open_among awaited

one_more : (awaited : List (Option ℕ)) (n : ℕ) → open_among (awaited ++ Some n ∷ []) ≡ open_among awaited + 1
one_more [] n = refl
one_more (None ∷ awaited) n = one_more awaited n
one_more (Some m ∷ awaited) n = let rest = one_more awaited n in omega (arith, rest)

one_less : (awaited : List (Option ℕ)) (i : ℕ) → open_among awaited ≤ open_among (slice_set awaited i None) + 1
one_less [] i = omega arith
one_less (None ∷ awaited) zero = omega arith
one_less (Some n ∷ awaited) zero = omega arith
one_less (None ∷ awaited) (suc i) = one_less awaited i
one_less (Some n ∷ awaited) (suc i) = let rest = one_less awaited i in omega (arith, rest)

none_open : (awaited : List (Option ℕ)) → none_awaited awaited ≡ true → open_among awaited ≡ 0
none_open [] e = refl
none_open (None ∷ awaited) e = none_open awaited e
none_open (Some n ∷ awaited) e = absurd (cc)

module _ (cluster : Cluster) (t : TaskId) where
  -- each ask is an event, each answer is one, and there is one more before
  abbrev Fits : List Event → List (Option ℕ) → Type 0
  Fits h awaited = 0 < length awaited → 2 * length awaited + 1 ≤ length h + open_among awaited

  live_some : (h : List Event) → is_live t h ≡ true → 1 ≤ length h
  live_some [] l = absurd (cc)
  live_some (e ∷ h) l = omega arith

  longer : (e : Event) (h : List Event) (awaited : List (Option ℕ)) → Fits h awaited → Fits (e ∷ h) awaited
  longer e h awaited fits = λ some. let before = fits some in omega (arith, before)

  asked_more : (h : List Event) (n : ℕ) (e : Event) → 1 ≤ length h → (awaited : List (Option ℕ)) → Fits h awaited → Fits (e ∷ h) (awaited ++ Some n ∷ [])
  asked_more h n e some [] fits = λ more. omega (arith, some)
  asked_more h n e some (o ∷ awaited) fits = λ more.
      let before = fits (omega arith) in
      let many = length-append (o ∷ awaited) (Some n ∷ []) in
      let opens = one_more (o ∷ awaited) n in
      omega (arith, before, many, opens)

  answered_one : (h : List Event) (i : ℕ) (e : Event) (awaited : List (Option ℕ)) → Fits h awaited → Fits (e ∷ h) (slice_set awaited i None)
  answered_one h i e awaited fits = λ some.
      let many = length-set awaited i None in
      let before = fits (omega (arith, many, some)) in
      let opens = one_less awaited i in
      omega (arith, before, many, opens)

  fit : (h : List Event) → Lawful cluster h → Fits h (awaited_by t h)
  fit [] l = λ some. absurd (omega (arith, some))
  fit (Ask p k n r ∷ h) l =
      by_test (same_task t p)
      (λ same. rw same (asked_more h n (Ask p k n r) (live_some h (ap (λ u. is_live u h) (is_one t p same) ∙ l.0.goes_on.live)) (awaited_by t h) (fit h l.1)))
      (λ other. rw other (longer (Ask p k n r) h (awaited_by t h) (fit h l.1)))
  fit (Answered p k ∷ h) l =
      by_test (same_task t p)
      (λ same. rw same (answered_one h (k - 1) (Answered p k) (awaited_by t h) (fit h l.1)))
      (λ other. rw other (longer (Answered p k) h (awaited_by t h) (fit h l.1)))
  fit (e ∷ h) l = longer e h (awaited_by t h) (fit h l.1)

  pub few_asks : (h : List Event) → Lawful cluster h → length h ≤ 4000000 → none_awaited (awaited_by t h) ≡ true → length (asked_by t h) < most_asks
  unfolding most_asks
  few_asks h l room none =
      let many : length (asked_by t h) ≡ length (awaited_by t h) = asked_counted cluster t h l ∙ sym (awaited_counted cluster t h l) in
      let opens = none_open (awaited_by t h) none in
      of_number (length (awaited_by t h)) refl many opens
    where
      of_number : (n : ℕ) → length (awaited_by t h) ≡ n → length (asked_by t h) ≡ length (awaited_by t h) → open_among (awaited_by t h) ≡ 0 → length (asked_by t h) < 2000000
      of_number zero e many opens = omega (arith, e, many)
      of_number (suc n) e many opens = let fits = fit h l (omega (arith, e)) in omega (arith, fits, many, opens, room)
