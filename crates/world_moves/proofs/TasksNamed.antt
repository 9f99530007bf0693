-- The tasks that a cancel named, and at how many of them it waits.
use Rattle.std.proofs.Common.{◌≡◌, ◌≤◌, ◌++◌, ◌==◌, ℕ, Bool, true, false, cond, not, List, [], ◌∷◌, length, refl, sym, ap, ◌∙◌, arith}
use Rattle.std.specs.List.{list_any}
use Rattle.std.proofs.lemmas.List.Folds.{list_any-append}
use Rattle.std.proofs.lemmas.List.Sums.{length-filter, count_by-le-length}
use Rattle.std.proofs.lemmas.List.{length-append}
use Rattle.task_ids.specs.declared.task_id.TaskId.{TaskId}
use Rattle.task_ids.specs.declared.cluster.Cluster.{Cluster}
use Rattle.task_events.specs.declared.event.Event.{Event}
use Rattle.task_events.specs.declared.event.Event.TheVariants.{Cancel}
use Rattle.task_events.specs.Same.{same_task}
use Rattle.task_events.specs.Cancels.{is_named}
use Rattle.task_events.specs.Lawful.{Lawful}
use Rattle.task_laws.proofs.Numbers.{number, number-append}
use Rattle.task_laws.proofs.Same.{same_tests}
use Rattle.world_moves.specs.Cancels.{tasks_named, is_through, is_due, left_of}
use Rattle.world_moves.proofs.OneChange.{all_or_some, passes}

-- they are those of which the past says so
pub task_in : (c : ℕ) (t : TaskId) (h : List Event) → list_any (same_task t) (tasks_named c h) ≡ is_named c t h
task_in c t [] = refl
task_in c t (Cancel d u w ∷ h) = grind (arith, same_tests, task_in c t h, list_any-append (same_task t) (tasks_named c h) (u ∷ []))
task_in c t (_ ∷ h) = task_in c t h

none_counted : (t : TaskId) (ts : List TaskId) → list_any (same_task t) ts ≡ false → number (same_task t) ts ≡ 0
none_counted t [] e = refl
none_counted t (u ∷ ts) e = let rest = none_counted t ts in grind (arith, rest)

-- each is named once
pub named_once : (cluster : Cluster) (c : ℕ) (t : TaskId) (h : List Event) → Lawful cluster h → number (same_task t) (tasks_named c h) ≤ 1
named_once cluster c t [] l = omega arith
named_once cluster c t (Cancel d u w ∷ h) l = by_number (c == d) refl (named_once cluster c t h l.1)
  where
    by_task : (b : Bool) → same_task t u ≡ b → (c == d) ≡ true → number (same_task t) (tasks_named c h) ≤ 1 → number (same_task t) (tasks_named c h ++ u ∷ []) ≤ 1
    by_task true e is before =
        let fresh = l.0.once in
        let none = none_counted t (tasks_named c h) (task_in c t h ∙ (grind (arith, same_tests, fresh))) in
        let sum = number-append (same_task t) (tasks_named c h) (u ∷ []) in
        grind (arith, none, sum, e)
    by_task false e is before = let sum = number-append (same_task t) (tasks_named c h) (u ∷ []) in grind (arith, sum, e)

    by_number : (b : Bool) → (c == d) ≡ b → number (same_task t) (tasks_named c h) ≤ 1 → number (same_task t) (cond b (tasks_named c h ++ u ∷ []) (tasks_named c h)) ≤ 1
    by_number true e before = by_task (same_task t u) refl e before
    by_number false e before = before
named_once cluster c t (_ ∷ h) l = named_once cluster c t h l.1

-- a cancel is due exactly where it waits at none
pub due_where_none : (c : ℕ) (h : List Event) → is_due h c ≡ (left_of c h == 0)
due_where_none c h = all_or_some (is_through h c) (tasks_named c h)

same_through : (c : ℕ) (t : TaskId) (h : List Event) (u : TaskId) → same_task t u ≡ true → is_through h c u ≡ is_through h c t
same_through c t h u e = let same : t ≡ u = grind (arith, same_tests) in ap (is_through h c) (sym same)

-- one that is due is through with each task that it named
pub through_with : (c : ℕ) (t : TaskId) (h : List Event) → is_due h c ≡ true → is_named c t h ≡ true → is_through h c t ≡ true
through_with c t h due named = passes (same_task t) (is_through h c) (is_through h c t) (same_through c t h) (tasks_named c h) due (task_in c t h ∙ named)

-- there are no more of them than events
named_few : (c : ℕ) (h : List Event) → length (tasks_named c h) ≤ length h
named_few c [] = omega arith
named_few c (Cancel d u w ∷ h) = by_number (c == d) (named_few c h)
  where
    by_number : (b : Bool) → length (tasks_named c h) ≤ length h → length (cond b (tasks_named c h ++ u ∷ []) (tasks_named c h)) ≤ length (Cancel d u w ∷ h)
    by_number true few = let sum = length-append (tasks_named c h) (u ∷ []) in omega (arith, sum, few)
    by_number false few = omega (arith, few)
named_few c (_ ∷ h) = let few = named_few c h in omega (arith, few)

pub left_few : (c : ℕ) (h : List Event) → left_of c h ≤ length h
left_few c h =
    let counted = length-filter (λ t. not (is_through h c t)) (tasks_named c h) in
    let bound = count_by-le-length (λ t. not (is_through h c t)) (tasks_named c h) in
    let few = named_few c h in
    omega (arith, counted, bound, few)
