-- Alarms in order, and by task, after a change of one of them.
use Rattle.std.proofs.Common.{◌≡◌, ◌≢◌, ◌⊎◌, ◌≤◌, ℕ, Bool, true, false, ◌&&◌, cond, List, [], ◌∷◌, length, Option, Some, None, refl, sym, ap, subst, ◌∙◌, inl, inr, arith}
use Rattle.std.specs.Prelude.{◌==◌}
use Rattle.std.specs.BTreeMap.{is_at}
use Rattle.std.specs.BTreeSet.{BTreeSet, contains, btree_set_len, IsLowerBound}
use Rattle.std.specs.Cmp.{Equal-is, IsTotalOrder, eq_by_cmp_equiv}
use Rattle.std.specs.List.{list_any}
use Rattle.std.specs.Ordering.{nat_cmp, ordering_then, is_eq, is_gt}
use Rattle.std.specs.declared.cmp.Ordering.{Ordering}
use Rattle.std.specs.declared.cmp.Ordering.TheVariants.{Less, Equal, Greater}
use Rattle.std.proofs.lemmas.Bool.Decides.{nat_tests}
use Rattle.std.proofs.lemmas.Cmp.{nat_cmp_total, on_total, then_total}
use Rattle.std.proofs.lemmas.Map.Keys.{le_from_not_gt}
use Rattle.std.proofs.lemmas.Map.Lookups.{CmpEqualImpliesEq, exact_pairs, exact_unsigned}
use Rattle.task_ids.specs.declared.task_id.TaskId.{TaskId}
use Rattle.task_ids.specs.TaskIdOrder.{task_id_cmp}
use Rattle.task_ids.proofs.TaskIdKeys.{exact_ids, ids_total}
use Rattle.task_events.specs.Allowed.{is_number}
use Rattle.task_events.specs.Same.{same_task}
use Rattle.task_laws.proofs.Same.{same_task_tells, same_tests}
use Rattle.world_moves.proofs.KeptTasks.{is_at_task}
use Rattle.world_steps.specs.declared.alarms.Alarm.{Alarm}
use Rattle.world_steps.specs.Alarms.{alarm_cmp}

-- alarms that compare alike are one
exact_alarms : CmpEqualImpliesEq alarm_cmp
exact_alarms a b h =
    let same = exact_pairs nat_cmp task_id_cmp exact_unsigned exact_ids (a.moment, a.task) (b.moment, b.task) h in
    λ i. record { moment = (same i).0; task = (same i).1 }

alarms_total : IsTotalOrder alarm_cmp
alarms_total = then_total (on_total (λ a. a.moment) nat_cmp_total) (on_total (λ a. a.task) ids_total)

-- one alarm: the same moment, and the same task
abbrev same_alarm : Alarm → Alarm → Bool
same_alarm a b = (a.moment == b.moment) && same_task a.task b.task

one_alarm : (a b : Alarm) → same_alarm a b ≡ true → a ≡ b
one_alarm a b same =
    let moments : a.moment ≡ b.moment = grind (arith, same_tests) in
    let tasks : a.task ≡ b.task = grind (arith, same_tests) in
    λ i. record { moment = moments i; task = tasks i }

itself : (a : Alarm) → same_alarm a a ≡ true
itself a = grind (arith, same_tests)

is_at_alarm : (a b : Alarm) → is_at (alarm_cmp a) b ≡ same_alarm a b
is_at_alarm a b = by_case (is_at (alarm_cmp a) b) refl (same_alarm a b) refl
  where
    by_case : (x : Bool) → is_at (alarm_cmp a) b ≡ x → (y : Bool) → same_alarm a b ≡ y → is_at (alarm_cmp a) b ≡ same_alarm a b
    by_case x e true same = subst (λ c. is_at (alarm_cmp a) c ≡ true) (one_alarm a b same) ((eq_by_cmp_equiv alarms_total).refl a) ∙ sym same
    by_case false e false differs = e ∙ sym differs
    by_case true e false differs = absurd (let x = sym differs ∙ subst (λ c. same_alarm a c ≡ true) (exact_alarms a b ((Equal-is (alarm_cmp a b)).0 e)) (itself a) in cc)

-- one alarm is taken out, or put in where its task has none
module _ (old new : TaskId → Option ℕ) (was is : Alarm → Bool) (alarm : Alarm) (are : (a : Alarm) → was a ≡ is_number a.moment (old a.task)) where
  pub taken : old alarm.task ≡ Some alarm.moment → ((q : TaskId) → new q ≡ cond (is_at (task_id_cmp alarm.task) q) None (old q)) → ((a : Alarm) → is a ≡ cond (is_at (alarm_cmp alarm) a) false (was a))
      → (a : Alarm) → is a ≡ is_number a.moment (new a.task)
  taken there moments order a =
      by_task (same_task_tells alarm.task a.task) (alarm.moment == a.moment) refl
    where
      by_task : ((same_task alarm.task a.task ≡ true) × (alarm.task ≡ a.task)) ⊎ ((same_task alarm.task a.task ≡ false) × (alarm.task ≢ a.task)) → (b : Bool) → (alarm.moment == a.moment) ≡ b → is a ≡ is_number a.moment (new a.task)
      by_task (inl (one, same)) b m =
          let it = ap (is_number a.moment) (sym (ap old same) ∙ there) in
          let w = are a in
          rw (order a, is_at_alarm alarm a, moments a.task, is_at_task alarm.task a.task) (grind (arith, nat_tests, one, it, w, m))
      by_task (inr (differs, apart)) b m =
          rw (order a, is_at_alarm alarm a, moments a.task, is_at_task alarm.task a.task, differs, m) (grind (arith, are a))

  pub put : old alarm.task ≡ None → ((q : TaskId) → new q ≡ cond (is_at (task_id_cmp alarm.task) q) (Some alarm.moment) (old q)) → ((a : Alarm) → is a ≡ cond (is_at (alarm_cmp alarm) a) true (was a))
      → (a : Alarm) → is a ≡ is_number a.moment (new a.task)
  put none moments order a =
      by_task (same_task_tells alarm.task a.task) (alarm.moment == a.moment) refl
    where
      by_task : ((same_task alarm.task a.task ≡ true) × (alarm.task ≡ a.task)) ⊎ ((same_task alarm.task a.task ≡ false) × (alarm.task ≢ a.task)) → (b : Bool) → (alarm.moment == a.moment) ≡ b → is a ≡ is_number a.moment (new a.task)
      by_task (inl (one, same)) b m =
          let it = ap (is_number a.moment) (sym (ap old same) ∙ none) in
          let w = are a in
          rw (order a, is_at_alarm alarm a, moments a.task, is_at_task alarm.task a.task) (grind (arith, nat_tests, one, it, w, m))
      by_task (inr (differs, apart)) b m =
          rw (order a, is_at_alarm alarm a, moments a.task, is_at_task alarm.task a.task, differs, m) (grind (arith, are a))

-- by the test on ids
pub by_id : (old new : TaskId → Option ℕ) (t : TaskId) (o : Option ℕ) → ((q : TaskId) → new q ≡ cond (is_at (task_id_cmp t) q) o (old q)) → (q : TaskId) → new q ≡ cond (same_task t q) o (old q)
by_id old new t o changed q = changed q ∙ ap (λ b. cond b o (old q)) (is_at_task t q)

-- after it is taken out a task has none, and another may be put in
pub none_then : (old new : TaskId → Option ℕ) (t : TaskId) → ((q : TaskId) → new q ≡ cond (same_task t q) None (old q)) → new t ≡ None
none_then old new t out = let same : same_task t t ≡ true = grind (arith, same_tests) in out t ∙ ap (λ b. cond b None (old t)) same

pub put_then : (old middle new : TaskId → Option ℕ) (t : TaskId) (o : Option ℕ) → ((q : TaskId) → middle q ≡ cond (same_task t q) None (old q)) → ((q : TaskId) → new q ≡ cond (is_at (task_id_cmp t) q) o (middle q)) → (q : TaskId) → new q ≡ cond (same_task t q) o (old q)
put_then old middle new t o out into q = by_id middle new t o into q ∙ ap (cond (same_task t q) o) (out q) ∙ by_test (same_task t q)
  where
    by_test : (b : Bool) → cond b o (cond b None (old q)) ≡ cond b o (old q)
    by_test true = refl
    by_test false = refl

-- one that was put in and taken out again
pub put_back : (was middle is : Alarm → Bool) (alarm : Alarm) → was alarm ≡ false → ((a : Alarm) → middle a ≡ cond (is_at (alarm_cmp alarm) a) true (was a)) → ((a : Alarm) → is a ≡ cond (is_at (alarm_cmp alarm) a) false (middle a)) → (a : Alarm) → is a ≡ was a
put_back was middle is alarm fresh into out a = by_case (same_alarm alarm a) refl
  where
    by_case : (b : Bool) → same_alarm alarm a ≡ b → is a ≡ was a
    by_case true e = rw (out a, is_at_alarm alarm a, e) (sym (sym (ap was (one_alarm alarm a e)) ∙ fresh))
    by_case false e = rw (out a, into a, is_at_alarm alarm a, e) refl

-- ---- the first of them

first_alone : (o p : Ordering) → is_gt (ordering_then o p) ≡ false → is_gt o ≡ false
first_alone Less p e = refl
first_alone Equal p e = refl
first_alone Greater p e = e

module _ (order : BTreeSet Alarm) (at : TaskId → Option ℕ) (are : (a : Alarm) → contains alarm_cmp order a ≡ is_number a.moment (at a.task)) where
  pub is_there : (q : TaskId) (moment : ℕ) → at q ≡ Some moment → contains alarm_cmp order (record { moment = moment; task = q }) ≡ true
  is_there q moment there = are (record { moment = moment; task = q }) ∙ ap (is_number moment) there ∙ grind (arith, nat_tests)

  pub first_there : (a : Alarm) → contains alarm_cmp order a ≡ true → at a.task ≡ Some a.moment
  first_there a member = by_moment (at a.task) refl
    where
      by_moment : (o : Option ℕ) → at a.task ≡ o → at a.task ≡ Some a.moment
      by_moment None e = absurd (let none = sym member ∙ are a ∙ ap (is_number a.moment) e in cc)
      by_moment (Some m) e = let one = sym (ap (is_number a.moment) e) ∙ sym (are a) ∙ member in let same : a.moment ≡ m = grind (arith, nat_tests) in e ∙ ap Some (sym same)

  pub first_least : (a : Alarm) → IsLowerBound alarm_cmp order a → (q : TaskId) (moment : ℕ) → at q ≡ Some moment → a.moment ≤ moment
  first_least a least q moment there = le_from_not_gt a.moment moment (first_alone (nat_cmp a.moment moment) (task_id_cmp a.task q) (least (record { moment = moment; task = q }) (is_there q moment there)))

  pub none_first : btree_set_len order ≡ 0 → (q : TaskId) → at q ≡ None
  none_first empty q = by_moment (at q) refl
    where
      by_keys : (keys : List Alarm) (a : Alarm) → length keys ≡ 0 → list_any (is_at (alarm_cmp a)) keys ≡ false
      by_keys [] a e = refl
      by_keys (k ∷ keys) a e = absurd (cc)

      by_moment : (o : Option ℕ) → at q ≡ o → at q ≡ None
      by_moment None e = e
      by_moment (Some m) e = absurd (let none = by_keys order.keys (record { moment = m; task = q }) empty in let some = is_there q m e in cc)
