-- Where a task stands above another, the child through which it does stands above it too, or is it.
use Rattle.std.proofs.Common.{◌≡◌, ◌+◌, ◌≤◌, ℕ, Bool, true, false, cond, List, [], ◌∷◌, Option, Some, None, refl, ◌∙◌, arith}
use Rattle.std.specs.Option.{option_map_or}
use Rattle.std.specs.Prelude.{◌==◌}
use Rattle.task_ids.specs.declared.task_id.TaskId.{TaskId}
use Rattle.task_ids.specs.declared.cluster.Cluster.{Cluster}
use Rattle.task_events.specs.declared.event.Event.{Event}
use Rattle.task_events.specs.declared.event.Event.TheVariants.{Put}
use Rattle.task_events.specs.Asks.{last_ask}
use Rattle.task_events.specs.Lawful.{Lawful}
use Rattle.task_events.specs.Same.{same_task}
use Rattle.task_events.specs.Tasks.{ancestors, ask_of, child_of, parent_of}
use Rattle.task_laws.proofs.Asks.{AskFacts, ask_facts}
use Rattle.task_laws.proofs.Counts.{is_child_of}
use Rattle.task_laws.proofs.InFlight.{requests_in_flight}
use Rattle.task_laws.proofs.Numbers.{number}
use Rattle.task_laws.proofs.Same.{same_tests}
use Rattle.task_laws.proofs.Tree.{TreeFacts, parent_first}
use Rattle.write_laws.proofs.Chains.{times_above}
use Rattle.write_laws.proofs.Sums.{sum_to, sums_agree, sum_of_none, sum_of_sums, reached_once}

-- asks are numbered from 1
pub no_child_of_0 : (cluster : Cluster) (p : TaskId) (h : List Event) → Lawful cluster h → child_of p 0 h ≡ None
no_child_of_0 cluster p [] l = refl
no_child_of_0 cluster p (Put u q j ∷ h) l =
    let f = ask_facts cluster h l.1 in
    grind (arith, same_tests, no_child_of_0 cluster p h l.1, l.0.requested, f.first_ask q, f.place q j, requests_in_flight q j h)
no_child_of_0 cluster p (_ ∷ h) l = no_child_of_0 cluster p h l.1

-- how often the child of an ask is among w and its ancestors, 0 where none was put
abbrev pub child_above : TaskId → TaskId → List Event → ℕ → ℕ
child_above t w h k = option_map_or (λ c. times_above c w h) (child_of t k h) 0

-- among the ancestors alone
abbrev above_alone : TaskId → TaskId → List Event → ℕ → ℕ
above_alone t w h k = option_map_or (λ c. number (same_task c) (ancestors w h)) (child_of t k h) 0

-- 1 where this holds, else 0
abbrev one_if : Bool → ℕ
one_if b = cond b 1 0

-- 1 where w is the child of the ask
abbrev is_the_child : TaskId → TaskId → List Event → ℕ → ℕ
is_the_child t w h k = option_map_or (λ c. one_if (same_task c w)) (child_of t k h) 0

module _ (t : TaskId) (h : List Event) (f : AskFacts h) (g : TreeFacts h) (none_of_0 : child_of t 0 h ≡ None) where
  in_two : (w : TaskId) (k : ℕ) → child_above t w h k ≡ is_the_child t w h k + above_alone t w h k
  in_two w k = by_child (child_of t k h)
    where
      by_child : (o : Option TaskId) → option_map_or (λ c. times_above c w h) o 0 ≡ option_map_or (λ c. one_if (same_task c w)) o 0 + option_map_or (λ c. number (same_task c) (ancestors w h)) o 0
      by_child None = refl
      by_child (Some c) = refl

  sum_in_two : (w : TaskId) → sum_to (child_above t w h) (last_ask t h) ≡ sum_to (is_the_child t w h) (last_ask t h) + sum_to (above_alone t w h) (last_ask t h)
  sum_in_two w = sums_agree _ _ (in_two w) (last_ask t h) ∙ sum_of_sums (is_the_child t w h) (above_alone t w h) (last_ask t h)

  child_by_parent : (w : TaskId) (k : ℕ) → is_the_child t w h k ≡ one_if (is_child_of t k w h)
  child_by_parent w k = by_child (child_of t k h) refl
    where
      by_child : (o : Option TaskId) → child_of t k h ≡ o → option_map_or (λ c. one_if (same_task c w)) o 0 ≡ one_if (is_child_of t k w h)
      by_child None e = grind (arith, same_tests, f.ask_knows t k w)
      by_child (Some c) e = grind (arith, same_tests, f.ask_knows t k w, f.child_knows t k c)

  root_is_none : (w : TaskId) → parent_of w h ≡ None → (k : ℕ) → is_the_child t w h k ≡ 0
  root_is_none w e k = child_by_parent w k ∙ rw e refl

  others_child : (w p : TaskId) → parent_of w h ≡ Some p → same_task t p ≡ false → (k : ℕ) → is_the_child t w h k ≡ 0
  others_child w p e other k = child_by_parent w k ∙ rw e (grind (arith, same_tests))

  own_child : (w p : TaskId) → parent_of w h ≡ Some p → same_task t p ≡ true → (k : ℕ) → is_the_child t w h k ≡ cond (k == ask_of w h) 1 0
  own_child w p e own k = child_by_parent w k ∙ rw e (grind (arith, same_tests))

  its_ask : (w p : TaskId) → parent_of w h ≡ Some p → child_of p (ask_of w h) h ≡ Some w
  its_ask w p e = f.ask_knows p (ask_of w h) w (rw e (grind (arith, same_tests)))

  -- of the children of t one is w, where t is the parent of w
  child_once : (w p : TaskId) → parent_of w h ≡ Some p → (b : Bool) → same_task t p ≡ b → sum_to (is_the_child t w h) (last_ask t h) ≡ cond b 1 0
  child_once w p e false other = sum_of_none (is_the_child t w h) (others_child w p e other) (last_ask t h)
  child_once w p e true own =
      let asked = its_ask w p e in
      let low : 1 ≤ ask_of w h = grind (arith, same_tests, none_of_0) in
      let high : ask_of w h ≤ last_ask t h = grind (arith, same_tests, f.no_child t (ask_of w h)) in
      sums_agree (is_the_child t w h) _ (own_child w p e own) (last_ask t h) ∙ reached_once (ask_of w h) (last_ask t h) low high

  -- t is above w as often as its children are w or above w
  pub by_child : (xs : List TaskId) (w : TaskId) → ancestors w h ≡ xs → number (same_task t) xs ≡ sum_to (child_above t w h) (last_ask t h)
  by_child [] w e = by_parent (parent_of w h) refl
    where
      none_above : (k : ℕ) → above_alone t w h k ≡ 0
      none_above k = by_option (child_of t k h)
        where
          by_option : (o : Option TaskId) → option_map_or (λ c. number (same_task c) (ancestors w h)) o 0 ≡ 0
          by_option None = refl
          by_option (Some c) = rw e refl

      by_parent : (o : Option TaskId) → parent_of w h ≡ o → 0 ≡ sum_to (child_above t w h) (last_ask t h)
      by_parent None is =
          let one = sum_of_none (is_the_child t w h) (root_is_none w is) (last_ask t h) in
          let two = sum_of_none (above_alone t w h) none_above (last_ask t h) in
          let sum = sum_in_two w in
          omega (arith, one, two, sum)
      by_parent (Some p) is = absurd (let above = g.above w in let more = rw is at above in cc)
  by_child (x ∷ ys) w e =
      let first = parent_first w x ys h g e (parent_of w h) refl in
      let rest = by_child ys x first.1 in
      let one = child_once w x first.0 (same_task t x) refl in
      let two = sums_agree (above_alone t w h) (child_above t x h) (above_parent first.1) (last_ask t h) in
      let sum = sum_in_two w in
      omega (arith, rest, one, two, sum)
    where
      above_parent : ancestors x h ≡ ys → (k : ℕ) → above_alone t w h k ≡ child_above t x h k
      above_parent above k = by_option (child_of t k h)
        where
          by_option : (o : Option TaskId) → option_map_or (λ c. number (same_task c) (ancestors w h)) o 0 ≡ option_map_or (λ c. times_above c x h) o 0
          by_option None = refl
          by_option (Some c) = rw (e, above) refl
