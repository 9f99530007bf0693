-- After the answer of a cancellation nothing of its trees starts.
use Rattle.std.proofs.Common.{◌≡◌, ◌≢◌, inl, inr, ℕ, Bool, true, false, ◌||◌, List, [], ◌∷◌, Option, Some, None, refl, arith}
use Rattle.std.specs.List.{list_any}
use Rattle.task_ids.specs.declared.task_id.TaskId.{TaskId}
use Rattle.task_ids.specs.declared.cluster.Cluster.{Cluster}
use Rattle.task_events.specs.declared.event.Event.{Event}
use Rattle.task_events.specs.declared.event.Event.TheVariants.{Cancel, AnswerPlaced, AnswerDone}
use Rattle.task_events.specs.Same.{same_task}
use Rattle.task_events.specs.Tasks.{is_live, is_new, has_passed, parent_of, ancestors, descends}
use Rattle.task_events.specs.Bans.{mark_of, ban_over, bans_are_placed}
use Rattle.task_events.specs.Cancels.{is_named, is_answered_placed, is_answered_done, names_one_of}
use Rattle.task_events.specs.Allowed.{Allowed}
use Rattle.task_events.specs.Lawful.{Lawful}
use Rattle.task_events.specs.Laws.{IsCalledOff}
use Rattle.task_laws.proofs.Same.{same_tests, same_task_refl}
use Rattle.task_laws.proofs.Still.{still_placed}
use Rattle.task_laws.proofs.Tree.{tree_facts}
use Rattle.task_laws.proofs.FirstSteps.{steps_first}
use Rattle.task_laws.proofs.Trees.{placed_marked, stopped_trees}

-- a task of the list was named by the cancellation
abbrev HasNamed : ℕ → List Event → List TaskId → Type 0
HasNamed c h ts = (a : TaskId) × (is_named c a h ≡ true) × (list_any (same_task a) ts ≡ true)

one_named : (c : ℕ) (h : List Event) (ts : List TaskId) → names_one_of c ts h ≡ true → HasNamed c h ts
one_named c h [] e = absurd (cc)
one_named c h (t ∷ ts) e = by_first (is_named c t h) refl (one_named c h ts) e
  where
    by_first : (b : Bool) → is_named c t h ≡ b → (names_one_of c ts h ≡ true → HasNamed c h ts) → (b || names_one_of c ts h) ≡ true → HasNamed c h (t ∷ ts)
    by_first true n later e = (t, n, rw (same_task_refl t) refl)
    by_first false n later e = let one = later e in (one.0, one.1, grind (arith, one.2))

module _ (cluster : Cluster) where
  -- a cancellation that is answered has placed the bans of all tasks that it named
  placed_by : (e : Event) (h : List Event) → Allowed cluster e h → ((c : ℕ) (t : TaskId) → (is_answered_placed c h || is_answered_done c h) ≡ true → is_named c t h ≡ true → bans_are_placed t h ≡ true) →
      (c : ℕ) (t : TaskId) → (is_answered_placed c (e ∷ h) || is_answered_done c (e ∷ h)) ≡ true → is_named c t (e ∷ h) ≡ true → bans_are_placed t h ≡ true
  placed_by (Cancel d u w) h a before c t e n = grind (arith, same_tests, before c t)
  placed_by (AnswerPlaced d) h a before c t e n = grind (arith, same_tests, before c t, a.placed t)
  placed_by (AnswerDone d) h a before c t e n = grind (arith, same_tests, before c t, a.placed t)
  placed_by _ h a before c t e n = before c t e n

  answered_placed : (h : List Event) → Lawful cluster h → (c : ℕ) (t : TaskId) → (is_answered_placed c h || is_answered_done c h) ≡ true → is_named c t h ≡ true → bans_are_placed t h ≡ true
  answered_placed [] l c t e n = absurd (cc)
  answered_placed (e ∷ h) l c t i n = still_placed cluster e h l.0 t (placed_by e h l.0 (answered_placed h l.1) c t i n)

  -- the bans are placed of one of the tasks that are called off
  called_off : (h : List Event) → Lawful cluster h → (ts : List TaskId) → IsCalledOff ts h → (a : TaskId) × (bans_are_placed a h ≡ true) × (list_any (same_task a) ts ≡ true)
  called_off h l ts off =
      let one = one_named off.0 h ts off.2 in
      (one.0, answered_placed h l off.0 one.0 off.1 one.1, one.2)

  pub over_called_off : (t : TaskId) (h : List Event) → Lawful cluster h → is_live t h ≡ true → IsCalledOff (ancestors t h) h → ban_over t h ≢ None
  over_called_off t h l i off =
      let above = called_off h l (ancestors t h) off in
      (stopped_trees cluster h l above.0 above.1 t above.2 i).0

  -- a task that is called off, or whose ancestor is, is marked, or has its first step before it
  below_placed : (a t : TaskId) (h : List Event) → Lawful cluster h → is_live t h ≡ true → bans_are_placed a h ≡ true → descends a t h ≡ true → is_new t h ≡ false → mark_of t h ≢ None
  below_placed a t h l i placed d old = (elim ((stopped_trees cluster h l a placed t d i).1) as (λ _. mark_of t h ≢ None) [ inl marked ↦ marked | inr still ↦ absurd (let new = first_step still in cc) ])
    where
      above : (o : Option TaskId) → parent_of t h ≡ o → has_passed t h ≡ false → is_new t h ≡ true
      above None o still = absurd (let none = rw o at ((tree_facts cluster h l).above t) in let no = rw none at d in cc)
      above (Some p) o still = let step = (steps_first cluster h l).child t p o i in grind arith

      first_step : has_passed t h ≡ false → is_new t h ≡ true
      first_step still = above (parent_of t h) refl still

  pub marked_called_off : (t : TaskId) (h : List Event) → Lawful cluster h → is_live t h ≡ true → is_new t h ≡ false → IsCalledOff (t ∷ ancestors t h) h → mark_of t h ≢ None
  marked_called_off t h l i old off =
      let one = called_off h l (t ∷ ancestors t h) off in
      by_first one.0 one.1 (same_task one.0 t) refl one.2
    where
      by_first : (a : TaskId) → bans_are_placed a h ≡ true → (b : Bool) → same_task a t ≡ b → (b || descends a t h) ≡ true → mark_of t h ≢ None
      by_first a placed true is e = let same : a ≡ t = grind (arith, same_tests) in placed_marked t h (rw same at placed)
      by_first a placed false is e = below_placed a t h l i placed e old
