-- A task that has not passed has written nothing, nor has its tree; and the tree of a task that has ended writes nothing more, nor is it a task that starts.
use Rattle.std.proofs.Common.{◌≡◌, ◌<◌, ℕ, Bool, true, false, List, [], ◌∷◌, Option, Some, None, refl, sym, ap, ◌∙◌, arith}
use Rattle.std.specs.Option.{option_map_or}
use Rattle.task_ids.specs.declared.task_id.TaskId.{TaskId}
use Rattle.task_ids.specs.declared.cluster.Cluster.{Cluster}
use Rattle.task_events.specs.declared.event.Event.{Event}
use Rattle.task_events.specs.declared.event.Event.TheVariants.{Root, Put, Pass, Refuse, Work, Write}
use Rattle.task_events.specs.declared.event.Outcome.{Outcome}
use Rattle.task_events.specs.declared.reply.Reply.{Reply}
use Rattle.task_events.specs.Asks.{last_ask}
use Rattle.task_events.specs.Cancels.{turn_of}
use Rattle.task_events.specs.Lawful.{Lawful}
use Rattle.task_events.specs.Same.{same_task}
use Rattle.task_events.specs.Tasks.{ancestors, has_ended, is_new, last_number, reply_of}
use Rattle.task_events.specs.Written.{writes_by}
use Rattle.task_laws.proofs.Asks.{ask_facts}
use Rattle.task_laws.proofs.Content.{answer_facts}
use Rattle.task_laws.proofs.Same.{same_tests}
use Rattle.task_laws.proofs.Tree.{ancestors_live, tree_facts}
use Rattle.write_laws.specs.TreeWrites.{is_in_tree, tree_is_writing, tree_writes}
use Rattle.write_laws.proofs.Sums.{sum_to}
use Rattle.write_laws.proofs.Trees.{by_children, child_writes, turn_is_live}

-- whose turn it is has passed
turn_passed : (cluster : Cluster) (h : List Event) → Lawful cluster h → (w : TaskId) → turn_of h ≡ Some w → is_new w h ≡ false
turn_passed cluster (Work t ∷ h) l w e = let same : t ≡ w = cc in ap (λ u. is_new u h) (sym same) ∙ l.0.goes_on.passed
turn_passed cluster (Write index shard outcome id ∷ h) l w e = turn_passed cluster h l.1 w e
turn_passed cluster [] l w e = absurd (cc)
turn_passed cluster (_ ∷ h) l w e = absurd (cc)

module _ (cluster : Cluster) where
  own_unborn : (h : List Event) → Lawful cluster h → (t : TaskId) → last_number t.node h < t.number → (o : Option TaskId) → turn_of h ≡ o → option_map_or (same_task t) o false ≡ false
  own_unborn h l t i None e = refl
  own_unborn h l t i (Some w) e = let f = ask_facts cluster h l in let born = f.born w (turn_is_live cluster h l w e) in grind (arith, same_tests, born)

  own_new : (h : List Event) → Lawful cluster h → (t : TaskId) → is_new t h ≡ true → (o : Option TaskId) → turn_of h ≡ o → option_map_or (same_task t) o false ≡ false
  own_new h l t i None e = refl
  own_new h l t i (Some w) e = let passed = turn_passed cluster h l w e in grind (arith, same_tests, passed)

  module _ (test : Outcome → Bool) where
    pub unborn_own : (h : List Event) → Lawful cluster h → (t : TaskId) → last_number t.node h < t.number → writes_by test t h ≡ 0
    unborn_own [] l t i = refl
    unborn_own (Root c u ∷ h) l t i = unborn_own h l.1 t (grind (arith, same_tests, l.0.takes.next))
    unborn_own (Put u p k ∷ h) l t i = unborn_own h l.1 t (grind (arith, same_tests, l.0.takes.next))
    unborn_own (Write index shard outcome id ∷ h) l t i = let quiet = own_unborn h l.1 t i (turn_of h) refl in rw quiet (unborn_own h l.1 t i)
    unborn_own (_ ∷ h) l t i = unborn_own h l.1 t i

    new_own : (h : List Event) → Lawful cluster h → (t : TaskId) → is_new t h ≡ true → writes_by test t h ≡ 0
    new_own [] l t i = refl
    new_own (Put u p k ∷ h) l t i = grind (arith, same_tests, new_own h l.1 t, unborn_own h l.1 t, l.0.takes.next)
    new_own (Pass u ∷ h) l t i = grind (arith, same_tests, new_own h l.1 t)
    new_own (Refuse u c ∷ h) l t i = grind (arith, same_tests, new_own h l.1 t)
    new_own (Write index shard outcome id ∷ h) l t i = let quiet = own_new h l.1 t i (turn_of h) refl in rw quiet (new_own h l.1 t i)
    new_own (_ ∷ h) l t i = new_own h l.1 t i

    -- it has asked for nothing either
    pub new_writes : (h : List Event) → Lawful cluster h → (t : TaskId) → is_new t h ≡ true → tree_writes test t h ≡ 0
    new_writes h l t i =
        let f = ask_facts cluster h l in
        let none : sum_to (child_writes test t h) (last_ask t h) ≡ 0 = rw (f.new_asks t i) refl in
        omega (arith, by_children cluster test h l t, new_own h l t i, none)

  -- of the tree of a task that has ended nothing is live, so it is nobody's turn there
  ended_by_turn : (h : List Event) → Lawful cluster h → (t : TaskId) → has_ended t h ≡ true → (o : Option TaskId) → turn_of h ≡ o → option_map_or (λ w. is_in_tree t w h) o false ≡ false
  ended_by_turn h l t i None e = refl
  ended_by_turn h l t i (Some w) e =
      let f = ask_facts cluster h l in
      let live = turn_is_live cluster h l w e in
      let none = ancestors_live t h f (tree_facts cluster h l) i (ancestors w h) w refl live in
      grind (arith, same_tests, live, none, f.live_or_ended w)

  pub ended_quiet : (h : List Event) → Lawful cluster h → (t : TaskId) → has_ended t h ≡ true → tree_is_writing t h ≡ false
  ended_quiet h l t i = ended_by_turn h l t i (turn_of h) refl

  -- a task that has replied existed, so a task that starts now is another
  pub root_apart : (c : ℕ) (u : TaskId) (h : List Event) → Lawful cluster (Root c u ∷ h) → (t : TaskId) (reply : Reply) → reply_of t h ≡ Some reply → same_task t u ≡ false
  root_apart c u h l t reply e =
      let ended = (answer_facts cluster h l.1).reply_ended t reply e in
      let unborn = (ask_facts cluster h l.1).unborn_ended t in
      grind (arith, same_tests, ended, unborn, l.0.takes.next)

  pub put_apart : (u q : TaskId) (j : ℕ) (h : List Event) → Lawful cluster (Put u q j ∷ h) → (t : TaskId) (reply : Reply) → reply_of t h ≡ Some reply → same_task t u ≡ false
  put_apart u q j h l t reply e =
      let ended = (answer_facts cluster h l.1).reply_ended t reply e in
      let unborn = (ask_facts cluster h l.1).unborn_ended t in
      grind (arith, same_tests, ended, unborn, l.0.takes.next)
