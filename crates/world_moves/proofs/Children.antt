-- What a child was asked to do is what its parent's ask says.
use Rattle.std.proofs.Common.{◌≡◌, ◌≢◌, ◌⊎◌, ◌<◌, ◌≤◌, ◌+◌, true, false, List, [], ◌∷◌, Some, ap, inl, inr, arith, subst}
use Rattle.task_ids.specs.declared.task_id.TaskId.{TaskId}
use Rattle.task_ids.specs.declared.cluster.Cluster.{Cluster}
use Rattle.task_events.specs.declared.event.Event.{Event}
use Rattle.task_events.specs.declared.event.Event.TheVariants.{Root, Ask, Put}
use Rattle.task_events.specs.Same.{same_task, same_pair}
use Rattle.task_events.specs.Tasks.{parent_of, ask_of, last_number}
use Rattle.task_events.specs.Asks.{request_of_ask, last_ask}
use Rattle.task_events.specs.Requests.{Scripted, request_of}
use Rattle.task_events.specs.Lawful.{Lawful}
use Rattle.task_laws.proofs.Same.{same_task_tells, same_pair_tells, same_tests}
use Rattle.task_laws.proofs.Counts.{is_child_of}
use Rattle.task_laws.proofs.Asks.{AskFacts, ask_facts}

-- the ask of a child is one that its parent has made
child_asked : (t p : TaskId) (h : List Event) → AskFacts h → parent_of t h ≡ Some p → last_ask p h < ask_of t h → ⊥
child_asked t p h f e l =
    let mine : is_child_of p (ask_of t h) t h ≡ true = rw e (grind (arith, same_tests)) in
    let child = f.ask_knows p (ask_of t h) t mine in
    let none = f.no_child p (ask_of t h) l in
    cc

module _ (cluster : Cluster) (said : Scripted) where
  pub child_request : (t p : TaskId) (h : List Event) → Lawful cluster h → parent_of t h ≡ Some p → request_of said t h ≡ request_of_ask p (ask_of t h) h
  child_request t p [] l e = absurd (cc)
  child_request t p (Root c u ∷ h) l e = by_case (same_task_tells t u) (child_request t p h l.1 e)
    where
      by_case : ((same_task t u ≡ true) × (t ≡ u)) ⊎ ((same_task t u ≡ false) × (t ≢ u)) → request_of said t h ≡ request_of_ask p (ask_of t h) h → request_of said t (Root c u ∷ h) ≡ request_of_ask p (ask_of t h) h
      by_case (inl (is_one, same)) before =
          let next : u.number ≡ last_number u.node h + 1 = l.0.takes.next in
          let born = subst (λ v. v.number ≤ last_number v.node h) same ((ask_facts cluster h l.1).child_is_born t p e) in
          absurd (omega arith)
      by_case (inr (differs, apart)) before = rw differs before
  child_request t p (Ask q j n r ∷ h) l e = by_case (same_pair_tells p (ask_of t h) q j) (child_request t p h l.1 e)
    where
      by_case : ((same_pair p (ask_of t h) q j ≡ true) × (p ≡ q) × (ask_of t h ≡ j)) ⊎ ((same_pair p (ask_of t h) q j ≡ false) × (p ≡ q → ask_of t h ≢ j)) → request_of said t h ≡ request_of_ask p (ask_of t h) h → request_of said t h ≡ request_of_ask p (ask_of t h) (Ask q j n r ∷ h)
      by_case (inl (is_one, same, number)) before =
          let next : j ≡ last_ask q h + 1 = l.0.next in
          let last : last_ask p h ≡ last_ask q h = ap (λ v. last_ask v h) same in
          absurd (child_asked t p h (ask_facts cluster h l.1) e (omega arith))
      by_case (inr (differs, apart)) before = rw differs before
  child_request t p (Put u q j ∷ h) l e = by_case (same_task_tells t u) (child_request t p h l.1)
    where
      by_case : ((same_task t u ≡ true) × (t ≡ u)) ⊎ ((same_task t u ≡ false) × (t ≢ u)) → (parent_of t h ≡ Some p → request_of said t h ≡ request_of_ask p (ask_of t h) h) → request_of said t (Put u q j ∷ h) ≡ request_of_ask p (ask_of t (Put u q j ∷ h)) h
      by_case (inl (is_one, same)) before =
          let parent = rw is_one at e in
          let q_is : q ≡ p = cc in
          rw is_one (ap (λ v. request_of_ask v j h) q_is)
      by_case (inr (differs, apart)) before = let parent = rw differs at e in rw differs (before parent)
  child_request t p (_ ∷ h) l e = child_request t p h l.1 e
