-- The first layer: asks, their children and their answers.
use Rattle.std.proofs.Common.{◌≡◌, ◌+◌, ◌≤◌, ◌<◌, ℕ, true, false, cond, List, [], ◌∷◌, Some, None, refl, arith}
use Rattle.task_ids.specs.declared.task_id.TaskId.{TaskId}
use Rattle.task_ids.specs.declared.cluster.Cluster.{Cluster}
use Rattle.task_events.specs.declared.event.Event.{Event}
use Rattle.task_events.specs.declared.event.Event.TheVariants.{Root, Ask, Put, Reject, Pass, Refuse, Answered, End}
use Rattle.task_events.specs.Tasks.{is_live, has_ended, last_number, is_new, child_of, parent_of, ask_of, live_child}
use Rattle.task_events.specs.Asks.{last_ask, is_unanswered}
use Rattle.task_events.specs.Messages.{is_request, number_in_flight}
use Rattle.task_events.specs.Allowed.{Allowed}
use Rattle.task_events.specs.Lawful.{Lawful}
use Rattle.task_laws.proofs.Same.{same_tests}
use Rattle.task_laws.proofs.Counts.{is_child_of, requests, answers}
use Rattle.task_laws.proofs.InFlight.{requests_in_flight, answers_in_flight}
use Rattle.task_laws.proofs.Pending.{is_pending}

pub record AskFacts (h : List Event) : Type 0 where
  pub born : (t : TaskId) → is_live t h ≡ true → t.number ≤ last_number t.node h
  pub unborn_ended : (t : TaskId) → last_number t.node h < t.number → has_ended t h ≡ false
  pub live_or_ended : (t : TaskId) → is_live t h ≡ true → has_ended t h ≡ false
  pub put_lives : (t p : TaskId) → parent_of t h ≡ Some p → is_live t h ≡ false → has_ended t h ≡ true
  pub child_is_born : (t p : TaskId) → parent_of t h ≡ Some p → t.number ≤ last_number t.node h
  pub parent_born : (t p : TaskId) → parent_of t h ≡ Some p → p.number ≤ last_number p.node h
  pub unborn_asks : (t : TaskId) → last_number t.node h < t.number → last_ask t h ≡ 0
  pub new_asks : (t : TaskId) → is_new t h ≡ true → last_ask t h ≡ 0
  pub not_asked : (p : TaskId) (k : ℕ) → last_ask p h < k → is_unanswered p k h ≡ false
  pub first_ask : (p : TaskId) → is_unanswered p 0 h ≡ false
  pub live_asker : (p : TaskId) (k : ℕ) → is_unanswered p k h ≡ true → is_live p h ≡ true
  pub no_child : (p : TaskId) (k : ℕ) → last_ask p h < k → child_of p k h ≡ None
  pub child_born : (p : TaskId) (k : ℕ) (u : TaskId) → child_of p k h ≡ Some u → u.number ≤ last_number u.node h
  pub child_put : (p : TaskId) (k : ℕ) (u : TaskId) → child_of p k h ≡ Some u → requests p k h ≡ 0
  pub child_knows : (p : TaskId) (k : ℕ) (u : TaskId) → child_of p k h ≡ Some u → is_child_of p k u h ≡ true
  pub ask_knows : (p : TaskId) (k : ℕ) (u : TaskId) → is_child_of p k u h ≡ true → child_of p k h ≡ Some u
  pub place : (p : TaskId) (k : ℕ) → requests p k h + live_child p k h + answers p k h ≡ cond (is_unanswered p k h) 1 0

-- the task whose request is in flight is live
pub requested_live : (p : TaskId) (k : ℕ) (h : List Event) → AskFacts h → 0 < number_in_flight (is_request p k) h → is_live p h ≡ true
requested_live p k h f i = grind (arith, requests_in_flight p k h, f.place p k, f.live_asker p k)

-- and so it exists
pub requested_born : (p : TaskId) (k : ℕ) (h : List Event) → AskFacts h → 0 < number_in_flight (is_request p k) h → p.number ≤ last_number p.node h
requested_born p k h f i = f.born p (requested_live p k h f i)

-- the ask of a live child is unanswered
pub child_unanswered : (t p : TaskId) (h : List Event) → AskFacts h → parent_of t h ≡ Some p → is_live t h ≡ true → is_unanswered p (ask_of t h) h ≡ true
child_unanswered t p h f e l =
    let mine : is_child_of p (ask_of t h) t h ≡ true = rw e (grind (arith, same_tests)) in
    let child = f.ask_knows p (ask_of t h) t mine in
    let one : live_child p (ask_of t h) h ≡ 1 = rw child (rw l) in
    grind (arith, f.place p (ask_of t h))

-- the parent of a live child is live
pub parent_live : (t p : TaskId) (h : List Event) → AskFacts h → parent_of t h ≡ Some p → is_live t h ≡ true → is_live p h ≡ true
parent_live t p h f e l = f.live_asker p (ask_of t h) (child_unanswered t p h f e l)

module _ (cluster : Cluster) where
  keep_born : (e : Event) (h : List Event) → Allowed cluster e h → AskFacts h → (t : TaskId) → is_live t (e ∷ h) ≡ true → t.number ≤ last_number t.node (e ∷ h)
  keep_born (Root c u) h a f t l = grind (arith, same_tests, f.born t)
  keep_born (Put u p k) h a f t l = grind (arith, same_tests, f.born t)
  keep_born (Refuse u c) h a f t l = grind (arith, same_tests, f.born t)
  keep_born (End u r) h a f t l = grind (arith, same_tests, f.born t)
  keep_born _ h a f t l = f.born t l

  keep_unborn_ended : (e : Event) (h : List Event) → Allowed cluster e h → AskFacts h → (t : TaskId) → last_number t.node (e ∷ h) < t.number → has_ended t (e ∷ h) ≡ false
  keep_unborn_ended (Root c u) h a f t l = grind (arith, same_tests, f.unborn_ended t)
  keep_unborn_ended (Put u p k) h a f t l = grind (arith, same_tests, f.unborn_ended t)
  keep_unborn_ended (Refuse u c) h a f t l = grind (arith, same_tests, f.unborn_ended t, f.born u a.live)
  keep_unborn_ended (End u r) h a f t l = grind (arith, same_tests, f.unborn_ended t, f.born u a.goes_on.live)
  keep_unborn_ended _ h a f t l = f.unborn_ended t l

  keep_live_or_ended : (e : Event) (h : List Event) → Allowed cluster e h → AskFacts h → (t : TaskId) → is_live t (e ∷ h) ≡ true → has_ended t (e ∷ h) ≡ false
  keep_live_or_ended (Root c u) h a f t l = grind (arith, same_tests, f.live_or_ended t, f.unborn_ended t)
  keep_live_or_ended (Put u p k) h a f t l = grind (arith, same_tests, f.live_or_ended t, f.unborn_ended t)
  keep_live_or_ended (Refuse u c) h a f t l = grind (arith, same_tests, f.live_or_ended t)
  keep_live_or_ended (End u r) h a f t l = grind (arith, same_tests, f.live_or_ended t)
  keep_live_or_ended _ h a f t l = f.live_or_ended t l

  keep_put_lives : (e : Event) (h : List Event) → Allowed cluster e h → AskFacts h → (t p : TaskId) → parent_of t (e ∷ h) ≡ Some p → is_live t (e ∷ h) ≡ false → has_ended t (e ∷ h) ≡ true
  keep_put_lives (Root c u) h a f t p e l = grind (arith, same_tests, f.put_lives t p)
  keep_put_lives (Put u q k) h a f t p e l = grind (arith, same_tests, f.put_lives t p)
  keep_put_lives (Refuse u c) h a f t p e l = grind (arith, same_tests, f.put_lives t p)
  keep_put_lives (End u r) h a f t p e l = grind (arith, same_tests, f.put_lives t p)
  keep_put_lives _ h a f t p e l = f.put_lives t p e l

  keep_child_is_born : (e : Event) (h : List Event) → Allowed cluster e h → AskFacts h → (t p : TaskId) → parent_of t (e ∷ h) ≡ Some p → t.number ≤ last_number t.node (e ∷ h)
  keep_child_is_born (Root c u) h a f t p e = grind (arith, same_tests, f.child_is_born t p)
  keep_child_is_born (Put u q k) h a f t p e = grind (arith, same_tests, f.child_is_born t p)
  keep_child_is_born _ h a f t p e = f.child_is_born t p e

  keep_parent_born : (e : Event) (h : List Event) → Allowed cluster e h → AskFacts h → (t p : TaskId) → parent_of t (e ∷ h) ≡ Some p → p.number ≤ last_number p.node (e ∷ h)
  keep_parent_born (Root c u) h a f t p e = grind (arith, same_tests, f.parent_born t p)
  keep_parent_born (Put u q k) h a f t p e = grind (arith, same_tests, f.parent_born t p, requested_born q k h f a.requested)
  keep_parent_born _ h a f t p e = f.parent_born t p e

  keep_unborn_asks : (e : Event) (h : List Event) → Allowed cluster e h → AskFacts h → (t : TaskId) → last_number t.node (e ∷ h) < t.number → last_ask t (e ∷ h) ≡ 0
  keep_unborn_asks (Root c u) h a f t l = grind (arith, same_tests, f.unborn_asks t)
  keep_unborn_asks (Put u p k) h a f t l = grind (arith, same_tests, f.unborn_asks t)
  keep_unborn_asks (Ask p k n w) h a f t l = grind (arith, same_tests, f.unborn_asks t, f.born p a.goes_on.live)
  keep_unborn_asks _ h a f t l = f.unborn_asks t l

  keep_new_asks : (e : Event) (h : List Event) → Allowed cluster e h → AskFacts h → (t : TaskId) → is_new t (e ∷ h) ≡ true → last_ask t (e ∷ h) ≡ 0
  keep_new_asks (Put u p k) h a f t l = grind (arith, same_tests, f.new_asks t, f.unborn_asks t)
  keep_new_asks (Pass u) h a f t l = grind (arith, same_tests, f.new_asks t)
  keep_new_asks (Refuse u c) h a f t l = grind (arith, same_tests, f.new_asks t)
  keep_new_asks (Ask p k n w) h a f t l = grind (arith, same_tests, f.new_asks t)
  keep_new_asks _ h a f t l = f.new_asks t l

  keep_not_asked : (e : Event) (h : List Event) → Allowed cluster e h → AskFacts h → (p : TaskId) (k : ℕ) → last_ask p (e ∷ h) < k → is_unanswered p k (e ∷ h) ≡ false
  keep_not_asked (Ask q j n w) h a f p k l = grind (arith, same_tests, f.not_asked p k)
  keep_not_asked (Answered q j) h a f p k l = grind (arith, same_tests, f.not_asked p k)
  keep_not_asked _ h a f p k l = f.not_asked p k l

  keep_no_child : (e : Event) (h : List Event) → Allowed cluster e h → AskFacts h → (p : TaskId) (k : ℕ) → last_ask p (e ∷ h) < k → child_of p k (e ∷ h) ≡ None
  keep_no_child (Ask q j n w) h a f p k l = grind (arith, same_tests, f.no_child p k)
  keep_no_child (Put t q j) h a f p k l = grind (arith, same_tests, f.no_child p k, f.not_asked q j, f.place q j, requests_in_flight q j h)
  keep_no_child _ h a f p k l = f.no_child p k l

  keep_child_born : (e : Event) (h : List Event) → Allowed cluster e h → AskFacts h → (p : TaskId) (k : ℕ) (u : TaskId) → child_of p k (e ∷ h) ≡ Some u → u.number ≤ last_number u.node (e ∷ h)
  keep_child_born (Root c t) h a f p k u l = grind (arith, same_tests, f.child_born p k u)
  keep_child_born (Put t q j) h a f p k u l = grind (arith, same_tests, f.child_born p k u)
  keep_child_born _ h a f p k u l = f.child_born p k u l

  keep_child_put : (e : Event) (h : List Event) → Allowed cluster e h → AskFacts h → (p : TaskId) (k : ℕ) (u : TaskId) → child_of p k (e ∷ h) ≡ Some u → requests p k (e ∷ h) ≡ 0
  keep_child_put (Ask q j n w) h a f p k u l = grind (arith, same_tests, f.child_put p k u, f.no_child p k)
  keep_child_put (Put t q j) h a f p k u l = grind (arith, same_tests, f.child_put p k u, f.place p k)
  keep_child_put (Reject n q j) h a f p k u l = grind (arith, same_tests, f.child_put p k u)
  keep_child_put _ h a f p k u l = f.child_put p k u l

  keep_child_knows : (e : Event) (h : List Event) → Allowed cluster e h → AskFacts h → (p : TaskId) (k : ℕ) (u : TaskId) → child_of p k (e ∷ h) ≡ Some u → is_child_of p k u (e ∷ h) ≡ true
  keep_child_knows (Put t q j) h a f p k u l = grind (arith, same_tests, f.child_knows p k u, f.child_born p k u)
  keep_child_knows _ h a f p k u l = f.child_knows p k u l

  keep_ask_knows : (e : Event) (h : List Event) → Allowed cluster e h → AskFacts h → (p : TaskId) (k : ℕ) (u : TaskId) → is_child_of p k u (e ∷ h) ≡ true → child_of p k (e ∷ h) ≡ Some u
  keep_ask_knows (Put t q j) h a f p k u l = grind (arith, same_tests, f.ask_knows p k u, f.child_put p k u, requests_in_flight q j h)
  keep_ask_knows _ h a f p k u l = f.ask_knows p k u l

  keep_first_ask : (e : Event) (h : List Event) → Allowed cluster e h → AskFacts h → (p : TaskId) → is_unanswered p 0 (e ∷ h) ≡ false
  keep_first_ask (Ask q j n w) h a f p = grind (arith, same_tests, f.first_ask p)
  keep_first_ask (Answered q j) h a f p = grind (arith, same_tests, f.first_ask p)
  keep_first_ask _ h a f p = f.first_ask p

  keep_live_asker : (e : Event) (h : List Event) → Allowed cluster e h → AskFacts h → (p : TaskId) (k : ℕ) → is_unanswered p k (e ∷ h) ≡ true → is_live p (e ∷ h) ≡ true
  keep_live_asker (Root c u) h a f p k l = grind (arith, same_tests, f.live_asker p k)
  keep_live_asker (Put u q j) h a f p k l = grind (arith, same_tests, f.live_asker p k)
  keep_live_asker (Ask q j n w) h a f p k l = grind (arith, same_tests, f.live_asker p k)
  keep_live_asker (Answered q j) h a f p k l = grind (arith, same_tests, f.live_asker p k)
  keep_live_asker (Refuse u c) h a f p k l = grind (arith, same_tests, f.live_asker p k, f.new_asks p, f.not_asked p k, f.first_ask p)
  keep_live_asker (End u r) h a f p k l = grind (arith, same_tests, f.live_asker p k, is_pending p k h)
  keep_live_asker _ h a f p k l = f.live_asker p k l

  keep_place : (e : Event) (h : List Event) → Allowed cluster e h → AskFacts h → (p : TaskId) (k : ℕ) → requests p k (e ∷ h) + live_child p k (e ∷ h) + answers p k (e ∷ h) ≡ cond (is_unanswered p k (e ∷ h)) 1 0
  keep_place (Root c u) h a f p k = grind (arith, same_tests, f.place p k, f.child_born p k u)
  keep_place (Ask q j n w) h a f p k = grind (arith, same_tests, f.place p k, f.not_asked p k)
  keep_place (Put u q j) h a f p k = grind (arith, same_tests, f.place p k, f.child_born p k u, requests_in_flight p k h)
  keep_place (Reject n q j) h a f p k = grind (arith, same_tests, f.place p k, requests_in_flight p k h)
  keep_place (Refuse u c) h a f p k = grind (arith, same_tests, f.place p k, f.child_knows p k u, f.ask_knows p k u)
  keep_place (End u r) h a f p k = grind (arith, same_tests, f.place p k, f.child_knows p k u, f.ask_knows p k u)
  keep_place (Answered q j) h a f p k = grind (arith, same_tests, f.place p k, answers_in_flight p k h)
  keep_place _ h a f p k = f.place p k

  keep_asks : (e : Event) (h : List Event) → Allowed cluster e h → AskFacts h → AskFacts (e ∷ h)
  keep_asks e h a f = record {
    born = keep_born e h a f;
    unborn_ended = keep_unborn_ended e h a f;
    live_or_ended = keep_live_or_ended e h a f;
    put_lives = keep_put_lives e h a f;
    child_is_born = keep_child_is_born e h a f;
    parent_born = keep_parent_born e h a f;
    unborn_asks = keep_unborn_asks e h a f;
    new_asks = keep_new_asks e h a f;
    not_asked = keep_not_asked e h a f;
    first_ask = keep_first_ask e h a f;
    live_asker = keep_live_asker e h a f;
    no_child = keep_no_child e h a f;
    child_born = keep_child_born e h a f;
    child_put = keep_child_put e h a f;
    child_knows = keep_child_knows e h a f;
    ask_knows = keep_ask_knows e h a f;
    place = keep_place e h a f;
  }

  pub ask_facts : (h : List Event) → Lawful cluster h → AskFacts h
  ask_facts [] l = record {
    born = λ t e. cc;
    unborn_ended = λ t e. refl;
    live_or_ended = λ t e. refl;
    put_lives = λ t p e l. cc;
    child_is_born = λ t p e. absurd (cc);
    parent_born = λ t p e. cc;
    unborn_asks = λ t e. refl;
    new_asks = λ t e. refl;
    not_asked = λ p k e. refl;
    first_ask = λ p. refl;
    live_asker = λ p k e. cc;
    no_child = λ p k e. refl;
    child_born = λ p k u e. cc;
    child_put = λ p k u e. refl;
    child_knows = λ p k u e. cc;
    ask_knows = λ p k u e. cc;
    place = λ p k. refl;
  }
  ask_facts (e ∷ h) l = keep_asks e h l.0 (ask_facts h l.1)
