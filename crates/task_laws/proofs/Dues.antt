-- When an acknowledgement falls due: how many listed children are not stopped, event by event.
use Rattle.std.proofs.Common.{◌≡◌, ◌≢◌, ◌+◌, ◌<◌, ℕ, Bool, true, false, cond, not, ◌&&◌, List, [], ◌∷◌, Option, Some, None, refl, sym, ap, ◌∙◌, arith}
use Rattle.std.specs.Prelude.{count_by, ◌==◌}
use Rattle.std.specs.List.{list_all}
use Rattle.task_ids.specs.declared.task_id.TaskId.{TaskId}
use Rattle.task_ids.specs.declared.cluster.Cluster.{Cluster}
use Rattle.task_events.specs.declared.reply.Reply.{Reply}
use Rattle.task_events.specs.declared.event.Event.{Event}
use Rattle.task_events.specs.declared.event.Event.TheVariants.{Refuse, Mark, Listed, Acked, End}
use Rattle.task_events.specs.Same.{same_task, same_pair}
use Rattle.task_events.specs.Tasks.{is_live, parent_of}
use Rattle.task_events.specs.Bans.{mark_of, banned_nodes, is_listed, is_acked, put_for, listed_children, is_stopped, ack_is_due}
use Rattle.task_events.specs.Messages.{ack_over}
use Rattle.task_events.specs.Messages.Message.{Ack}
use Rattle.task_events.specs.Allowed.{Allowed}
use Rattle.task_events.specs.Lawful.{Lawful}
use Rattle.task_laws.proofs.Same.{same_tests, same_task_is, same_task_refl}
use Rattle.task_laws.proofs.Numbers.{number, number_is, all_as_number, passes_of_all, all_pass, both}
use Rattle.task_laws.proofs.Counts.{is_for, falls_due, due_over}
use Rattle.task_laws.proofs.Still.{still_stopped}
use Rattle.task_laws.proofs.Stops.{StopFacts, is_put_for, times_listed, unstopped, stop_facts}

-- the acknowledgement is due once the listing has ended and no listed child is unstopped
pub due_is : (n : ℕ) (p : TaskId) (h : List Event) → ack_is_due n p h ≡ (is_listed n p h && (unstopped n p h == 0))
due_is n p h = rw (all_as_number (λ t. is_stopped t h) (listed_children n p h))

pub unstopped_is : (n : ℕ) (p : TaskId) (h : List Event) → count_by (λ t. not (is_stopped t h)) (listed_children n p h) ≡ unstopped n p h
unstopped_is n p h = number_is (λ t. not (is_stopped t h)) (listed_children n p h)

-- one task more, which is t or passes as before
one_more : (before after here there same : Bool) (m n k : ℕ) → n + cond (before && not after) k 0 ≡ m → (after ≡ true → before ≡ true) → (same ≡ true → here ≡ before) → (same ≡ true → there ≡ after) → (same ≡ false → there ≡ here) →
    (cond there 1 0 + n) + cond (before && not after) (cond same 1 0 + k) 0 ≡ cond here 1 0 + m
one_more before after here there true m n k e less f g d = rw (f refl, g refl) (this before after less e)
  where
    this : (b a : Bool) → (a ≡ true → b ≡ true) → n + cond (b && not a) k 0 ≡ m → (cond a 1 0 + n) + cond (b && not a) (1 + k) 0 ≡ cond b 1 0 + m
    this true true l e = omega arith
    this true false l e = omega arith
    this false true l e = absurd (let no = l refl in cc)
    this false false l e = omega arith
one_more before after here there false m n k e less f g d = rw (d refl) (other (before && not after) e)
  where
    other : (b : Bool) → n + cond b k 0 ≡ m → (cond here 1 0 + n) + cond b (0 + k) 0 ≡ cond here 1 0 + m
    other true e = omega arith
    other false e = omega arith

-- where only t no longer passes a list has as many fewer that pass as it has t
fewer : (f g : TaskId → Bool) (t : TaskId) → ((u : TaskId) → u ≢ t → g u ≡ f u) → (g t ≡ true → f t ≡ true) → (xs : List TaskId) → number g xs + cond (f t && not (g t)) (number (same_task t) xs) 0 ≡ number f xs
fewer f g t other less [] = none (f t && not (g t))
  where
    none : (b : Bool) → 0 + cond {A = ℕ} b 0 0 ≡ 0
    none true = refl
    none false = refl
fewer f g t other less (x ∷ xs) =
    one_more (f t) (g t) (f x) (g x) (same_task t x) (number f xs) (number g xs) (number (same_task t) xs) (fewer f g t other less xs) less
    (λ s. let is : x ≡ t = grind (arith, same_tests) in ap f is) (λ s. let is : x ≡ t = grind (arith, same_tests) in ap g is) (λ s. other x (grind (arith, same_tests)))

-- where those of a list pass as before, as many pass
pub as_many : (f g : TaskId → Bool) (xs : List TaskId) → ((u : TaskId) → 0 < number (same_task u) xs → g u ≡ f u) → number g xs ≡ number f xs
as_many f g [] same = refl
as_many f g (x ∷ xs) same =
    let rest = as_many f g xs (λ u i. same u (omega arith)) in
    let here = same x (grind (arith, same_tests)) in
    grind arith

-- the task is stopped by what comes between an earlier moment and a later one
abbrev pub stops_now : TaskId → List Event → List Event → Bool
stops_now t earlier later = is_stopped t later && not (is_stopped t earlier)

-- an acknowledgement of another task's ban changes nothing
pub acked_other : (p q : TaskId) (m : ℕ) (h : List Event) → p ≢ q → (ns : List ℕ) → list_all (λ n. is_acked n p (Acked q m ∷ h)) ns ≡ list_all (λ n. is_acked n p h) ns
acked_other p q m h d [] = refl
acked_other p q m h d (n ∷ ns) = grind (arith, same_tests, acked_other p q m h d ns)

-- each of the three events that stop a task changes nothing of the others
pub end_other : (t : TaskId) (r : Reply) (h : List Event) (u : TaskId) → u ≢ t → not (is_stopped u (End t r ∷ h)) ≡ not (is_stopped u h)
end_other t r h u d = grind (arith, same_tests)

pub refuse_other : (t : TaskId) (c : ℕ) (h : List Event) (u : TaskId) → u ≢ t → not (is_stopped u (Refuse t c ∷ h)) ≡ not (is_stopped u h)
refuse_other t c h u d = grind (arith, same_tests)

pub acked_same : (t : TaskId) (m : ℕ) (h : List Event) (u : TaskId) → u ≢ t → not (is_stopped u (Acked t m ∷ h)) ≡ not (is_stopped u h)
acked_same t m h u d = rw (acked_other u t m h d (banned_nodes u h))

pub mark_other : (t : TaskId) (c : ℕ) (h : List Event) (u : TaskId) → u ≢ t → not (is_stopped u (Mark t c ∷ h)) ≡ not (is_stopped u h)
mark_other t c h u d = grind (arith, same_tests)

less : (a b : Bool) → (a ≡ true → b ≡ true) → not b ≡ true → not a ≡ true
less a b f e = grind (arith, f)

module _ (cluster : Cluster) where
  -- how many are unstopped after each event that may change it
  pub after_end : (n : ℕ) (p t : TaskId) (r : Reply) (h : List Event) → Allowed cluster (End t r) h → unstopped n p (End t r ∷ h) + cond (stops_now t h (End t r ∷ h)) (times_listed n p t h) 0 ≡ unstopped n p h
  after_end n p t r h a =
      let f = fewer (λ u. not (is_stopped u h)) (λ u. not (is_stopped u (End t r ∷ h))) t (end_other t r h) (less _ _ (still_stopped cluster (End t r) h a t)) (listed_children n p h) in
      grind arith

  pub after_refuse : (n : ℕ) (p t : TaskId) (c : ℕ) (h : List Event) → Allowed cluster (Refuse t c) h → unstopped n p (Refuse t c ∷ h) + cond (stops_now t h (Refuse t c ∷ h)) (times_listed n p t h) 0 ≡ unstopped n p h
  after_refuse n p t c h a =
      let f = fewer (λ u. not (is_stopped u h)) (λ u. not (is_stopped u (Refuse t c ∷ h))) t (refuse_other t c h) (less _ _ (still_stopped cluster (Refuse t c) h a t)) (listed_children n p h) in
      grind arith

  pub after_acked : (n : ℕ) (p t : TaskId) (m : ℕ) (h : List Event) → Allowed cluster (Acked t m) h → unstopped n p (Acked t m ∷ h) + cond (stops_now t h (Acked t m ∷ h)) (times_listed n p t h) 0 ≡ unstopped n p h
  after_acked n p t m h a =
      let f = fewer (λ u. not (is_stopped u h)) (λ u. not (is_stopped u (Acked t m ∷ h))) t (acked_same t m h) (less _ _ (still_stopped cluster (Acked t m) h a t)) (listed_children n p h) in
      grind arith

  -- a task that is marked now is no listed child
  pub after_mark : (n : ℕ) (p t : TaskId) (c : ℕ) (h : List Event) → Allowed cluster (Mark t c) h → StopFacts h → unstopped n p (Mark t c ∷ h) ≡ unstopped n p h
  after_mark n p t c h a s =
      as_many (λ u. not (is_stopped u h)) (λ u. not (is_stopped u (Mark t c ∷ h))) (listed_children n p h)
      (λ u i. mark_other t c h u (λ same. s.listed_marked n p t (rw (sym same) i) a.live a.unmarked))

-- a listing that ends awaits those children that were put and are not stopped
pub after_listed : (n : ℕ) (p : TaskId) (m : ℕ) (q : TaskId) (h : List Event) → unstopped n p (Listed m q ∷ h) ≡ cond (same_pair p n q m) (number (λ t. not (is_stopped t h)) (put_for n p h)) (unstopped n p h)
after_listed n p m q h = of_one (same_pair p n q m)
  where
    of_one : (b : Bool) → number (λ t. not (is_stopped t h)) (cond b (put_for n p h) (listed_children n p h)) ≡ cond b (number (λ t. not (is_stopped t h)) (put_for n p h)) (unstopped n p h)
    of_one true = refl
    of_one false = refl

-- a task that was not put on n for p is not listed there
pub not_listed : (n : ℕ) (p t : TaskId) (h : List Event) → StopFacts h → is_put_for n p t h ≡ false → times_listed n p t h ≡ 0
not_listed n p t h s e = grind (arith, s.listed_put n p t)

-- nor is a live task that has no mark
pub unmarked_not_listed : (n : ℕ) (p t : TaskId) (h : List Event) → StopFacts h → is_live t h ≡ true → mark_of t h ≡ None → times_listed n p t h ≡ 0
unmarked_not_listed n p t h s l m = grind (arith, s.listed_marked n p t)

-- What was due stays due where the listing stays ended and no more are unstopped; and where as many are, nothing falls due.
due_stays : (n : ℕ) (p : TaskId) (h g : List Event) (k : ℕ) → is_listed n p g ≡ is_listed n p h → unstopped n p g + k ≡ unstopped n p h → ack_is_due n p h ≡ true → ack_is_due n p g ≡ true
due_stays n p h g k l e = rw (due_is n p h, due_is n p g, l) (of_numbers (is_listed n p h) (unstopped n p h) (unstopped n p g) e)
  where
    of_numbers : (b : Bool) (x y : ℕ) → y + k ≡ x → (b && (x == 0)) ≡ true → (b && (y == 0)) ≡ true
    of_numbers b x y e d = grind (arith, same_tests)

due_same : (n : ℕ) (p : TaskId) (h g : List Event) → is_listed n p g ≡ is_listed n p h → unstopped n p g ≡ unstopped n p h → ack_is_due n p g ≡ ack_is_due n p h
due_same n p h g l e = rw (due_is n p h, due_is n p g, l, e)

-- without a task that was not listed, as many are unstopped
none_fewer : (n : ℕ) (p t : TaskId) (h g : List Event) → times_listed n p t h ≡ 0 → unstopped n p g + cond (stops_now t h g) (times_listed n p t h) 0 ≡ unstopped n p h → unstopped n p g ≡ unstopped n p h
none_fewer n p t h g z e = by (stops_now t h g) (rw z at e)
  where
    by : (b : Bool) → unstopped n p g + cond b 0 0 ≡ unstopped n p h → unstopped n p g ≡ unstopped n p h
    by true e = omega arith
    by false e = omega arith

grows : (a b : Bool) → (a ≡ true → b ≡ true) → cond a 1 0 + cond (b && not a) 1 0 ≡ cond b 1 0
grows a b f = grind (arith, f)

-- only the acknowledgement of the ban over the task falls due
adds : (n : ℕ) (p : TaskId) (o : Option TaskId) (m : ℕ) (h g : List Event) → (ack_is_due n p h ≡ true → ack_is_due n p g ≡ true) → (is_for p n o m ≡ false → ack_is_due n p g ≡ ack_is_due n p h) →
    cond (ack_is_due n p h) 1 0 + due_over n p o m h g ≡ cond (ack_is_due n p g) 1 0
adds n p None m h g stays same = rw (same refl) (omega arith)
adds n p (Some q) m h g stays same = of_pair (same_pair p n q m) refl
  where
    of_pair : (b : Bool) → same_pair p n q m ≡ b → cond (ack_is_due n p h) 1 0 + cond b (falls_due m q h g) 0 ≡ cond (ack_is_due n p g) 1 0
    of_pair true e =
        let task : q ≡ p = grind (arith, same_tests) in
        let node : m ≡ n = grind (arith, same_tests) in
        rw (task, node) (grows (ack_is_due n p h) (ack_is_due n p g) stays)
    of_pair false e = rw (same e) (omega arith)

-- where a task stops, or may have
stop_adds : (n : ℕ) (p t : TaskId) (h g : List Event) → StopFacts h → is_listed n p g ≡ is_listed n p h → unstopped n p g + cond (stops_now t h g) (times_listed n p t h) 0 ≡ unstopped n p h →
    cond (ack_is_due n p h) 1 0 + due_over n p (parent_of t h) t.node h g ≡ cond (ack_is_due n p g) 1 0
stop_adds n p t h g s l e =
    adds n p (parent_of t h) t.node h g (due_stays n p h g (cond (stops_now t h g) (times_listed n p t h) 0) l e)
    (λ no. due_same n p h g l (none_fewer n p t h g (not_listed n p t h s no) e))

none_due : (o : Option TaskId) (m : ℕ) (h g : List Event) → ((p : TaskId) → ack_is_due m p g ≡ ack_is_due m p h) → ack_over o m h g ≡ []
none_due None m h g same = refl
none_due (Some p) m h g same = rw (same p) (of_one (ack_is_due m p h))
  where
    of_one : (b : Bool) → cond (b && not b) (Ack p m ∷ []) [] ≡ []
    of_one true = refl
    of_one false = refl

module _ (cluster : Cluster) where
  -- what falls due at each event that may stop a task
  pub end_adds : (n : ℕ) (p t : TaskId) (r : Reply) (h : List Event) → Allowed cluster (End t r) h → StopFacts h → cond (ack_is_due n p h) 1 0 + due_over n p (parent_of t h) t.node h (End t r ∷ h) ≡ cond (ack_is_due n p (End t r ∷ h)) 1 0
  end_adds n p t r h a s = stop_adds n p t h (End t r ∷ h) s refl (after_end cluster n p t r h a)

  pub refuse_adds : (n : ℕ) (p t : TaskId) (c : ℕ) (h : List Event) → Allowed cluster (Refuse t c) h → StopFacts h → cond (ack_is_due n p h) 1 0 + due_over n p (parent_of t h) t.node h (Refuse t c ∷ h) ≡ cond (ack_is_due n p (Refuse t c ∷ h)) 1 0
  refuse_adds n p t c h a s = stop_adds n p t h (Refuse t c ∷ h) s refl (after_refuse cluster n p t c h a)

  pub acked_adds : (n : ℕ) (p t : TaskId) (m : ℕ) (h : List Event) → Allowed cluster (Acked t m) h → StopFacts h → cond (ack_is_due n p h) 1 0 + due_over n p (parent_of t h) t.node h (Acked t m ∷ h) ≡ cond (ack_is_due n p (Acked t m ∷ h)) 1 0
  acked_adds n p t m h a s = stop_adds n p t h (Acked t m ∷ h) s refl (after_acked cluster n p t m h a)

  -- at a mark nothing falls due
  pub due_at_mark : (n : ℕ) (p t : TaskId) (c : ℕ) (h : List Event) → Allowed cluster (Mark t c) h → StopFacts h → ack_is_due n p (Mark t c ∷ h) ≡ ack_is_due n p h
  due_at_mark n p t c h a s = due_same n p h (Mark t c ∷ h) refl (after_mark cluster n p t c h a s)

  -- an unmarked live task is no listed child, so that nothing falls due where it ends
  pub unmarked_end : (t : TaskId) (r : Reply) (h : List Event) → Lawful cluster (End t r ∷ h) → mark_of t h ≡ None → ack_over (parent_of t h) t.node h (End t r ∷ h) ≡ []
  unmarked_end t r h l m =
      let s = stop_facts cluster h l.1 in
      none_due (parent_of t h) t.node h (End t r ∷ h)
      (λ p. due_same t.node p h (End t r ∷ h) refl (none_fewer t.node p t h (End t r ∷ h) (unmarked_not_listed t.node p t h s l.0.goes_on.live m) (after_end cluster t.node p t r h l.0)))

  pub unmarked_refuse : (t : TaskId) (c : ℕ) (h : List Event) → Lawful cluster (Refuse t c ∷ h) → mark_of t h ≡ None → ack_over (parent_of t h) t.node h (Refuse t c ∷ h) ≡ []
  unmarked_refuse t c h l m =
      let s = stop_facts cluster h l.1 in
      none_due (parent_of t h) t.node h (Refuse t c ∷ h)
      (λ p. due_same t.node p h (Refuse t c ∷ h) refl (none_fewer t.node p t h (Refuse t c ∷ h) (unmarked_not_listed t.node p t h s l.0.live m) (after_refuse cluster t.node p t c h l.0)))

-- the listing of one ban changes nothing of another
pub due_at_other : (n : ℕ) (p : TaskId) (m : ℕ) (q : TaskId) (h : List Event) → same_pair p n q m ≡ false → ack_is_due n p (Listed m q ∷ h) ≡ ack_is_due n p h
due_at_other n p m q h e = rw e

-- what falls due where a listing ends
pub listed_adds : (n : ℕ) (p : TaskId) (m : ℕ) (q : TaskId) (h : List Event) → is_listed m q h ≡ false → cond (ack_is_due n p h) 1 0 + due_over n p (Some q) m h (Listed m q ∷ h) ≡ cond (ack_is_due n p (Listed m q ∷ h)) 1 0
listed_adds n p m q h fresh =
    adds n p (Some q) m h (Listed m q ∷ h) (λ d. of_pair d (same_pair p n q m) refl) (due_at_other n p m q h)
  where
    of_pair : ack_is_due n p h ≡ true → (b : Bool) → same_pair p n q m ≡ b → ack_is_due n p (Listed m q ∷ h) ≡ true
    of_pair d true e =
        let task : q ≡ p = grind (arith, same_tests) in
        let node : m ≡ n = grind (arith, same_tests) in
        let never : is_listed n p h ≡ false = rw (task, node) at fresh in
        absurd (let yes = both (is_listed n p h) _ d in cc)
    of_pair d false e = due_at_other n p m q h e ∙ d

-- each listed child is stopped where the acknowledgement is due
pub due_stopped : (n : ℕ) (p t : TaskId) (h : List Event) → ack_is_due n p h ≡ true → 0 < times_listed n p t h → is_stopped t h ≡ true
due_stopped n p t h d i = passes_of_all same_task same_task_is (λ u. is_stopped u h) t (listed_children n p h) (both (is_listed n p h) _ d).1 i

-- and it is due where each is
pub due_where : (n : ℕ) (p : TaskId) (h : List Event) → is_listed n p h ≡ true → ((t : TaskId) → 0 < times_listed n p t h → is_stopped t h ≡ true) → ack_is_due n p h ≡ true
due_where n p h l each = rw (l, all_pass same_task same_task_refl (λ u. is_stopped u h) (listed_children n p h) each)
