-- The task of a command is a root: it has no parent, so it is never refused.
use Rattle.std.proofs.Common.{◌≡◌, ◌≤◌, ◌⊎◌, ⊎_elim, inl, inr, ℕ, Bool, true, false, not, ◌&&◌, cond, List, [], ◌∷◌, ◌++◌, Option, Some, None, ◌==◌, ◌+◌, if◌then◌else◌, refl, ap, ◌∙◌, arith}
use Rattle.task_ids.specs.declared.task_id.TaskId.{TaskId}
use Rattle.task_ids.specs.declared.cluster.Cluster.{Cluster}
use Rattle.task_events.specs.declared.event.Event.{Event}
use Rattle.task_events.specs.declared.event.Event.TheVariants.{Root, Put}
use Rattle.task_events.specs.Allowed.{Allowed}
use Rattle.task_events.specs.Cancels.{names_one_of}
use Rattle.task_events.specs.Lawful.{Lawful}
use Rattle.task_events.specs.Laws.{CancelsWithCause}
use Rattle.task_events.specs.Same.{same_task}
use Rattle.task_events.specs.Tasks.{ancestors, last_number, parent_of, refusal_of}
use Rattle.task_events.specs.Turns.{is_begin, begun, events_while}
use Rattle.task_laws.proofs.Asks.{AskFacts, ask_facts}
use Rattle.task_laws.proofs.Same.{same_tests}
use Rattle.task_laws.proofs.Tree.{from_parent, tree_facts}
use Rattle.line_print.specs.Lines.{first_in, root_in}
use Rattle.task_top.specs.Promises.{CancelsExactly}

-- ---- the task of a command

-- some command started the task
abbrev pub is_root : TaskId → List Event → Bool
is_root t [] = false
is_root t (Root k u ∷ h) = if same_task t u then true else is_root t h
is_root t (_ ∷ h) = is_root t h

-- a root stays one
still_root : (e : Event) (t : TaskId) (h : List Event) → is_root t h ≡ true → is_root t (e ∷ h) ≡ true
still_root (Root k u) t h i = grind (arith, same_tests)
still_root _ t h i = i

now_root : (e : Event) (t : TaskId) (h : List Event) → root_in e ≡ Some t → is_root t (e ∷ h) ≡ true
now_root (Root k u) t h i = grind (arith, same_tests)
now_root _ t h i = cc

-- what is found first where one more event came is found in the events before it, or in it
first_more : (xs : List Event) (e : Event) (t : TaskId) → first_in root_in (xs ++ e ∷ []) ≡ Some t → (first_in root_in xs ≡ Some t) ⊎ (root_in e ≡ Some t)
first_more [] (Root k u) t f = inr f
first_more [] _ t f = cc
first_more (Root k u ∷ xs) e t f = inl f
first_more (_ ∷ xs) e t f = first_more xs e t f

more_events : (b : Bool) (e : Event) (xs : List Event) (t : TaskId) → first_in root_in (cond b (xs ++ e ∷ []) xs) ≡ Some t → (first_in root_in xs ≡ Some t) ⊎ (root_in e ≡ Some t)
more_events true e xs t f = first_more xs e t f
more_events false e xs t f = inl f

-- the task that is found first among some events is a root
found_root : (test : ℕ → Bool) (h : List Event) (t : TaskId) → first_in root_in (events_while test h) ≡ Some t → is_root t h ≡ true
found_root test [] t f = cc
found_root test (e ∷ h) t f =
    ⊎_elim (λ old. still_root e t h (found_root test h t old)) (λ new. now_root e t h new)
    (more_events (not (is_begin e) && test (begun h)) e (events_while test h) t f)

-- ---- a root has no parent

record RootFacts (h : List Event) : Type 0 where
  root_born : (t : TaskId) → is_root t h ≡ true → t.number ≤ last_number t.node h
  no_parent : (t : TaskId) → is_root t h ≡ true → parent_of t h ≡ None

unborn_parent : (t : TaskId) (h : List Event) → AskFacts h → (o : Option TaskId) → parent_of t h ≡ o → t.number ≡ last_number t.node h + 1 → parent_of t h ≡ None
unborn_parent t h f None o n = o
unborn_parent t h f (Some p) o n = absurd (omega (arith, f.child_is_born t p o, n))

module _ (cluster : Cluster) where
  keep_born : (e : Event) (h : List Event) → Allowed cluster e h → RootFacts h → (t : TaskId) → is_root t (e ∷ h) ≡ true → t.number ≤ last_number t.node (e ∷ h)
  keep_born (Root k u) h a g t i = grind (arith, same_tests, g.root_born t)
  keep_born (Put u p k) h a g t i = grind (arith, same_tests, g.root_born t)
  keep_born _ h a g t i = g.root_born t i

  keep_parent : (e : Event) (h : List Event) → Allowed cluster e h → AskFacts h → RootFacts h → (t : TaskId) → is_root t (e ∷ h) ≡ true → parent_of t (e ∷ h) ≡ None
  keep_parent (Root k u) h a f g t i = grind (arith, same_tests, g.no_parent t, unborn_parent u h f (parent_of u h) refl a.takes.next)
  keep_parent (Put u p k) h a f g t i = grind (arith, same_tests, g.no_parent t, g.root_born t)
  keep_parent _ h a f g t i = g.no_parent t i

  root_facts : (h : List Event) → Lawful cluster h → RootFacts h
  root_facts [] l = record { root_born = λ t i. cc; no_parent = λ t i. refl }
  root_facts (e ∷ h) l = record {
    root_born = keep_born e h l.0 (root_facts h l.1);
    no_parent = keep_parent e h l.0 (ask_facts cluster h l.1) (root_facts h l.1);
  }

-- ---- so its reply is cancelled exactly where it was marked

no_ancestor : (c : ℕ) (h : List Event) (ts : List TaskId) → ts ≡ [] → names_one_of c ts h ≡ false
no_ancestor c h [] e = refl
no_ancestor c h (t ∷ ts) e = cc

not_refused : (t : TaskId) (h : List Event) → CancelsWithCause h → ancestors t h ≡ [] → (o : Option ℕ) → refusal_of t h ≡ o → refusal_of t h ≡ None
not_refused t h cause none None o = o
not_refused t h cause none (Some c) o = absurd (let named = cause.refusal t c o in let not_named = no_ancestor c h (ancestors t h) none in cc)

pub cancels_exactly : (cluster : Cluster) (h : List Event) → Lawful cluster h → CancelsWithCause h → CancelsExactly h
cancels_exactly cluster h lawful cause k t reply is_started replied =
    let orphan = (root_facts cluster h lawful).no_parent t (found_root (λ n. n == k) h t is_started) in
    let none : ancestors t h ≡ [] = (tree_facts cluster h lawful).above t ∙ ap (from_parent (λ p. ancestors p h)) orphan in
    cause.ended_reply t reply replied (not_refused t h cause none (refusal_of t h) refl)
