-- What the past says of the cancels that named a task.
use Rattle.std.proofs.Common.{◌≡◌, ◌++◌, ◌==◌, ◌&&◌, ℕ, Bool, true, false, cond, List, [], ◌∷◌, filter, Some, refl, sym, ap, subst, ◌∙◌, arith}
use Rattle.std.specs.Prelude.{⊤}
use Rattle.std.specs.List.{list_any}
use Rattle.std.proofs.lemmas.Bool.Decides.{nat_tests}
use Rattle.std.proofs.lemmas.List.Folds.{list_any-append}
use Rattle.std.proofs.lemmas.Map.Views.{any-filter_same}
use Rattle.task_ids.specs.declared.task_id.TaskId.{TaskId}
use Rattle.task_ids.specs.declared.cluster.Cluster.{Cluster}
use Rattle.task_events.specs.declared.event.Event.{Event}
use Rattle.task_events.specs.declared.event.Event.TheVariants.{Root, RootRejected, Cancel, NotFound, AnswerPlaced, AnswerDone}
use Rattle.task_events.specs.Same.{same_task}
use Rattle.task_events.specs.Cancels.{is_named, waits, found_none, has_acted}
use Rattle.task_events.specs.Lawful.{Lawful}
use Rattle.task_laws.proofs.Commands.{beginning_first}
use Rattle.task_laws.proofs.Same.{same_tests}
use Rattle.world_moves.specs.Cancels.{named_by, waits_for_end}

-- the number is in the list
abbrev pub is_in : ℕ → List ℕ → Bool
is_in c cs = list_any (λ d. c == d) cs

-- no number is in the list twice
abbrev pub AllDiffer : List ℕ → Type 0
AllDiffer [] = ⊤
AllDiffer (c ∷ cs) = (is_in c cs ≡ false) × AllDiffer cs

-- the cancels that named a task are those of which the past says so
pub named_in : (c : ℕ) (t : TaskId) (h : List Event) → is_in c (named_by t h) ≡ is_named c t h
named_in c t [] = refl
named_in c t (Cancel d u w ∷ h) = grind (arith, same_tests, named_in c t h, list_any-append (λ e. c == e) (named_by t h) (d ∷ []))
named_in c t (_ ∷ h) = named_in c t h

-- of a cancel that named a task it is known whether it waits
pub named_waits : (c : ℕ) (t : TaskId) (h : List Event) → is_named c t h ≡ true → waits c h ≡ Some (waits_for_end c h)
named_waits c t [] n = absurd (cc)
named_waits c t (Cancel d u w ∷ h) n = grind (arith, same_tests, named_waits c t h)
named_waits c t (_ ∷ h) n = named_waits c t h n

-- it has acted
pub named_acted : (c : ℕ) (t : TaskId) (h : List Event) → is_named c t h ≡ true → has_acted c h ≡ true
named_acted c t [] n = absurd (cc)
named_acted c t (Root d u ∷ h) n = grind (arith, same_tests, named_acted c t h)
named_acted c t (RootRejected d m ∷ h) n = grind (arith, same_tests, named_acted c t h)
named_acted c t (NotFound d ∷ h) n = grind (arith, same_tests, named_acted c t h)
named_acted c t (Cancel d u w ∷ h) n = grind (arith, same_tests, named_acted c t h)
named_acted c t (AnswerPlaced d ∷ h) n = grind (arith, same_tests, named_acted c t h)
named_acted c t (AnswerDone d ∷ h) n = grind (arith, same_tests, named_acted c t h)
named_acted c t (_ ∷ h) n = named_acted c t h n

module _ (cluster : Cluster) where
  -- it has found a task
  pub named_found : (c : ℕ) (t : TaskId) (h : List Event) → Lawful cluster h → is_named c t h ≡ true → found_none c h ≡ false
  named_found c t [] l n = absurd (cc)
  named_found c t (NotFound d ∷ h) l n =
      let acted = named_acted c t h n in
      let first = beginning_first cluster h l.1 d l.0 in
      grind (arith, same_tests, named_found c t h l.1)
  named_found c t (Cancel d u w ∷ h) l n = let none = l.0.not_missing in grind (arith, same_tests, named_found c t h l.1)
  named_found c t (_ ∷ h) l n = named_found c t h l.1 n

-- one more number, which is not in the list yet
differ_more : (c : ℕ) (cs : List ℕ) → AllDiffer cs → is_in c cs ≡ false → AllDiffer (cs ++ c ∷ [])
differ_more c [] a i = (refl, a)
differ_more c (d ∷ cs) a i =
    (grind (arith, same_tests, a.0, list_any-append (λ e. d == e) cs (c ∷ [])), differ_more c cs a.1 (grind (arith, same_tests)))

-- a cancel names a task once
pub named_differ : (cluster : Cluster) (t : TaskId) (h : List Event) → Lawful cluster h → AllDiffer (named_by t h)
named_differ cluster t [] l = l
named_differ cluster t (Cancel d u w ∷ h) l = by_task (same_task t u) refl (named_differ cluster t h l.1)
  where
    by_task : (b : Bool) → same_task t u ≡ b → AllDiffer (named_by t h) → AllDiffer (cond b (named_by t h ++ d ∷ []) (named_by t h))
    by_task true e a =
        let same : t ≡ u = grind (arith, same_tests) in
        differ_more d (named_by t h) a (named_in d t h ∙ subst (λ x. is_named d x h ≡ false) (sym same) l.0.once)
    by_task false e a = a
named_differ cluster t (_ ∷ h) l = named_differ cluster t h l.1

-- a filter keeps of a list what passes
pub in_filter : (p : ℕ → Bool) (c : ℕ) (cs : List ℕ) → is_in c (filter p cs) ≡ (p c && is_in c cs)
in_filter p c cs = any-filter_same (λ d. c == d) p (p c) (λ d e. let same : c ≡ d = grind (arith, nat_tests) in ap p (sym same)) cs

pub filter_differ : (p : ℕ → Bool) (cs : List ℕ) → AllDiffer cs → AllDiffer (filter p cs)
filter_differ p [] a = a
filter_differ p (c ∷ cs) a = by_test (p c) (filter_differ p cs a.1) (in_filter p c cs ∙ none (p c) (is_in c cs) a.0)
  where
    by_test : (b : Bool) → AllDiffer (filter p cs) → is_in c (filter p cs) ≡ false → AllDiffer (cond b (c ∷ filter p cs) (filter p cs))
    by_test true rest apart = (apart, rest)
    by_test false rest apart = rest

    none : (b i : Bool) → i ≡ false → (b && i) ≡ false
    none b i e = grind arith

-- filters that agree on a list
pub filter_same : (p q : ℕ → Bool) (cs : List ℕ) → ((c : ℕ) → is_in c cs ≡ true → p c ≡ q c) → filter p cs ≡ filter q cs
filter_same p q [] agree = refl
filter_same p q (c ∷ cs) agree =
    let first : p c ≡ q c = agree c (grind (arith, nat_tests)) in
    let rest = filter_same p q cs (λ d i. agree d (grind (arith, nat_tests, i))) in
    rw (first, rest) refl

-- one filter after another
pub filter_twice : (p q : ℕ → Bool) (cs : List ℕ) → filter p (filter q cs) ≡ filter (λ c. q c && p c) cs
filter_twice p q [] = refl
filter_twice p q (c ∷ cs) = by_test (q c) (filter_twice p q cs)
  where
    by_test : (b : Bool) → filter p (filter q cs) ≡ filter (λ d. q d && p d) cs
        → filter p (cond b (c ∷ filter q cs) (filter q cs)) ≡ cond (b && p c) (c ∷ filter (λ d. q d && p d) cs) (filter (λ d. q d && p d) cs)
    by_test true rest = ap (λ ds. cond (p c) (c ∷ ds) ds) rest
    by_test false rest = rest
