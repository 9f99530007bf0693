-- Which children a listing notes, and how many.
use Rattle.std.proofs.Common.{◌≡◌, ◌≢◌, ◌⊎◌, ◌+◌, ◌≤◌, ◌<◌, ℕ, suc, Bool, true, false, cond, not, List, [], ◌∷◌, filter, Option, Some, None, refl, sym, ap, ◌∙◌, inl, inr, arith}
use Rattle.std.specs.Prelude.{◌&&◌, is_some}
use Rattle.std.specs.List.{list_any}
use Rattle.std.specs.FinMap.{FinMap, get, insert, get-insert}
use Rattle.task_ids.specs.declared.task_id.TaskId.{TaskId}
use Rattle.task_ids.specs.TaskIdOrder.{task_id_cmp}
use Rattle.task_ids.proofs.TaskIdKeys.{ids_total}
use Rattle.cancel_core.specs.Cancellation.{Cancellation}
use Rattle.cancel_core.specs.Listings.{is_awaited, is_to_note, noted, number_noted}
use Rattle.task_events.specs.Same.{same_task}
use Rattle.task_laws.proofs.Dues.{as_many}
use Rattle.task_laws.proofs.Numbers.{number}
use Rattle.task_laws.proofs.Same.{same_task_tells, same_tests}
use Rattle.world_moves.proofs.KeptTasks.{is_at_task}

module _ (entries : FinMap task_id_cmp Cancellation) (p : TaskId) where
  -- once one child is noted
  after_one : (waits : FinMap task_id_cmp TaskId) (t u : TaskId) → get (insert waits t p) u ≡ cond (same_task u t) (Some p) (get waits u)
  after_one waits t u = get-insert ids_total waits t p u ∙ ap (λ b. cond b (Some p) (get waits u)) (is_at_task u t)

  -- a child is noted that stands among them and is to be noted
  pub noted_at : (ts : List TaskId) (waits : FinMap task_id_cmp TaskId) (u : TaskId) → get (noted entries p ts waits) u ≡ cond (list_any (same_task u) ts && is_to_note entries waits u) (Some p) (get waits u)
  noted_at [] waits u = refl
  noted_at (t ∷ ts) waits u = by_note (is_to_note entries waits t) refl (λ some. noted_at ts some u)
    where
      by_note : (b : Bool) → is_to_note entries waits t ≡ b → ((some : FinMap task_id_cmp TaskId) → get (noted entries p ts some) u ≡ cond (list_any (same_task u) ts && is_to_note entries some u) (Some p) (get some u)) → get (noted entries p ts (cond b (insert waits t p) waits)) u ≡ cond (list_any (same_task u) (t ∷ ts) && is_to_note entries waits u) (Some p) (get waits u)
      by_note true e rest = rest (insert waits t p) ∙ by_task (same_task_tells u t)
        where
          by_task : ((same_task u t ≡ true) × (u ≡ t)) ⊎ ((same_task u t ≡ false) × (u ≢ t))
              → cond (list_any (same_task u) ts && (is_awaited (get entries u) && not (is_some (get (insert waits t p) u)))) (Some p) (get (insert waits t p) u) ≡ cond (list_any (same_task u) (t ∷ ts) && is_to_note entries waits u) (Some p) (get waits u)
          by_task (inl (is_one, same)) =
              let noted_now : get (insert waits t p) u ≡ Some p = after_one waits t u ∙ ap (λ b. cond b (Some p) (get waits u)) is_one in
              let noting : is_to_note entries waits u ≡ true = ap (is_to_note entries waits) same ∙ e in
              rw (noted_now, is_one, noting) (no_more (list_any (same_task u) ts) (is_awaited (get entries u)))
            where
              no_more : (b c : Bool) → cond (b && (c && false)) (Some p) (Some p) ≡ Some p
              no_more true true = refl
              no_more true false = refl
              no_more false c = refl
          by_task (inr (differs, apart)) =
              let as_before : get (insert waits t p) u ≡ get waits u = after_one waits t u ∙ ap (λ b. cond b (Some p) (get waits u)) differs in
              rw (as_before, differs) refl
      by_note false e rest = rest waits ∙ by_task (same_task_tells u t)
        where
          by_task : ((same_task u t ≡ true) × (u ≡ t)) ⊎ ((same_task u t ≡ false) × (u ≢ t)) → cond (list_any (same_task u) ts && is_to_note entries waits u) (Some p) (get waits u) ≡ cond (list_any (same_task u) (t ∷ ts) && is_to_note entries waits u) (Some p) (get waits u)
          by_task (inl (is_one, same)) =
              let noting : is_to_note entries waits u ≡ false = ap (is_to_note entries waits) same ∙ e in
              rw (is_one, noting) (no_more (list_any (same_task u) ts))
            where
              no_more : (b : Bool) → cond (b && false) (Some p) (get waits u) ≡ get waits u
              no_more true = refl
              no_more false = refl
          by_task (inr (differs, apart)) = rw differs refl

  -- as many are noted as are to be noted, where none stands among them twice
  pub number_noted_is : (ts : List TaskId) (waits : FinMap task_id_cmp TaskId) → ((u : TaskId) → number (same_task u) ts ≤ 1) → number_noted entries p ts waits ≡ number (is_to_note entries waits) ts
  number_noted_is [] waits once = refl
  number_noted_is (t ∷ ts) waits once = by_note (is_to_note entries waits t) (λ some. number_noted_is ts some later)
    where
      later : (u : TaskId) → number (same_task u) ts ≤ 1
      later u = let here = once u in omega (arith, here)

      gone : number (same_task t) ts ≡ 0
      gone = let here = once t in let itself : same_task t t ≡ true = grind (arith, same_tests) in let more = rw itself at here in omega (arith, more)

      as_before : (u : TaskId) → 0 < number (same_task u) ts → is_to_note entries (insert waits t p) u ≡ is_to_note entries waits u
      as_before u stands =
          let differs : same_task u t ≡ false = by_task (same_task_tells u t) in
          ap (λ o. is_awaited (get entries u) && not (is_some o)) (after_one waits t u ∙ ap (λ b. cond b (Some p) (get waits u)) differs)
        where
          by_task : ((same_task u t ≡ true) × (u ≡ t)) ⊎ ((same_task u t ≡ false) × (u ≢ t)) → same_task u t ≡ false
          by_task (inl (is_one, same)) = absurd (let none = ap (λ x. number (same_task x) ts) same ∙ gone in omega (arith, stands, none))
          by_task (inr (differs, apart)) = differs

      by_note : (b : Bool) → ((some : FinMap task_id_cmp TaskId) → number_noted entries p ts some ≡ number (is_to_note entries some) ts) → cond b (suc (number_noted entries p ts (insert waits t p))) (number_noted entries p ts waits) ≡ cond b 1 0 + number (is_to_note entries waits) ts
      by_note true rest =
          let all = rest (insert waits t p) in
          let same = as_many (is_to_note entries waits) (is_to_note entries (insert waits t p)) ts as_before in
          omega (arith, all, same)
      by_note false rest = let all = rest waits in omega (arith, all)

-- ---- the same tasks in two lists

-- a list without a task
without_one : (x u : TaskId) (ts : List TaskId) → number (same_task u) (filter (λ t. not (same_task x t)) ts) ≡ cond (same_task u x) 0 (number (same_task u) ts)
without_one x u [] = by_test (same_task u x)
  where
    by_test : (b : Bool) → 0 ≡ cond {A = ℕ} b 0 0
    by_test true = refl
    by_test false = refl
without_one x u (t ∷ ts) = let rest = without_one x u ts in grind (arith, same_tests, rest)

passing_without : (f : TaskId → Bool) (x : TaskId) (ts : List TaskId) → number f ts ≡ number f (filter (λ t. not (same_task x t)) ts) + cond (f x) (number (same_task x) ts) 0
passing_without f x [] = by_test (f x)
  where
    by_test : (b : Bool) → 0 ≡ 0 + cond {A = ℕ} b 0 0
    by_test true = refl
    by_test false = refl
passing_without f x (t ∷ ts) = by_task (same_task_tells x t) (passing_without f x ts)
  where
    by_task : ((same_task x t ≡ true) × (x ≡ t)) ⊎ ((same_task x t ≡ false) × (x ≢ t)) → number f ts ≡ number f (filter (λ t. not (same_task x t)) ts) + cond (f x) (number (same_task x) ts) 0
        → number f (t ∷ ts) ≡ number f (filter (λ t. not (same_task x t)) (t ∷ ts)) + cond (f x) (number (same_task x) (t ∷ ts)) 0
    by_task (inl (is_one, same)) rest = let alike = ap f same in grind (arith, is_one, alike, rest)
    by_task (inr (differs, apart)) rest = grind (arith, differs, rest)

none_pass : (f : TaskId → Bool) (ts : List TaskId) → ((u : TaskId) → f u ≡ true → 0 ≡ number (same_task u) ts) → 0 ≡ number f ts
none_pass f [] none = refl
none_pass f (t ∷ ts) none = by_test (f t) refl (none_pass f ts later)
  where
    later : (u : TaskId) → f u ≡ true → 0 ≡ number (same_task u) ts
    later u e = let all = none u e in omega (arith, all)

    by_test : (b : Bool) → f t ≡ b → 0 ≡ number f ts → 0 ≡ cond b 1 0 + number f ts
    by_test true e rest = absurd (let all = none t e in let itself : same_task t t ≡ true = grind (arith, same_tests) in let some = rw itself at all in omega (arith, some))
    by_test false e rest = omega (arith, rest)

-- as many pass of the one as of the other, where none stands in the one twice and each that passes stands in both as often
pub as_many_in : (f : TaskId → Bool) (xs ys : List TaskId) → ((u : TaskId) → number (same_task u) xs ≤ 1) → ((u : TaskId) → f u ≡ true → number (same_task u) xs ≡ number (same_task u) ys) → number f xs ≡ number f ys
as_many_in f [] ys once both = none_pass f ys both
as_many_in f (x ∷ xs) ys once both =
    let rest = as_many_in f xs (filter (λ t. not (same_task x t)) ys) later both_later in
    let parted = passing_without f x ys in
    let here = both x in
    grind (arith, rest, parted, here, itself, gone)
  where
    itself : same_task x x ≡ true
    itself = grind (arith, same_tests)

    later : (u : TaskId) → number (same_task u) xs ≤ 1
    later u = let here = once u in omega (arith, here)

    gone : number (same_task x) xs ≡ 0
    gone = let here = once x in let more = rw itself at here in omega (arith, more)

    both_later : (u : TaskId) → f u ≡ true → number (same_task u) xs ≡ number (same_task u) (filter (λ t. not (same_task x t)) ys)
    both_later u e = by_task (same_task_tells u x) (both u e) ∙ sym (without_one x u ys)
      where
        by_task : ((same_task u x ≡ true) × (u ≡ x)) ⊎ ((same_task u x ≡ false) × (u ≢ x)) → number (same_task u) (x ∷ xs) ≡ number (same_task u) ys → number (same_task u) xs ≡ cond (same_task u x) 0 (number (same_task u) ys)
        by_task (inl (is_one, same)) all = rw is_one (ap (λ v. number (same_task v) xs) same ∙ gone)
        by_task (inr (differs, apart)) all = let more = rw differs at all in rw differs (let same = more in omega (arith, same))
