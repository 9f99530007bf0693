-- The newest ask of a task, its answer, and the asks before it.
use Rattle.std.proofs.Common.{◌≡◌, ℕ, zero, suc, ◌+◌, ◌<◌, ◌≤◌, true, false, List, [], ◌∷◌, ◌++◌, length, map, take, Option, Some, None, refl, sym, ap, ◌∙◌, arith}
use Rattle.std.specs.Prelude.{is_some, ◌==◌, ◌&&◌, slice_set, option_and_then}
use Rattle.std.specs.List.{sum_by, range_with_len}
use Rattle.std.proofs.lemmas.Bool.{ne_eqb}
use Rattle.std.proofs.lemmas.List.{length_push, map-append}
use Rattle.std.proofs.lemmas.List.Elements.{filter_map-append}
use Rattle.std.proofs.lemmas.List.Folds.{list_all-append}
use Rattle.std.proofs.lemmas.List.Sums.{sum_by-cons, sum_by-append}
use Rattle.std.proofs.Math.Seq.{take-append_seam}
use Rattle.task_events.specs.declared.reply.Reply.{Reply}
use Rattle.task_events.specs.declared.step.Asked.{Asked}
use Rattle.task_events.specs.Counting.{answers_in}
use Rattle.task_events.specs.Searches.{are_answered}
use Rattle.task_events.specs.SliceTask.{answer_at, context_in}
use Rattle.task_events.specs.Steps.{with_answer}
use Rattle.reindex.specs.OpenAsks.{AreNumbered}
use Rattle.reindex.specs.SliceRuns.{newest, newest_answer}
use Rattle.reindex.proofs.FedSums.{AreFrom, row, first_is, later_are}

-- ---- the last of a list

pub record Ends {X : Type 0} (xs : List X) : Type 0 where
  pub before : List X
  pub last : X
  pub is : xs ≡ before ++ last ∷ []

pub ends : {X : Type 0} (x : X) (xs : List X) → Ends (x ∷ xs)
ends x [] = record { before = []; last = x; is = refl }
ends x (y ∷ ys) = let later = ends y ys in record { before = x ∷ later.before; last = later.last; is = ap (λ zs. x ∷ zs) later.is }

pub some_ends : {X : Type 0} (xs : List X) → 1 ≤ length xs → Ends xs
some_ends [] some = absurd (omega arith)
some_ends (x ∷ xs) some = ends x xs

-- where the last stands
pub newest_is : (before : List Asked) (a : Asked) → newest (before ++ a ∷ []) ≡ length before
newest_is before a = omega (arith, length_push before a)

pub answer_last : (before : List Asked) (a : Asked) → answer_at (before ++ a ∷ []) (length before) ≡ a.answer
answer_last [] a = refl
answer_last (b ∷ bs) a = answer_last bs a

pub newest_answer_is : (before : List Asked) (a : Asked) → newest_answer (before ++ a ∷ []) ≡ a.answer
newest_answer_is before a = ap (answer_at (before ++ a ∷ [])) (newest_is before a) ∙ answer_last before a

pub answer_before : (before more : List Asked) (i : ℕ) → i < length before → answer_at (before ++ more) i ≡ answer_at before i
answer_before [] more i l = absurd (omega arith)
answer_before (b ∷ bs) more zero l = refl
answer_before (b ∷ bs) more (suc i) l = answer_before bs more i (omega arith)

pub earlier_is : (before : List Asked) (a : Asked) → take (newest (before ++ a ∷ [])) (before ++ a ∷ []) ≡ before
earlier_is before a = ap (λ n. take n (before ++ a ∷ [])) (newest_is before a) ∙ take-append_seam before (a ∷ [])

pub set_last : (before : List ℕ) (was now : ℕ) → slice_set (before ++ was ∷ []) (length before) now ≡ before ++ now ∷ []
set_last [] was now = refl
set_last (b ∷ bs) was now = ap (λ ms. b ∷ ms) (set_last bs was now)

-- ---- what the answers say

pub answered_more : (before : List Asked) (a : Asked) → are_answered (before ++ a ∷ []) ≡ (are_answered before && (is_some a.answer && true))
answered_more before a = list_all-append (λ (b : Asked). is_some b.answer) before (a ∷ [])

pub answers_more : (k : ℕ) (reply : Reply) (before : List Asked) → answers_in (before ++ row k (Some reply) ∷ []) ≡ answers_in before ++ reply ∷ []
answers_more k reply before = filter_map-append (λ (a : Asked). a.answer) before (row k (Some reply) ∷ [])

pub sum_more : {X : Type 0} (f : X → ℕ) (xs : List X) (x : X) → sum_by f (xs ++ x ∷ []) ≡ sum_by f xs + f x
sum_more f xs x = let one : sum_by f (x ∷ []) ≡ f x + 0 = sum_by-cons f x [] in omega (arith, sum_by-append f xs (x ∷ []))

pub first_context_open : (k : ℕ) (asked : List Asked) → option_and_then context_in (answer_at (asked ++ row k None ∷ []) 0) ≡ option_and_then context_in (answer_at asked 0)
first_context_open k [] = refl
first_context_open k (a ∷ asked) = refl

-- ---- numbers

-- the newest ask has the number of all
last_number : (n : ℕ) (before : List Asked) (a : Asked) → AreFrom n (before ++ a ∷ []) → a.ask ≡ n + length before
last_number n [] a e = let same : a.ask ≡ n = first_is n a.ask a.answer [] e in omega arith
last_number n (b ∷ bs) a e = let later = last_number (n + 1) bs a (later_are n b.ask b.answer (bs ++ a ∷ []) e) in omega arith

pub newest_number : (before : List Asked) (a : Asked) → AreNumbered (before ++ a ∷ []) → a.ask ≡ length before + 1
newest_number before a e = let is = last_number 1 before a e in omega arith

-- an answer to a later ask changes none of the earlier ones
unchanged : (n k : ℕ) (answer : Option Reply) (before : List Asked) (a : Asked) → AreFrom n (before ++ a ∷ []) → n + length before ≤ k → map (with_answer k answer) before ≡ before
unchanged n k answer [] a e past = refl
unchanged n k answer (b ∷ bs) a e past =
    let first = first_is n b.ask b.answer (bs ++ a ∷ []) e in
    let other : (k == b.ask) ≡ false = ne_eqb k b.ask (λ same. omega arith) in
    let later = unchanged (n + 1) k answer bs a (later_are n b.ask b.answer (bs ++ a ∷ []) e) (omega arith) in
    rw other (ap (λ xs. b ∷ xs) later)

pub before_unchanged : (k : ℕ) (answer : Option Reply) (before : List Asked) (a : Asked) → AreNumbered (before ++ a ∷ []) → k ≡ length before + 1 → map (with_answer k answer) before ≡ before
before_unchanged k answer before a e is = unchanged 1 k answer before a e (omega arith)

-- the same asks, the newest with another answer
pub renumbered : (before : List Asked) (k : ℕ) (o p : Option Reply) → AreNumbered (before ++ row k o ∷ []) → AreNumbered (before ++ row k p ∷ [])
renumbered before k o p e =
    map-append (λ (a : Asked). a.ask) before (row k p ∷ []) ∙ sym (map-append (λ (a : Asked). a.ask) before (row k o ∷ [])) ∙ e
    ∙ ap (range_with_len 1) (length_push before (row k o) ∙ sym (length_push before (row k p)))
