-- One document more, one round more.
use Rattle.std.proofs.Common.{◌≡◌, ℕ, zero, suc, ◌+◌, List, ◌++◌, ap, sym, subst, ◌∙◌, refl, arith}
use Rattle.std.proofs.lemmas.List.{append-nil, append_assoc}
use Rattle.std.specs.List.{flat_map, range_with_len}
use Rattle.std.specs.Fn.{iterate}
use Rattle.script_lang.specs.Generator.{next_number, document_lines, documents, round_lines, rounds}

one_more : (f : ℕ → List ℕ) (n a : ℕ) → flat_map f (range_with_len a (suc n)) ≡ flat_map f (range_with_len a n) ++ f (a + n)
one_more f zero a = let e : a + 0 ≡ a = omega arith in rw e (append-nil (f a))
one_more f (suc n) a =
    let e : a + 1 + n ≡ a + suc n = omega arith in
    let rest = one_more f n (a + 1) in
    ap (λ more. f a ++ more) (subst (λ k. flat_map f (range_with_len (a + 1) (suc n)) ≡ flat_map f (range_with_len (a + 1) n) ++ f k) e rest) ∙ sym (append_assoc (f a) _ _)

-- what was written before, then this and then that
pub then_more : (before first next both now after : List ℕ) → now ≡ before ++ first → after ≡ now ++ next → both ≡ first ++ next → after ≡ before ++ both
then_more before first next both now after e e' f = rw (e', e, f) (append_assoc before first next)

-- as one_more, at other spellings of the numbers
one_more_at : (f : ℕ → List ℕ) (n m a k : ℕ) → m ≡ suc n → k ≡ a + n → flat_map f (range_with_len a m) ≡ flat_map f (range_with_len a n) ++ f k
one_more_at f n m a k e e' = rw (e, e') (one_more f n a)

-- a step after n steps is a step more
one_step : {A : Type 0} (h : A → A) (n : ℕ) (x : A) → iterate h (suc n) x ≡ h (iterate h n x)
one_step h zero x = refl
one_step h (suc n) x = one_step h n (h x)

pub next_step : (number n : ℕ) → iterate next_number (n + 1) number ≡ next_number (iterate next_number n number)
next_step number n = let e : n + 1 ≡ suc n = omega arith in rw e (one_step next_number n number)

pub one_document : (number n chance : ℕ) → chance ≡ iterate next_number (n + 1) number → documents number (n + 1) ≡ documents number n ++ document_lines n chance
unfolding documents
one_document number n chance e = rw e (one_more_at (λ id. document_lines id (iterate next_number (id + 1) number)) n (n + 1) 0 n (omega arith) (omega arith))

pub one_round : (number n before : ℕ) → before ≡ n → rounds number (n + 1) ≡ rounds number n ++ round_lines number (before + 1)
unfolding rounds
one_round number n before e = rw e (one_more_at (round_lines number) n (n + 1) 1 (n + 1) (omega arith) (omega arith))
