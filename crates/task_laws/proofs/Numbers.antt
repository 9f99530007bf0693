-- How many elements of a list pass a test, counted from the front.
use Rattle.std.proofs.Common.{◌≡◌, ◌+◌, ◌-◌, ◌≤◌, ◌<◌, ℕ, Bool, true, false, cond, not, ◌&&◌, List, [], ◌∷◌, ◌++◌, map, refl, ap, ◌∙◌, arith}
use Rattle.std.specs.Prelude.{count_by, ◌==◌}
use Rattle.std.specs.List.{list_any, list_all}
use Rattle.std.proofs.lemmas.List.Sums.{sum_by-cons}
use Rattle.std.proofs.lemmas.Bool.Decides.{nat_tests}
use Rattle.task_events.specs.Messages.{Message, without}

abbrev pub number : {X : Type 0} → (X → Bool) → List X → ℕ
number test [] = 0
number test (x ∷ xs) = cond (test x) 1 0 + number test xs

-- it is what `count_by` says
pub number_is : {X : Type 0} (test : X → Bool) (xs : List X) → count_by test xs ≡ number test xs
number_is test [] = refl
number_is test (x ∷ xs) = sum_by-cons (λ x. cond (test x) 1 0) x xs ∙ ap (λ n. cond (test x) 1 0 + n) (number_is test xs)

pub number-append : {X : Type 0} (test : X → Bool) (xs ys : List X) → number test (xs ++ ys) ≡ number test xs + number test ys
number-append test [] ys = omega arith
number-append test (x ∷ xs) ys = let e = number-append test xs ys in omega arith

-- a message of another kind is taken away, or one of this kind
pub number-without : (test other : Message → Bool) (b : Bool) → ((m : Message) → other m ≡ true → test m ≡ b) → (b ≡ true → (m : Message) → test m ≡ true → other m ≡ true) → (ms : List Message) → number test (without other ms) ≡ number test ms - cond b 1 0
number-without test other b each all [] = grind arith
number-without test other true each all (m ∷ ms) = let e = number-without test other true each all ms in grind (arith, each m, all refl m)
number-without test other false each all (m ∷ ms) = let e = number-without test other false each all ms in grind (arith, each m)

pub number-none : {X : Type 0} (test : X → Bool) (f : ℕ → X) → ((n : ℕ) → test (f n) ≡ false) → (ns : List ℕ) → number test (map f ns) ≡ 0
number-none test f fails [] = refl
number-none test f fails (n ∷ ns) = let e = number-none test f fails ns in grind (arith, fails n)

pub number-nodes : {X : Type 0} (test : X → Bool) (f : ℕ → X) (b : Bool) (n : ℕ) → ((m : ℕ) → test (f m) ≡ (b && (n == m))) → (ns : List ℕ) → number test (map f ns) ≡ cond b (number (λ m. n == m) ns) 0
number-nodes test f true n each [] = refl
number-nodes test f false n each [] = refl
number-nodes test f true n each (m ∷ ns) = let e = number-nodes test f true n each ns in grind (arith, each m)
number-nodes test f false n each (m ∷ ns) = let e = number-nodes test f false n each ns in grind (arith, each m)

pub both : (a b : Bool) → (a && b) ≡ true → (a ≡ true) × (b ≡ true)
both true b e = (refl, e)
both false b e = absurd (cc)

-- an element of those that all pass passes
pub passes_of_all : {X : Type 0} (same : X → X → Bool) → ((x y : X) → same x y ≡ true → x ≡ y) → (test : X → Bool) (x : X) (xs : List X) → list_all test xs ≡ true → 0 < number (same x) xs → test x ≡ true
passes_of_all same tells test x [] l i = absurd (omega arith)
passes_of_all same tells test x (y ∷ ys) l i =
    let parts = both (test y) (list_all test ys) l in
    first_or_later (same x y) (tells x y) i (λ j. passes_of_all same tells test x ys parts.1 j) parts.0
  where
    first_or_later : (b : Bool) → (b ≡ true → x ≡ y) → 0 < cond b 1 0 + number (same x) ys → (0 < number (same x) ys → test x ≡ true) → test y ≡ true → test x ≡ true
    first_or_later true is k later e = rw (is refl) e
    first_or_later false is k later e = later (omega arith)

pub all_pass : {X : Type 0} (same : X → X → Bool) → ((x : X) → same x x ≡ true) → (test : X → Bool) (xs : List X) → ((x : X) → 0 < number (same x) xs → test x ≡ true) → list_all test xs ≡ true
all_pass same itself test [] each = refl
all_pass same itself test (y ∷ ys) each =
    let rest = all_pass same itself test ys (λ x i. each x (omega arith)) in
    let is = itself y in
    let here : test y ≡ true = each y (rw is (omega arith)) in
    rw (here, rest)

pub same_number : (n m : ℕ) → (n == m) ≡ true → n ≡ m
same_number n m e = grind (arith, nat_tests)

pub number_itself : (n : ℕ) → (n == n) ≡ true
number_itself n = grind (arith, nat_tests)

-- an element that is counted at most once is counted as often as it is in the list
pub in_list : (n : ℕ) (ns : List ℕ) → number (λ m. n == m) ns ≤ 1 → number (λ m. n == m) ns ≡ cond (list_any (λ m. n == m) ns) 1 0
in_list n [] l = refl
in_list n (m ∷ ns) l = let rest = in_list n ns (omega arith) in grind (arith, nat_tests, rest)

-- where no element fails all pass
pub all_as_number : {X : Type 0} (test : X → Bool) (xs : List X) → list_all test xs ≡ (number (λ x. not (test x)) xs == 0)
all_as_number test [] = refl
all_as_number test (x ∷ xs) = let rest = all_as_number test xs in grind (arith, nat_tests)
