-- The nodes of unanswered asks stand in their list once each.
use Rattle.std.proofs.Common.{◌≡◌, ◌≤◌, ◌<◌, ℕ, Bool, cond, [], ◌∷◌, refl, ◌∙◌, ap, arith}
use Rattle.std.specs.Prelude.{filter, ◌==◌, zero, suc}
use Rattle.std.proofs.lemmas.Bool.Decides.{nat_tests}
use Rattle.std.proofs.lemmas.List.Elements.{filter-append}
use Rattle.task_events.specs.Asks.{up_to, all_nodes}
use Rattle.task_laws.proofs.Numbers.{number, number-append}

single : (test : ℕ → Bool) (n x : ℕ) → number (λ m. n == m) (filter test (x ∷ [])) ≡ cond (n == x) (cond (test x) 1 0) 0
single test n x = grind (arith, nat_tests)

above : (test : ℕ → Bool) (n m : ℕ) → m < n → number (λ x. n == x) (filter test (up_to m)) ≡ 0
above test n zero l = refl
above test n (suc m) l =
    let split = ap (number (λ x. n == x)) (filter-append test (up_to m) (suc m ∷ [])) ∙ number-append (λ x. n == x) (filter test (up_to m)) (filter test (suc m ∷ [])) in
    let rest = above test n m (omega arith) in
    let last = single test n (suc m) in
    grind (arith, nat_tests)

once_up_to : (test : ℕ → Bool) (n m : ℕ) → number (λ x. n == x) (filter test (up_to m)) ≤ 1
once_up_to test n zero = omega arith
once_up_to test n (suc m) =
    let split = ap (number (λ x. n == x)) (filter-append test (up_to m) (suc m ∷ [])) ∙ number-append (λ x. n == x) (filter test (up_to m)) (filter test (suc m ∷ [])) in
    let rest = once_up_to test n m in
    let last = single test n (suc m) in
    let none = above test n m in
    grind (arith, nat_tests, none)

pub once : (test : ℕ → Bool) (n : ℕ) → number (λ x. n == x) (filter test all_nodes) ≤ 1
unfolding all_nodes
once test n = once_up_to test n 15
