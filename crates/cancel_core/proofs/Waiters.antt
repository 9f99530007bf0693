-- Waiters stay in the order of their numbers.
use Rattle.std.proofs.Common.{◌≡◌, ◌≤◌, List, Bool, not, nat_lt, length, position, unwrap_or, arith}
use Rattle.std.specs.List.{position_or_len}
use Rattle.std.specs.List.Sorted.{IsNonDecreasingBy}
use Rattle.std.proofs.lemmas.List.Sorted.{IsNonDecreasingBy-insert}
use Rattle.std.proofs.lemmas.List.Sums.{prefix_len-le-length, fails_before_first, passes_at_first}
use Rattle.std.proofs.lemmas.Bool.Decides.{nat_tests}
use Rattle.cancel_core.specs.declared.act.Waiter.{Waiter}
use Rattle.cancel_core.specs.Cancellation.{with_waiter}

-- the first that passes, or the end
pub first_or_end : {X : Type 0} (p : X → Bool) (xs : List X) → unwrap_or (position p xs) (length xs) ≡ position_or_len p xs
first_or_end p xs = let within = prefix_len-le-length (λ x. not (p x)) xs in grind (arith, nat_tests)

pub place_within : {X : Type 0} (p : X → Bool) (xs : List X) → position_or_len p xs ≤ length xs
place_within p xs = prefix_len-le-length _ xs

-- before the first of a greater number no number is greater, and from there on none is less
pub ascending-with_waiter : (ws : List Waiter) (w : Waiter) → IsNonDecreasingBy (λ v. v.cancel) ws → IsNonDecreasingBy (λ v. v.cancel) (with_waiter ws w)
ascending-with_waiter ws w ascending =
    let greater : Waiter → Bool = λ v. nat_lt w.cancel v.cancel in
    IsNonDecreasingBy-insert (λ v. v.cancel) ws (position_or_len greater ws) w ascending (place_within greater ws)
    (λ k d before. let fails = fails_before_first greater ws k d before in grind (arith, nat_tests))
    (λ k d after within.
    let first = passes_at_first greater ws d (omega arith) in
    let above = ascending (position_or_len greater ws) k d after within in
    grind (arith, nat_tests))
