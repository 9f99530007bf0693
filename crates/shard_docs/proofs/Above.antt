-- The places above one stand behind those that are not above it.
use Rattle.std.proofs.Common.{◌≡◌, ℕ, ◌-◌, ◌<◌, ◌≤◌, zero, suc, Bool, true, false, cond, leb, List, [], ◌∷◌, length, drop, filter, None, Some, refl, sym, ap, ◌∙◌, arith, ⊎_elim}
use Rattle.std.proofs.lemmas.Bool.{leb-true, leb-false, lt-ltb, le-ltb}
use Rattle.std.proofs.lemmas.List.Elements.{All-push}
use Rattle.std.proofs.lemmas.List.Sorted.{IsNonDecreasingBy-push, IsNonDecreasingBy-short}
use Rattle.std.specs.List.{All}
use Rattle.std.specs.List.Sorted.{IsPartitionPoint, IsNonDecreasing}
use Rattle.shard_docs.specs.Candidates.{is_above}
use Rattle.shard_docs.specs.Places.{HasPlaces}

pub all_above : (places : List ℕ) → places ≡ filter (is_above None) places
all_above [] = refl
all_above (p ∷ places) = ap (λ l. p ∷ l) (all_above places)

pub above_is : (after : ℕ) (places : List ℕ) (start : ℕ) → IsPartitionPoint (λ p. leb p after ≡ true) (λ p. leb p after ≡ false) places start → drop start places ≡ filter (is_above (Some after)) places
above_is after [] zero parts = refl
above_is after [] (suc start) parts = refl
above_is after (p ∷ places) zero parts =
    let above : after < p = leb-false p after (parts.1 0 0 (omega arith) (omega arith)) in
    ap (λ l. p ∷ l) (above_is after places zero ((λ k d low high. absurd (omega arith)), (λ k d low high. parts.1 (suc k) d (omega arith) (omega arith))))
    ∙ sym (ap (λ b. cond b (p ∷ filter (is_above (Some after)) places) (filter (is_above (Some after)) places)) (lt-ltb after p above))
above_is after (p ∷ places) (suc start) parts =
    let below : p ≤ after = leb-true p after (parts.0 0 0 (omega arith) (omega arith)) in
    above_is after places start ((λ k d low high. parts.0 (suc k) d (omega arith) (omega arith)), (λ k d low high. parts.1 (suc k) d (omega arith) (omega arith)))
    ∙ sym (ap (λ b. cond b (p ∷ filter (is_above (Some after)) places) (filter (is_above (Some after)) places)) (le-ltb after p below))

-- the places of an index ascend
all_below : (test : ℕ → Bool) (n : ℕ) (places : List ℕ) → HasPlaces test n places → All (λ p. p < n) places
all_below test zero places empty = λ k d h. absurd (omega (arith, ap length empty))
all_below test (suc n) places (before, has, top) =
    let below : All (λ p. p < suc n) before = λ k d h. let low = all_below test n before has k d h in omega arith in
    ⊎_elim
    (λ here. rw here (All-push (λ p. p < suc n) before n below (omega arith)))
    (λ gone. rw gone.0 below)
    top

pub ascending : (test : ℕ → Bool) (n : ℕ) (places : List ℕ) → HasPlaces test n places → IsNonDecreasing places
ascending test zero places empty = IsNonDecreasingBy-short (λ p. p) places (omega (arith, ap length empty))
ascending test (suc n) places (before, has, top) =
    let rises = ascending test n before has in
    ⊎_elim
    (λ here. rw here (IsNonDecreasingBy-push (λ p. p) before n rises (λ d some. let low = all_below test n before has (length before - 1) d (omega arith) in omega arith)))
    (λ gone. rw gone.0 rises)
    top
