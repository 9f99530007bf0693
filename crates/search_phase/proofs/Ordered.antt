-- Hit order moves keys only, and the same keys in order are in hit order.
use Rattle.std.specs.Prelude.{◌≡◌, ℕ, zero, suc, ◌+◌, ◌<◌, Bool, true, false, cond, List, [], ◌∷◌, length, map, IsSorted, IsPermutation, refl}
use Rattle.std.specs.List.{AllByRecursion, swap}
use Rattle.std.specs.declared.cmp.Ordering.{Ordering}
use Rattle.std.specs.declared.cmp.Ordering.TheVariants.{Less, Equal, Greater}
use Rattle.std.specs.Ordering.{ordering_reverse, is_lt, is_le}
use Rattle.std.proofs.Common.{sym, ◌∙◌, ap, arith, get_or, set, true≢false, add-one}
use Rattle.std.proofs.lemmas.List.{get_or-map, length-map}
use Rattle.std.proofs.lemmas.List.Sorted.{IsPermutation-refl, IsPermutation-sym, IsPermutation-cons, IsPermutation-trans, IsPermutation-middle, IsPermutation-keeps, IsPermutation-map}
use denote.Ref.{Bor}
use Rattle.task_events.specs.declared.request.HitKey.{HitKey}
use Rattle.task_events.specs.HitOrder.{hit_cmp, placed, in_hit_order}
use Rattle.search_phase.proofs.Sorting.{put_comm}
use Rattle.search_phase.proofs.HitKeys.{hit_cmp_total, stands_first, hits_linear, placed-put}

-- ---- the same keys

placed-permutation : (key : HitKey) (keys : List HitKey) → IsPermutation (key ∷ keys) (placed key keys)
placed-permutation key [] = IsPermutation-refl _
placed-permutation key (next ∷ later) =
    elim (stands_first key next) as (λ b. IsPermutation (key ∷ next ∷ later) (cond b (key ∷ next ∷ later) (next ∷ placed key later))) [
      | true ↦ IsPermutation-refl _
      | false ↦ IsPermutation-trans _ _ _ (IsPermutation-sym _ _ (IsPermutation-middle (next ∷ []) key later)) (IsPermutation-cons next _ _ (placed-permutation key later))
    ]

-- hit order moves keys only
pub in_hit_order-permutation : (keys : List HitKey) → IsPermutation keys (in_hit_order keys)
in_hit_order-permutation [] = IsPermutation-refl []
in_hit_order-permutation (key ∷ keys) = IsPermutation-trans _ _ _ (IsPermutation-cons key _ _ (in_hit_order-permutation keys)) (placed-permutation key (in_hit_order keys))

-- ---- whatever order they come in

-- two keys are placed in either order
placed-placed : (a b : HitKey) (keys : List HitKey) → placed a (placed b keys) ≡ placed b (placed a keys)
placed-placed a b keys =
    ap (placed a) (placed-put b keys) ∙ placed-put a _ ∙ put_comm hits_linear a b keys ∙ sym (placed-put b _) ∙ ap (placed b) (sym (placed-put a keys))

to_head : (keys : List HitKey) (j : ℕ) (key d : HitKey) → j < length keys → in_hit_order (key ∷ keys) ≡ in_hit_order (get_or keys j d ∷ set keys j key)
to_head [] j key d h = absurd (omega arith)
to_head (next ∷ later) zero key d h = placed-placed key next (in_hit_order later)
to_head (next ∷ later) (suc j) key d h =
    placed-placed key next (in_hit_order later) ∙ ap (placed next) (to_head later j key d (omega arith)) ∙ placed-placed next (get_or later j d) (in_hit_order (set later j key))

exchanged : (keys : List HitKey) (i j : ℕ) (d : HitKey) → i < length keys → j < length keys → in_hit_order keys ≡ in_hit_order (set (set keys i (get_or keys j d)) j (get_or keys i d))
exchanged [] i j d p q = refl
exchanged (key ∷ keys) zero zero d p q = refl
exchanged (key ∷ keys) zero (suc j) d p q = to_head keys j key d (omega arith)
exchanged (key ∷ keys) (suc i) zero d p q = to_head keys i key d (omega arith)
exchanged (key ∷ keys) (suc i) (suc j) d p q = ap (placed key) (exchanged keys i j d (omega arith) (omega arith))

swapped : (keys : List HitKey) (i j : ℕ) → i < length keys → j < length keys → in_hit_order keys ≡ in_hit_order (swap keys i j)
swapped [] i j p q = refl
swapped (key ∷ keys) i j p q = exchanged (key ∷ keys) i j key p q

-- the same keys have one hit order
pub in_hit_order-permuted : (xs ys : List HitKey) → IsPermutation xs ys → in_hit_order xs ≡ in_hit_order ys
in_hit_order-permuted xs = IsPermutation-keeps xs (λ ys. in_hit_order xs ≡ in_hit_order ys) refl (λ ys i j p q h. h ∙ swapped ys i j p q)

-- ---- in order

-- each key stands before all that come later
abbrev pub IsInOrder : List HitKey → Type 0
IsInOrder [] = Unit {0}
IsInOrder (key ∷ keys) = AllByRecursion (λ later. stands_first key later ≡ true) keys × IsInOrder keys

pub all_behind : (a b : HitKey) → stands_first a b ≡ true → (keys : List HitKey) → AllByRecursion (λ key. stands_first b key ≡ true) keys → AllByRecursion (λ key. stands_first a key ≡ true) keys
all_behind a b h [] all = tt
all_behind a b h (key ∷ keys) all = (hits_linear.trans a b key h all.0, all_behind a b h keys all.1)

pub all-placed : (P : HitKey → Type 0) (key : HitKey) (keys : List HitKey) → P key → AllByRecursion P keys → AllByRecursion P (placed key keys)
all-placed P key [] h all = (h, tt)
all-placed P key (next ∷ later) h all =
    elim (stands_first key next) as (λ b. AllByRecursion P (cond b (key ∷ next ∷ later) (next ∷ placed key later))) [
      | true ↦ (h, all)
      | false ↦ (all.0, all-placed P key later h all.1)
    ]

placed-in_order : (key : HitKey) (keys : List HitKey) → IsInOrder keys → IsInOrder (placed key keys)
placed-in_order key [] sorted = (tt, tt)
placed-in_order key (next ∷ later) sorted = go (stands_first key next) refl (placed-in_order key later sorted.1)
  where
    go : (b : Bool) → stands_first key next ≡ b → IsInOrder (placed key later) → IsInOrder (cond b (key ∷ next ∷ later) (next ∷ placed key later))
    go true h more = ((h, all_behind key next h later sorted.0), sorted)
    go false h more = (all-placed _ key later (hits_linear.turn key next h) sorted.0, more)

-- hit order is in order
pub in_hit_order-in_order : (keys : List HitKey) → IsInOrder (in_hit_order keys)
in_hit_order-in_order [] = tt
in_hit_order-in_order (key ∷ keys) = placed-in_order key _ (in_hit_order-in_order keys)

-- a key that stands before all others leads them
pub placed_first : (key : HitKey) (keys : List HitKey) → AllByRecursion (λ later. stands_first key later ≡ true) keys → placed key keys ≡ key ∷ keys
placed_first key [] all = refl
placed_first key (next ∷ later) all = rw all.0 refl

-- keys in order stay as they are
pub in_hit_order-same : (keys : List HitKey) → IsInOrder keys → in_hit_order keys ≡ keys
in_hit_order-same [] sorted = refl
in_hit_order-same (key ∷ keys) sorted = ap (placed key) (in_hit_order-same keys sorted.1) ∙ placed_first key keys sorted.0

-- the same keys, in order, are in hit order
pub in_hit_order-unique : (xs ys : List HitKey) → IsPermutation xs ys → IsInOrder ys → ys ≡ in_hit_order xs
in_hit_order-unique xs ys moved sorted = sym (in_hit_order-same ys sorted) ∙ sym (in_hit_order-permuted xs ys moved)

pub turned : (r s : Ordering) → r ≡ ordering_reverse s → is_lt s ≡ false → is_le r ≡ true
turned r Less e h = absurd (true≢false h)
turned r Equal e h = ap is_le e
turned r Greater e h = ap is_le e

-- as std's sorts have it
pub in_order-sorted : (keys : List HitKey) → IsSorted hit_cmp keys → IsInOrder keys
in_order-sorted [] sorted = tt
in_order-sorted (key ∷ keys) sorted =
    let later = in_order-sorted keys (λ k d p q. rw add-one (rw add-one at (sorted (suc k) d (omega arith) (omega arith)))) in
    (behind keys sorted later, later)
  where
    behind : (keys : List HitKey) → IsSorted hit_cmp (key ∷ keys) → IsInOrder keys → AllByRecursion (λ other. stands_first key other ≡ true) keys
    behind [] sorted later = tt
    behind (next ∷ rest) sorted later =
        let first = turned (hit_cmp key next) (hit_cmp next key) (hit_cmp_total.antisymm key next) (sorted 0 key (omega arith) (omega arith)) in
        (first, all_behind key next first rest later.0)

-- the same keys, sorted, are in hit order
pub in_hit_order-sorted : (xs ys : List HitKey) → IsPermutation xs ys → IsSorted hit_cmp ys → ys ≡ in_hit_order xs
in_hit_order-sorted xs ys moved sorted = in_hit_order-unique xs ys moved (in_order-sorted ys sorted)

-- ---- behind references

sorted-now : (keys : List (Bor HitKey)) → IsSorted (λ a b. hit_cmp a.now b.now) keys → IsSorted hit_cmp (map (λ key. key.now) keys)
sorted-now [] sorted k d p q = absurd (omega arith)
sorted-now (first ∷ later) sorted k d p q =
    let keys = first ∷ later in
    let within : k + 1 < length keys = omega (arith, q, length-map keys (λ (key : Bor HitKey). key.now)) in
    rw (get_or-map (λ (key : Bor HitKey). key.now) keys (k + 1) first d within, get_or-map (λ (key : Bor HitKey). key.now) keys k first d (omega arith)) (sorted k first p within)

-- keys behind references, sorted, are in hit order
pub in_hit_order-now : (xs ys : List (Bor HitKey)) → IsPermutation xs ys → IsSorted (λ a b. hit_cmp a.now b.now) ys → map (λ key. key.now) ys ≡ in_hit_order (map (λ key. key.now) xs)
in_hit_order-now xs ys moved sorted = in_hit_order-sorted _ _ (IsPermutation-map (λ (key : Bor HitKey). key.now) xs ys moved) (sorted-now ys sorted)
