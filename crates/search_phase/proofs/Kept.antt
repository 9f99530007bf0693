-- Of the keys that stand first, what one more key changes.
use Rattle.std.specs.Prelude.{◌≡◌, ℕ, zero, suc, ◌<◌, ◌≤◌, Option, Some, None, IsSome, IfSome, Bool, true, false, cond, List, [], ◌∷◌, ◌++◌, length, take, filter, IsPermutation}
use Rattle.std.specs.List.{AllByRecursion}
use Rattle.std.specs.BinaryHeap.{IsHeap, IsUpperBound}
use Rattle.std.proofs.Common.{sym, ◌∙◌, ap, subst, arith, get_or, true≢false}
use Rattle.std.proofs.Math.Seq.{take-append_seam}
use Rattle.std.proofs.lemmas.List.{take_all, get_or_default, append-nil}
use Rattle.std.proofs.lemmas.List.Elements.{filter-append, recursion_from_All, All-from_recursion}
use Rattle.std.proofs.lemmas.List.Sorted.{IsPermutation-refl, IsPermutation-sym, IsPermutation-cons, IsPermutation-trans, IsPermutation-middle, IsPermutation-to_front, IsPermutation-append, IsPermutation-append_comm, length_permutation, All-permutation}
use Rattle.task_events.specs.declared.request.HitKey.{HitKey}
use Rattle.task_events.specs.HitOrder.{hit_cmp, placed, in_hit_order}
use Rattle.search_phase.proofs.Sorting.{put_all, take-put, take-put_all, put_all-append}
use Rattle.search_phase.proofs.HitKeys.{hit_cmp_total, stands_first, hits_linear, placed-put, in_hit_order-put_all}
use Rattle.search_phase.proofs.Cut.{length-in_hit_order}
use Rattle.search_phase.proofs.Ordered.{IsInOrder, in_hit_order-permutation, in_hit_order-same, in_hit_order-permuted, in_hit_order-unique, in_hit_order-in_order, turned}

-- ---- a key that stands last

along : (P : HitKey → Type 0) (xs ys : List HitKey) → IsPermutation xs ys → AllByRecursion P xs → AllByRecursion P ys
along P xs ys moved all = recursion_from_All P ys (All-permutation P xs ys moved (All-from_recursion P xs all))

all_push : (P : HitKey → Type 0) (key : HitKey) (keys : List HitKey) → AllByRecursion P keys → P key → AllByRecursion P (keys ++ key ∷ [])
all_push P key [] all h = (h, tt)
all_push P key (next ∷ later) all h = (all.0, all_push P key later all.1 h)

in_order-push : (last : HitKey) (keys : List HitKey) → IsInOrder keys → AllByRecursion (λ key. stands_first key last ≡ true) keys → IsInOrder (keys ++ last ∷ [])
in_order-push last [] sorted all = (tt, tt)
in_order-push last (key ∷ keys) sorted all = (all_push _ last keys sorted.0 all.0, in_order-push last keys sorted.1 all.1)

behind_all : (last : HitKey) (keys : List HitKey) → IsUpperBound hit_cmp last keys → AllByRecursion (λ key. stands_first key last ≡ true) keys
behind_all last [] all = tt
behind_all last (key ∷ keys) all = (turned (hit_cmp key last) (hit_cmp last key) (hit_cmp_total.antisymm key last) all.0, behind_all last keys all.1)

-- a key behind all others is what one cut takes away
last_goes : (last : HitKey) (keys all : List HitKey) → IsPermutation (last ∷ keys) all → AllByRecursion (λ key. stands_first key last ≡ true) keys
    → in_hit_order keys ≡ take (length keys) (in_hit_order all)
last_goes last keys all moved behind =
    let sorted = in_hit_order keys in
    let pushed : IsPermutation all (sorted ++ last ∷ []) =
    IsPermutation-trans _ _ _ (IsPermutation-sym _ _ moved) (IsPermutation-trans _ _ _ (IsPermutation-cons last _ _ (in_hit_order-permutation keys)) (IsPermutation-sym _ _ (IsPermutation-to_front sorted last))) in
    let whole = in_hit_order-unique all (sorted ++ last ∷ []) pushed (in_order-push last sorted (in_hit_order-in_order keys) (along _ keys sorted (in_hit_order-permutation keys) behind)) in
    sym (take-append_seam sorted (last ∷ [])) ∙ ap (λ n. take n (sorted ++ last ∷ [])) (length-in_hit_order keys) ∙ ap (take (length keys)) whole

-- ---- one more key

both_behind : (last key : HitKey) → stands_first last key ≡ true → (keys : List HitKey) → AllByRecursion (λ other. stands_first other last ≡ true) keys → AllByRecursion (λ other. stands_first other key ≡ true) keys
both_behind last key h [] all = tt
both_behind last key h (other ∷ keys) all = (hits_linear.trans other last key all.0 h, both_behind last key h keys all.1)

-- a key that does not stand before the last is not kept
pub stays_out : (key last : HitKey) (keys : List HitKey) → IsUpperBound hit_cmp last keys → stands_first last key ≡ true → in_hit_order keys ≡ take (length keys) (in_hit_order (key ∷ keys))
stays_out key last keys bound h = last_goes key keys (key ∷ keys) (IsPermutation-refl _) (both_behind last key h keys (behind_all last keys bound))

-- a key that stands before the last takes its place
pub takes_place : (key last : HitKey) (keys rest new : List HitKey) → IsPermutation keys (last ∷ rest) → IsUpperBound hit_cmp last rest → stands_first last key ≡ false → IsPermutation (key ∷ rest) new
    → in_hit_order new ≡ take (length keys) (in_hit_order (key ∷ keys))
takes_place key last keys rest new out bound h into =
    let behind = along (λ other. stands_first other last ≡ true) (key ∷ rest) new into (hits_linear.turn last key h, behind_all last rest bound) in
    let all : IsPermutation (last ∷ new) (key ∷ keys) =
    IsPermutation-trans _ _ _ (IsPermutation-cons last _ _ (IsPermutation-sym _ _ into))
    (IsPermutation-trans _ _ _ (IsPermutation-middle (last ∷ []) key rest) (IsPermutation-cons key _ _ (IsPermutation-sym _ _ out))) in
    last_goes last new (key ∷ keys) all behind ∙ ap (λ n. take n (in_hit_order (key ∷ keys))) (length_permutation _ _ into ∙ length_permutation _ _ out)

-- the same of the key that a heap gives up
pub takes_top : (key first : HitKey) (keys rest new : List HitKey) (popped : Option HitKey) → IsSome popped → IfSome popped (λ last. last ≡ get_or keys 0 last)
    → IfSome popped (λ last. IsPermutation keys (last ∷ rest)) → IfSome popped (λ last. IsHeap hit_cmp keys → IsUpperBound hit_cmp last rest) → IsHeap hit_cmp keys
    → first ≡ get_or keys 0 first → stands_first first key ≡ false → IsPermutation (key ∷ rest) new → in_hit_order new ≡ take (length keys) (in_hit_order (key ∷ keys))
takes_top key first keys rest new None some top out bound heap here h into = absurd (true≢false (sym some))
takes_top key first keys rest new (Some last) some top out bound heap here h into =
    let within : 0 < length keys = omega (arith, length_permutation _ _ out) in
    let same : last ≡ first = top ∙ get_or_default keys 0 last first within ∙ sym here in
    takes_place key last keys rest new out (bound heap) (ap (λ other. stands_first other key) same ∙ h) into

-- where there is room all keys are kept
pub all_fit : (keys new : List HitKey) (most : ℕ) → IsPermutation keys new → length keys ≤ most → in_hit_order new ≡ take most (in_hit_order keys)
all_fit keys new most moved few =
    sym (in_hit_order-permuted keys new moved) ∙ sym (take_all most (in_hit_order keys) (subst (λ n. n ≤ most) (sym (length-in_hit_order keys)) few))

-- ---- one key after the other

take-placed : (most : ℕ) (key : HitKey) (keys : List HitKey) → take most (placed key (take most keys)) ≡ take most (placed key keys)
take-placed most key keys = ap (take most) (placed-put key (take most keys)) ∙ take-put hits_linear most key keys ∙ ap (take most) (sym (placed-put key keys))

-- the first of the keys so far and of one more are the first of all
pub first_push : (most : ℕ) (key : HitKey) (kept all new : List HitKey) → in_hit_order kept ≡ take most (in_hit_order all) → in_hit_order new ≡ take most (in_hit_order (key ∷ kept))
    → in_hit_order new ≡ take most (in_hit_order (all ++ key ∷ []))
first_push most key kept all new before after =
    after ∙ ap (λ keys. take most (placed key keys)) before ∙ take-placed most key (in_hit_order all)
    ∙ ap (take most) (in_hit_order-permuted (key ∷ all) (all ++ key ∷ []) (IsPermutation-sym _ _ (IsPermutation-to_front all key)))

-- the first of the first of some keys and of more keys are the first of all
pub first_append : (most : ℕ) (kept all more : List HitKey) → in_hit_order kept ≡ take most (in_hit_order all) → take most (in_hit_order (kept ++ more)) ≡ take most (in_hit_order (all ++ more))
first_append most kept all more before =
    ap (take most) (turned_round kept) ∙ ap (λ keys. take most (put_all stands_first more keys)) before ∙ take-put_all hits_linear most more (in_hit_order all) ∙ ap (take most) (sym (turned_round all))
  where
    turned_round : (keys : List HitKey) → in_hit_order (keys ++ more) ≡ put_all stands_first more (in_hit_order keys)
    turned_round keys =
        in_hit_order-permuted _ _ (IsPermutation-append_comm keys more) ∙ in_hit_order-put_all (more ++ keys) ∙ put_all-append hits_linear more keys [] ∙ ap (put_all stands_first more) (sym (in_hit_order-put_all keys))

-- the first of some keys stay the first of those that are kept of them
in_order-take : (n : ℕ) (keys : List HitKey) → IsInOrder keys → IsInOrder (take n keys)
in_order-take zero keys sorted = tt
in_order-take (suc n) [] sorted = tt
in_order-take (suc n) (key ∷ keys) sorted = (all_first n key keys sorted.0, in_order-take n keys sorted.1)
  where
    all_first : (n : ℕ) (key : HitKey) (keys : List HitKey) → AllByRecursion (λ later. stands_first key later ≡ true) keys → AllByRecursion (λ later. stands_first key later ≡ true) (take n keys)
    all_first zero key keys all = tt
    all_first (suc n) key [] all = tt
    all_first (suc n) key (other ∷ keys) all = (all.0, all_first n key keys all.1)

pub cut_stays : (most : ℕ) (keys : List HitKey) → in_hit_order (take most (in_hit_order keys)) ≡ take most (in_hit_order keys)
cut_stays most keys = in_hit_order-same (take most (in_hit_order keys)) (in_order-take most (in_hit_order keys) (in_hit_order-in_order keys))

-- keys that are kept, and the first of others, have the same first ones as all together
pub merged : (most : ℕ) (kept found others : List HitKey) → in_hit_order found ≡ take most (in_hit_order others)
    → take most (in_hit_order (kept ++ found)) ≡ take most (in_hit_order (in_hit_order kept ++ others))
merged most kept found others h =
    ap (take most) (in_hit_order-permuted _ _ (IsPermutation-append_comm kept found)) ∙ first_append most found others kept h
    ∙ ap (take most) (in_hit_order-permuted _ _ (IsPermutation-append_comm others kept)
    ∙ in_hit_order-permuted _ _ (IsPermutation-append kept (in_hit_order kept) others others (in_hit_order-permutation kept) (IsPermutation-refl others)))

-- ---- one more key of a filtered list

pub filter_in : {X : Type 0} (p : X → Bool) (keys : List X) (key : X) → p key ≡ true → filter p (keys ++ key ∷ []) ≡ filter p keys ++ key ∷ []
filter_in p keys key h = filter-append p keys (key ∷ []) ∙ ap (λ b. filter p keys ++ cond b (key ∷ []) []) h

pub filter_out : {X : Type 0} (p : X → Bool) (keys : List X) (key : X) → p key ≡ false → filter p (keys ++ key ∷ []) ≡ filter p keys
filter_out p keys key h = filter-append p keys (key ∷ []) ∙ ap (λ b. filter p keys ++ cond b (key ∷ []) []) h ∙ append-nil (filter p keys)
