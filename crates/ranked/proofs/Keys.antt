-- Ascending keys, and what a change at a key's place makes of them.
use Rattle.std.proofs.Common.{◌≡◌, ℕ, zero, suc, ◌+◌, ◌-◌, ◌<◌, ◌≤◌, Bool, true, false, cond, ◌||◌, List, [], ◌∷◌, ◌++◌, length, get_or, take, drop, insert, remove, refl, sym, ◌∙◌, ap, subst, inl, inr, arith, add-one, Option, Some, None, IfSome, Result, Ok, Err, IfOk, IfErr, is_ok, slice_get, IsTrue, Ordering, Less, Equal, Greater}
use Rattle.std.specs.Prelude.{All}
use Rattle.std.specs.Ordering.{is_eq, is_gt, match_ordering, ordering_reverse}
use Rattle.std.specs.Cmp.{Equal-is, IsTotalOrder}
use Rattle.std.specs.List.{list_any}
use Rattle.std.specs.List.Sorted.{IsStrictlySortedBy}
use Rattle.std.specs.Set.{remove_key, KeepsOthers}
use Rattle.std.specs.BTreeMap.{is_at}
use Rattle.std.specs.BTreeSet.{insert_key, Updates, IsLowerBound}
use mathlib.Core.Bool.{false≢true}
use Rattle.std.proofs.lemmas.Bool.{cases_lt, or_parts}
use Rattle.std.proofs.lemmas.Cmp.{tied_back, alike_right, tied_itself}
use Rattle.std.proofs.lemmas.List.{take-append-drop, drop_more}
use Rattle.std.proofs.lemmas.List.Edits.{length-insert, length-remove, get_or-insert_below, get_or-insert_at, get_or-insert_above, get_or-remove_below, get_or-remove_above}
use Rattle.std.proofs.lemmas.List.Folds.{list_any-append, list_any_none, list_any_at}
use Rattle.std.proofs.lemmas.List.Elements.{All-head, All-tail}
use Rattle.std.proofs.lemmas.Option.{none-some, same_Some, IfSome_then}
use Rattle.std.specs.Borrow.{Bor}
use Rattle.std.specs.Option.{option_copied}
use Rattle.std.specs.BTreeMap.Range.{IsLeBy}
use Rattle.std.proofs.lemmas.Map.Keys.{any_passes_from_place, Less-from_sorted, sorted_from_all_adjacent}
use Rattle.ranked.specs.Ranks.{IsFoundAt, IsGapFor}

is_eq-reverse : (r : Ordering) → is_eq (ordering_reverse r) ≡ is_eq r
is_eq-reverse Less = refl
is_eq-reverse Equal = refl
is_eq-reverse Greater = refl

-- where no key passes, none is taken
remove_key_none : {K : Type 0} (test : K → Bool) (keys : List K) → list_any test keys ≡ false → remove_key test keys ≡ keys
remove_key_none test [] none = refl
remove_key_none test (x ∷ xs) none =
    let parts = or_parts (test x) (list_any test xs) none in
    ap (λ b. cond b xs (x ∷ remove_key test xs)) parts.0 ∙ ap (λ l. x ∷ l) (remove_key_none test xs parts.1)

-- an answer that is less says that the other way round it is greater
module _ {K : Type 0} {cmp : K → K → Ordering} (laws : IsTotalOrder cmp) where
  pub greater_back : (x y : K) → cmp x y ≡ Less → cmp y x ≡ Greater
  greater_back x y less = laws.antisymm y x ∙ ap ordering_reverse less

  pub less_back : (x y : K) → cmp x y ≡ Greater → cmp y x ≡ Less
  less_back x y greater = laws.antisymm y x ∙ ap ordering_reverse greater

  module _ (keys : List K) (sorted : IsStrictlySortedBy cmp keys) (k : K) (i : ℕ) where
    -- a key that is equal to k is found
    pub found_from_equal : i < length keys → ((d : K) → cmp (get_or keys i d) k ≡ Equal) → IsFoundAt cmp keys k i
    found_from_equal low here = record {
      in_range = low;
      below = λ j d less. sym (alike_right laws (get_or keys i d) k (get_or keys j d) (here d)) ∙ Less-from_sorted cmp keys j i d sorted less low;
      here = here;
      above = λ j d more high. sym (alike_right laws (get_or keys i d) k (get_or keys j d) (here d)) ∙ greater_back (get_or keys i d) (get_or keys j d) (Less-from_sorted cmp keys i j d sorted more high);
    }

    -- k goes between two neighbours
    pub gap_from_neighbours : i ≤ length keys → ((d : K) → 0 < i → cmp (get_or keys (i - 1) d) k ≡ Less) → ((d : K) → i < length keys → cmp (get_or keys i d) k ≡ Greater) → IsGapFor cmp keys k i
    gap_from_neighbours low before after = record {
      in_range = low;
      below = λ j d less. elim (cases_lt j (i - 1)) [
        | inl far ↦ laws.trans (get_or keys j d) (get_or keys (i - 1) d) k (Less-from_sorted cmp keys j (i - 1) d sorted far (omega arith)) (before d (omega arith))
        | inr near ↦ subst (λ q. cmp (get_or keys q d) k ≡ Less) (let same : i - 1 ≡ j = omega arith in same) (before d (omega arith))
      ];
      above = λ j d more high. elim (cases_lt i j) [
        | inl far ↦ greater_back k (get_or keys j d) (laws.trans k (get_or keys i d) (get_or keys j d) (less_back (get_or keys i d) k (after d (omega arith))) (Less-from_sorted cmp keys i j d sorted far high))
        | inr near ↦ subst (λ q. cmp (get_or keys q d) k ≡ Greater) (let same : i ≡ j = omega arith in same) (after d (omega arith))
      ];
    }

  -- an answer and the one the other way round are both equal, or neither is
  pub is_eq_back : (x y : K) → is_eq (cmp x y) ≡ is_eq (cmp y x)
  is_eq_back x y = ap is_eq (laws.antisymm x y) ∙ is_eq-reverse (cmp y x)

  module _ (k : K) where
    -- what is not between k and itself is not k
    not_at : (x : K) (r : Ordering) → is_eq r ≡ false → cmp x k ≡ r → is_at (cmp k) x ≡ false
    not_at x r other is = is_eq_back k x ∙ ap is_eq is ∙ other

    is_there : (x : K) → cmp x k ≡ Equal → is_at (cmp k) x ≡ true
    is_there x is = is_eq_back k x ∙ ap is_eq is

    gap_tail : (x : K) (xs : List K) (i : ℕ) → IsGapFor cmp (x ∷ xs) k (suc i) → IsGapFor cmp xs k i
    gap_tail x xs i gap = record {
      in_range = omega (arith, gap.in_range);
      below = λ j d less. gap.below (suc j) d (omega arith);
      above = λ j d more high. gap.above (suc j) d (omega arith) (omega arith);
    }

    found_tail : (x : K) (xs : List K) (i : ℕ) → IsFoundAt cmp (x ∷ xs) k (suc i) → IsFoundAt cmp xs k i
    found_tail x xs i found = record {
      in_range = omega (arith, found.in_range);
      below = λ j d less. found.below (suc j) d (omega arith);
      here = found.here;
      above = λ j d more high. found.above (suc j) d (omega arith) (omega arith);
    }

    -- a key that has a gap is put there
    pub insert_key_gap : (keys : List K) (i : ℕ) → IsGapFor cmp keys k i → insert_key cmp keys k ≡ insert keys i k
    insert_key_gap [] zero gap = refl
    insert_key_gap [] (suc i) gap = absurd (omega (arith, gap.in_range))
    insert_key_gap (x ∷ xs) zero gap = ap (λ r. match_ordering r (k ∷ x ∷ xs) (x ∷ xs) (x ∷ insert_key cmp xs k)) (less_back x k (gap.above 0 k (omega arith) (omega arith)))
    insert_key_gap (x ∷ xs) (suc i) gap = ap (λ r. match_ordering r (k ∷ x ∷ xs) (x ∷ xs) (x ∷ insert_key cmp xs k)) (greater_back x k (gap.below 0 k (omega arith))) ∙ ap (λ l. x ∷ l) (insert_key_gap xs i (gap_tail x xs i gap))

    -- one that is found is not put again
    pub insert_key_found : (keys : List K) (i : ℕ) → IsFoundAt cmp keys k i → insert_key cmp keys k ≡ keys
    insert_key_found [] i found = absurd (omega (arith, found.in_range))
    insert_key_found (x ∷ xs) zero found = ap (λ r. match_ordering r (k ∷ x ∷ xs) (x ∷ xs) (x ∷ insert_key cmp xs k)) (tied_back laws x k (found.here k))
    insert_key_found (x ∷ xs) (suc i) found = ap (λ r. match_ordering r (k ∷ x ∷ xs) (x ∷ xs) (x ∷ insert_key cmp xs k)) (greater_back x k (found.below 0 k (omega arith))) ∙ ap (λ l. x ∷ l) (insert_key_found xs i (found_tail x xs i found))

    pub remove_key_found : (keys : List K) (i : ℕ) → IsFoundAt cmp keys k i → remove_key (is_at (cmp k)) keys ≡ remove keys i
    remove_key_found [] i found = absurd (omega (arith, found.in_range))
    remove_key_found (x ∷ xs) zero found = ap (λ b. cond b xs (x ∷ remove_key (is_at (cmp k)) xs)) (is_there x (found.here k))
    remove_key_found (x ∷ xs) (suc i) found = ap (λ b. cond b xs (x ∷ remove_key (is_at (cmp k)) xs)) (not_at x Less refl (found.below 0 k (omega arith))) ∙ ap (λ l. x ∷ l) (remove_key_found xs i (found_tail x xs i found))

    module _ (keys : List K) (i : ℕ) (gap : IsGapFor cmp keys k i) where
      -- a key that has a gap is none of the keys
      pub contains_gap : list_any (is_at (cmp k)) keys ≡ false
      contains_gap = list_any_none (is_at (cmp k)) keys (λ j d low. elim (cases_lt j i) [
        | inl less ↦ not_at (get_or keys j d) Less refl (gap.below j d less)
        | inr more ↦ not_at (get_or keys j d) Greater refl (gap.above j d more low)
      ])

      pub sorted_inserted : IsStrictlySortedBy cmp keys → IsStrictlySortedBy cmp (insert keys i k)
      sorted_inserted sorted =
          let low = gap.in_range in
          let long = length-insert keys i k gap.in_range in
          sorted_from_all_adjacent laws (insert keys i k) k (λ m within. elim (cases_lt m i) [
            | inl less ↦ elim (cases_lt (m + 1) i) [
              | inl far ↦ ap (λ y. cmp y (get_or (insert keys i k) (m + 1) k)) (get_or-insert_below keys i k k m less low) ∙ ap (cmp (get_or keys m k)) (get_or-insert_below keys i k k (m + 1) far low) ∙ Less-from_sorted cmp keys m (m + 1) k sorted (omega arith) (omega arith)
              | inr near ↦
                  let here : m + 1 ≡ i = omega arith in
                  ap (λ y. cmp y (get_or (insert keys i k) (m + 1) k)) (get_or-insert_below keys i k k m less low) ∙ ap (λ q. cmp (get_or keys m k) (get_or (insert keys i k) q k)) here ∙ ap (cmp (get_or keys m k)) (get_or-insert_at keys i k k low) ∙ gap.below m k less
            ]
            | inr more ↦ elim (cases_lt i m) [
              | inl far ↦
                  let first : m - 1 + 1 ≡ m = omega arith in
                  let one = subst (λ q. get_or (insert keys i k) q k ≡ get_or keys (m - 1) k) first (get_or-insert_above keys i k k (m - 1) (omega arith) low) in
                  ap (λ y. cmp y (get_or (insert keys i k) (m + 1) k)) one ∙ ap (cmp (get_or keys (m - 1) k)) (get_or-insert_above keys i k k m more low) ∙ Less-from_sorted cmp keys (m - 1) m k sorted (omega arith) (omega arith)
              | inr near ↦
                  let here : m ≡ i = omega arith in
                  let one = subst (λ q. get_or (insert keys i k) q k ≡ k) (sym here) (get_or-insert_at keys i k k low) in
                  ap (λ y. cmp y (get_or (insert keys i k) (m + 1) k)) one ∙ ap (cmp k) (get_or-insert_above keys i k k m more low) ∙ less_back (get_or keys m k) k (gap.above m k more (omega arith))
            ]
          ])

    module _ (keys : List K) (i : ℕ) (found : IsFoundAt cmp keys k i) where
      pub contains_found : list_any (is_at (cmp k)) keys ≡ true
      contains_found = list_any_at (is_at (cmp k)) keys i k found.in_range (is_there (get_or keys i k) (found.here k))

      -- without it the others still differ from k
      pub contains_removed : list_any (is_at (cmp k)) (remove keys i) ≡ false
      contains_removed =
          let low = found.in_range in
          let long = length-remove keys i low in
          list_any_none (is_at (cmp k)) (remove keys i) (λ j d within. elim (cases_lt j i) [
            | inl less ↦ not_at _ Less refl (ap (λ y. cmp y k) (get_or-remove_below keys i d j less low) ∙ found.below j d less)
            | inr more ↦ not_at _ Greater refl (ap (λ y. cmp y k) (get_or-remove_above keys i d j more low) ∙ found.above (j + 1) d (omega arith) (omega arith))
          ])

      pub sorted_removed : IsStrictlySortedBy cmp keys → IsStrictlySortedBy cmp (remove keys i)
      sorted_removed sorted =
          let low = found.in_range in
          let long = length-remove keys i low in
          sorted_from_all_adjacent laws (remove keys i) k (λ m within. elim (cases_lt m i) [
            | inl less ↦ elim (cases_lt (m + 1) i) [
              | inl far ↦ ap (λ y. cmp y (get_or (remove keys i) (m + 1) k)) (get_or-remove_below keys i k m less low) ∙ ap (cmp (get_or keys m k)) (get_or-remove_below keys i k (m + 1) far low) ∙ Less-from_sorted cmp keys m (m + 1) k sorted (omega arith) (omega arith)
              | inr near ↦ ap (λ y. cmp y (get_or (remove keys i) (m + 1) k)) (get_or-remove_below keys i k m less low) ∙ ap (cmp (get_or keys m k)) (get_or-remove_above keys i k (m + 1) near low) ∙ Less-from_sorted cmp keys m (m + 1 + 1) k sorted (omega arith) (omega arith)
            ]
            | inr more ↦ ap (λ y. cmp y (get_or (remove keys i) (m + 1) k)) (get_or-remove_above keys i k m more low) ∙ ap (cmp (get_or keys (m + 1) k)) (get_or-remove_above keys i k (m + 1) (omega arith) low) ∙ Less-from_sorted cmp keys (m + 1) (m + 1 + 1) k sorted (omega arith) (omega arith)
          ])

    -- what a change at k alone does, in the words of the clause `updates`
    module _ (old new : List K) (b : Bool) (this : list_any (is_at (cmp k)) new ≡ b) (others : (p : K → Bool) → ((x : K) → is_at (cmp k) x ≡ true → p x ≡ false) → list_any p new ≡ list_any p old) where
      other_key : (q : K) → is_at (cmp k) q ≡ false → list_any (is_at (cmp q)) new ≡ list_any (is_at (cmp q)) old
      other_key q apart = others (is_at (cmp q)) (λ x same. ap is_eq (sym (alike_right laws k x q ((Equal-is (cmp k x)).0 same))) ∙ is_eq_back q k ∙ apart)

      same_key : (q : K) → cmp k q ≡ Equal → list_any (is_at (cmp q)) new ≡ b
      same_key q same = sym (λ j. list_any (λ x. is_eq (laws.congr k q x same j)) new) ∙ this

      pub updates_at : Updates cmp (record { keys = old }) (record { keys = new }) k b
      unfolding KeepsOthers
      updates_at = (λ q. by q (is_at (cmp k) q) refl, this, other_key, λ other test apart. others other apart)
        where
          by : (q : K) (t : Bool) → is_at (cmp k) q ≡ t → list_any (is_at (cmp q)) new ≡ cond t b (list_any (is_at (cmp q)) old)
          by q true t = same_key q ((Equal-is (cmp k q)).0 t)
          by q false t = other_key q t

    module _ (keys : List K) (i : ℕ) where
      others_inserted : (p : K → Bool) → ((x : K) → is_at (cmp k) x ≡ true → p x ≡ false) → list_any p (insert keys i k) ≡ list_any p keys
      others_inserted p apart =
          list_any-append p (take i keys) (k ∷ drop i keys)
          ∙ ap (λ b. list_any p (take i keys) || (b || list_any p (drop i keys))) (apart k (ap is_eq (tied_itself laws k)))
          ∙ sym (list_any-append p (take i keys) (drop i keys))
          ∙ ap (list_any p) (take-append-drop i keys)

      -- a key that has a gap is put there
      pub updates_inserted : IsGapFor cmp keys k i → Updates cmp (record { keys = keys }) (record { keys = insert keys i k }) k true
      updates_inserted gap =
          let long = length-insert keys i k gap.in_range in
          let there : list_any (is_at (cmp k)) (insert keys i k) ≡ true = list_any_at (is_at (cmp k)) (insert keys i k) i k (omega (arith, gap.in_range)) (ap (is_at (cmp k)) (get_or-insert_at keys i k k gap.in_range) ∙ ap is_eq (tied_itself laws k)) in
          updates_at keys (insert keys i k) true there others_inserted

      -- one that is there stays
      pub updates_found : IsFoundAt cmp keys k i → Updates cmp (record { keys = keys }) (record { keys = keys }) k true
      updates_found found = updates_at keys keys true (contains_found keys i found) (λ p apart. refl)

      -- one that is not there is not taken
      pub updates_absent : IsGapFor cmp keys k i → Updates cmp (record { keys = keys }) (record { keys = keys }) k false
      updates_absent gap = updates_at keys keys false (contains_gap keys i gap) (λ p apart. refl)

      -- one that is there is taken
      pub updates_removed : IsFoundAt cmp keys k i → Updates cmp (record { keys = keys }) (record { keys = remove keys i }) k false
      updates_removed found = updates_at keys (remove keys i) false (contains_removed keys i found) (λ p apart.
          list_any-append p (take i keys) (drop (suc i) keys)
          ∙ ap (λ b. list_any p (take i keys) || (b || list_any p (drop (suc i) keys))) (sym (apart (get_or keys i k) (is_there (get_or keys i k) (found.here k))))
          ∙ sym (list_any-append p (take i keys) (get_or keys i k ∷ drop (suc i) keys))
          ∙ ap (list_any p) (ap (λ rest. take i keys ++ rest) (sym (rw (← add-one i) (drop_more keys i k found.in_range))) ∙ take-append-drop i keys))

      pub remove_key_gap : IsGapFor cmp keys k i → remove_key (is_at (cmp k)) keys ≡ keys
      remove_key_gap gap = remove_key_none (is_at (cmp k)) keys (contains_gap keys i gap)

    -- what a search answers is whether the key is there
    pub contains_answer : {A E : Type 0} (keys : List K) (place : A → ℕ) (gap : E → ℕ) (r : Result A E) → IfOk r (λ a. IsFoundAt cmp keys k (place a)) → IfErr r (λ e. IsGapFor cmp keys k (gap e)) → is_ok r ≡ list_any (is_at (cmp k)) keys
    contains_answer keys place gap (Ok a) found absent = sym (contains_found keys (place a) found)
    contains_answer keys place gap (Err e) found absent = sym (contains_gap keys (gap e) absent)

  -- a key that is lent is one of the keys
  pub lent_is_member : (keys : List K) (n : ℕ) (r : Option (Bor K)) → option_copied r ≡ slice_get keys n → IfSome r (λ x. IsTrue (list_any (is_at (cmp x.now)) keys))
  lent_is_member keys n None found = tt
  lent_is_member keys n (Some x) found = any_passes_from_place (is_at (cmp x.now)) keys n x.now (sym found) (ap is_eq (tied_itself laws x.now))

  -- what is not above each key is not above what is equal to one
  below_members : (x q : K) (keys : List K) → All (IsLeBy cmp x) keys → list_any (is_at (cmp q)) keys ≡ true → is_gt (cmp x q) ≡ false
  below_members x q [] all any = absurd (false≢true any)
  below_members x q (y ∷ ys) all any = by (below_members x q ys (All-tail (IsLeBy cmp x) y ys all)) (is_at (cmp q) y) refl any
    where
      by : (list_any (is_at (cmp q)) ys ≡ true → is_gt (cmp x q) ≡ false) → (b : Bool) → is_at (cmp q) y ≡ b → (b || list_any (is_at (cmp q)) ys) ≡ true → is_gt (cmp x q) ≡ false
      by rest true same more = ap is_gt (alike_right laws q y x ((Equal-is (cmp q y)).0 same)) ∙ All-head (IsLeBy cmp x) y ys all
      by rest false other more = rest more

  -- the first key is not above any
  pub all_from_first : (keys : List K) → IsStrictlySortedBy cmp keys → (r : Option (Bor K)) → option_copied r ≡ slice_get keys 0 → IfSome r (λ x. All (IsLeBy cmp x.now) keys)
  all_from_first keys sorted None found = tt
  all_from_first [] sorted (Some x) found = absurd (none-some x.now (sym found))
  all_from_first (y ∷ ys) sorted (Some x) found =
      let first : x.now ≡ y = same_Some x.now y found in
      λ j d low. elim (cases_lt 0 j) [
        | inl later ↦ ap (λ z. is_gt (cmp z (get_or (y ∷ ys) j d))) first ∙ ap is_gt (Less-from_sorted cmp (y ∷ ys) 0 j d sorted later low)
        | inr now ↦ subst (λ q. is_gt (cmp x.now (get_or (y ∷ ys) q d)) ≡ false) (let zero' : 0 ≡ j = omega arith in zero') (ap (λ z. is_gt (cmp z y)) first ∙ ap is_gt (tied_itself laws y))
      ]

  pub first_is_least : (keys : List K) → IsStrictlySortedBy cmp keys → (r : Option (Bor K)) → option_copied r ≡ slice_get keys 0 → IfSome r (λ x. IsLowerBound cmp (record { keys = keys }) x.now)
  first_is_least keys sorted r found = IfSome_then r (all_from_first keys sorted r found) (λ x all q there. below_members x.now q keys all there)
