-- What a search in pieces of ascending keys finds.
use Rattle.std.proofs.Common.{◌≡◌, ℕ, ◌+◌, ◌-◌, ◌<◌, ◌≤◌, true, false, List, [], ◌∷◌, ◌++◌, length, get_or, take, drop, zero-add, refl, sym, ◌∙◌, ap, subst, inl, inr, arith, Ordering, Less, Equal, Greater, length-append}
use Rattle.std.specs.Ordering.{is_lt, ordering_index}
use Rattle.std.specs.Cmp.{IsTotalOrder}
use Rattle.std.specs.List.{AllWithin}
use Rattle.std.specs.List.Sorted.{IsStrictlySortedBy, IsPartitionedBy, IsPartitionPoint, IsNonDecreasingBy}
use Rattle.std.proofs.lemmas.Bool.{cases_lt}
use mathlib.Core.Bool.{false≢true}
use Rattle.std.proofs.lemmas.List.{append-nil, take_more, take-take, get_or_default, take_all, take-append-drop}
use Rattle.std.proofs.lemmas.List.Concat.{flat_map-append, get_or-flat_map}
use Rattle.std.proofs.lemmas.List.Folds.{length-flat_map-take}
use Rattle.std.proofs.lemmas.List.Sorted.{searchable_from_sorted}
use Rattle.std.proofs.lemmas.Map.Keys.{Less-from_sorted, sorted_from_all_adjacent}
use Rattle.ranked.specs.Pieces.{joined, piece_at, AreFilled}
use Rattle.ranked.specs.Ranks.{ends_below, IsFoundAt, IsGapFor}
use Rattle.ranked.proofs.Joined.{joined_push}
use Rattle.ranked.proofs.Keys.{greater_back, found_from_equal, gap_from_neighbours}

-- how many items lie before a piece
abbrev pub offset : {X : Type 0} → List (List X) → ℕ → ℕ
offset pieces i = length (joined (take i pieces))

module _ {X : Type 0} (pieces : List (List X)) where
  pub offset_next : (i : ℕ) → i < length pieces → offset pieces (i + 1) ≡ offset pieces i + length (piece_at pieces i)
  offset_next i low = ap length (ap joined (take_more pieces i [] low) ∙ joined_push (take i pieces) (piece_at pieces i)) ∙ length-append (joined (take i pieces)) (piece_at pieces i)

  pub offset_rises : (i j : ℕ) → i ≤ j → offset pieces i ≤ offset pieces j
  offset_rises i j low =
      let whole : joined (take j pieces) ≡ joined (take i pieces) ++ joined (drop i (take j pieces)) =
      ap joined (sym (take-append-drop i (take j pieces)) ∙ ap (λ front. front ++ drop i (take j pieces)) (take-take i j pieces low)) ∙ flat_map-append (λ (p : List X). p) (take i pieces) (drop i (take j pieces)) in
      omega (arith, ap length whole, length-append (joined (take i pieces)) (joined (drop i (take j pieces))))

  pub offset_all : (i : ℕ) → i ≡ length pieces → offset pieces i ≡ length (joined pieces)
  offset_all i all = ap (λ ps. length (joined ps)) (take_all i pieces (omega arith))

  -- the items of a piece follow those before it
  pub item_at : (i : ℕ) → i < length pieces → (m : ℕ) (d : X) → m < length (piece_at pieces i) → get_or (joined pieces) (offset pieces i + m) d ≡ get_or (piece_at pieces i) m d
  item_at i low m d within = get_or-flat_map (λ (p : List X). p) pieces i m [] d low within

  pub items_fit : (i : ℕ) → i < length pieces → offset pieces i + length (piece_at pieces i) ≤ length (joined pieces)
  items_fit i low = length-flat_map-take (λ (p : List X). p) pieces i [] low

less_if_lt : (r : Ordering) → is_lt r ≡ true → r ≡ Less
less_if_lt Less is = refl
less_if_lt Equal is = absurd (false≢true is)
less_if_lt Greater is = absurd (false≢true is)

module _ {K : Type 0} {cmp : K → K → Ordering} (laws : IsTotalOrder cmp) (pieces : List (List K)) (all : AreFilled pieces) (sorted : IsStrictlySortedBy cmp (joined pieces)) (k : K) where
  -- whether a piece ends below k, by its last key
  ends_is : (p : List K) (d : K) → 1 ≤ length p → ends_below cmp k p ≡ is_lt (cmp (get_or p (length p - 1) d) k)
  ends_is [] d low = absurd (omega arith)
  ends_is (x ∷ xs) d low = ap (λ y. is_lt (cmp y k)) (get_or_default (x ∷ xs) (length (x ∷ xs) - 1) x d (omega arith))

  last_is : (i : ℕ) (d : K) → i < length pieces → get_or (joined pieces) (offset pieces (i + 1) - 1) d ≡ get_or (piece_at pieces i) (length (piece_at pieces i) - 1) d
  last_is i d low =
      let some = all i [] low in
      let place : offset pieces (i + 1) - 1 ≡ offset pieces i + (length (piece_at pieces i) - 1) = omega (arith, offset_next pieces i low) in
      ap (λ q. get_or (joined pieces) q d) place ∙ item_at pieces i low (length (piece_at pieces i) - 1) d (omega arith)

  last_below : (i : ℕ) (d : K) → i < length pieces → ends_below cmp k (piece_at pieces i) ≡ true → cmp (get_or (joined pieces) (offset pieces (i + 1) - 1) d) k ≡ Less
  last_below i d low ends =
      let some = all i [] low in
      ap (λ y. cmp y k) (last_is i d low) ∙ less_if_lt _ (sym (ends_is (piece_at pieces i) d (omega arith)) ∙ ends)

  sorted_piece : (i : ℕ) → i < length pieces → IsStrictlySortedBy cmp (piece_at pieces i)
  sorted_piece i low = sorted_from_all_adjacent laws (piece_at pieces i) k (λ m within.
      let fit = items_fit pieces i low in
      let next : offset pieces i + m < offset pieces i + (m + 1) = omega arith in
      let one = item_at pieces i low m k (omega arith) in
      let two = item_at pieces i low (m + 1) k within in
      ap (λ y. cmp y (get_or (piece_at pieces i) (m + 1) k)) (sym one) ∙ ap (cmp (get_or (joined pieces) (offset pieces i + m) k)) (sym two) ∙ Less-from_sorted cmp (joined pieces) (offset pieces i + m) (offset pieces i + (m + 1)) k sorted next (omega arith))

  -- the pieces that end below k come first
  pub ends_fall : IsPartitionedBy (ends_below cmp k) pieces
  ends_fall i j d low high ends = elim (cases_lt i j) [
    | inl before ↦
        let there : ends_below cmp k (piece_at pieces j) ≡ true = ap (ends_below cmp k) (get_or_default pieces j [] d high) ∙ ends in
        let some = all i [] (omega arith) in
        let fits = items_fit pieces j high in
        let some_there = all j [] high in
        let next = offset_next pieces j high in
        let first = offset_next pieces i (omega arith) in
        let rises = offset_rises pieces (i + 1) j (omega arith) in
        let less : cmp (get_or (joined pieces) (offset pieces (i + 1) - 1) k) k ≡ Less =
        laws.trans _ _ _ (Less-from_sorted cmp (joined pieces) (offset pieces (i + 1) - 1) (offset pieces (j + 1) - 1) k sorted (omega arith) (omega arith)) (last_below j k high there) in
        ap (ends_below cmp k) (get_or_default pieces i d [] (omega arith)) ∙ ends_is (piece_at pieces i) k (omega arith) ∙ ap (λ y. is_lt (cmp y k)) (sym (last_is i k (omega arith))) ∙ ap is_lt less
    | inr same ↦ subst (λ q. ends_below cmp k (get_or pieces q d) ≡ true) (let one : j ≡ i = omega arith in one) ends
  ]

  module _ (at_piece : ℕ) (before : AllWithin (λ p. ends_below cmp k p ≡ true) pieces 0 at_piece) where
    -- the key before the place is smaller
    smaller_before : at_piece ≤ length pieces → (d : K) → 0 < offset pieces at_piece → cmp (get_or (joined pieces) (offset pieces at_piece - 1) d) k ≡ Less
    smaller_before low d some = elim (cases_lt 0 at_piece) [
      | inl more ↦
          let again : at_piece - 1 + 1 ≡ at_piece = omega arith in
          subst (λ q. cmp (get_or (joined pieces) (offset pieces q - 1) d) k ≡ Less) again (last_below (at_piece - 1) d (omega arith) (before (at_piece - 1) [] (omega arith) (omega arith)))
      | inr none ↦ absurd (let zero : at_piece ≡ 0 = omega arith in let no : offset pieces at_piece ≡ 0 = ap (offset pieces) zero in omega arith)
    ]

    -- all keys are smaller
    pub absent_past : at_piece ≡ length pieces → IsGapFor cmp (joined pieces) k (length (joined pieces))
    absent_past end =
        let whole = offset_all pieces at_piece end in
        subst (IsGapFor cmp (joined pieces) k) whole (gap_from_neighbours laws (joined pieces) sorted k (offset pieces at_piece) (omega arith) (smaller_before (omega arith)) (λ d low. absurd (omega arith)))

    module _ (low : at_piece < length pieces) where
      fit : offset pieces at_piece + length (piece_at pieces at_piece) ≤ length (joined pieces)
      fit = items_fit pieces at_piece low

      pub found_there : (place : ℕ) → place < length (piece_at pieces at_piece) → ((d : K) → cmp (get_or (piece_at pieces at_piece) place d) k ≡ Equal) → IsFoundAt cmp (joined pieces) k (offset pieces at_piece + place)
      found_there place within here =
          let fits = fit in
          found_from_equal laws (joined pieces) sorted k (offset pieces at_piece + place) (omega arith) (λ d. ap (λ y. cmp y k) (item_at pieces at_piece low place d within) ∙ here d)

      rises : IsNonDecreasingBy (λ y. ordering_index (cmp y k)) (piece_at pieces at_piece)
      rises = searchable_from_sorted laws (λ y. y) (piece_at pieces at_piece) k (λ m d _ within. ap is_lt (greater_back laws _ _ (Less-from_sorted cmp (piece_at pieces at_piece) m (m + 1) d (sorted_piece at_piece low) (omega arith) within)))

      module _ (ends : ends_below cmp k (piece_at pieces at_piece) ≡ false) (place : ℕ) (within : place ≤ length (piece_at pieces at_piece))
          (parted : IsNonDecreasingBy (λ y. ordering_index (cmp y k)) (piece_at pieces at_piece) → IsPartitionPoint (λ y. cmp y k ≡ Less) (λ y. cmp y k ≡ Greater) (piece_at pieces at_piece) place) where
        -- a key of the piece comes after it
        pub inside_there : place < length (piece_at pieces at_piece)
        inside_there =
            let p = piece_at pieces at_piece in
            let parts = parted rises in
            let some = all at_piece [] low in
            elim (cases_lt place (length p)) [
              | inl less ↦ less
              | inr past ↦ absurd (false≢true (sym ends ∙ ends_is p k (omega arith) ∙ ap is_lt (parts.0 (length p - 1) k (omega arith) (omega arith))))
            ]

        pub absent_there : IsGapFor cmp (joined pieces) k (offset pieces at_piece + place)
        absent_there =
            let p = piece_at pieces at_piece in
            let fits = fit in
            let parts = parted rises in
            let inside = inside_there in
            gap_from_neighbours laws (joined pieces) sorted k (offset pieces at_piece + place) (omega arith)
            (λ d more. elim (cases_lt 0 place) [
              | inl later ↦
                  let there : offset pieces at_piece + place - 1 ≡ offset pieces at_piece + (place - 1) = omega arith in
                  ap (λ q. cmp (get_or (joined pieces) q d) k) there ∙ ap (λ y. cmp y k) (item_at pieces at_piece low (place - 1) d (omega arith)) ∙ parts.0 (place - 1) d (omega arith) (omega arith)
              | inr first ↦
                  let there : offset pieces at_piece + place - 1 ≡ offset pieces at_piece - 1 = omega arith in
                  ap (λ q. cmp (get_or (joined pieces) q d) k) there ∙ smaller_before (omega arith) d (omega arith)
            ])
            (λ d more. ap (λ y. cmp y k) (item_at pieces at_piece low place d inside) ∙ parts.1 place d (omega arith) inside)

-- the items of a piece that is alone
pub joined_alone : {X : Type 0} (pieces : List (List X)) → length pieces ≡ 1 → joined pieces ≡ piece_at pieces 0
joined_alone [] one = absurd (omega arith)
joined_alone (p ∷ []) one = append-nil p
joined_alone (p ∷ q ∷ ps) one = absurd (omega arith)

module _ {K : Type 0} {cmp : K → K → Ordering} (laws : IsTotalOrder cmp) (pieces : List (List K)) (one : length pieces ≡ 1) (sorted : IsStrictlySortedBy cmp (joined pieces)) (k : K) where
  alone_sorted : IsStrictlySortedBy cmp (piece_at pieces 0)
  alone_sorted = subst (IsStrictlySortedBy cmp) (joined_alone pieces one) sorted

  pub found_alone : (place : ℕ) → place < length (piece_at pieces 0) → ((d : K) → cmp (get_or (piece_at pieces 0) place d) k ≡ Equal) → IsFoundAt cmp (joined pieces) k (offset pieces 0 + place)
  found_alone place within here = subst (λ keys. IsFoundAt cmp keys k (0 + place)) (sym (joined_alone pieces one)) (subst (IsFoundAt cmp (piece_at pieces 0) k) (sym (zero-add place)) (found_from_equal laws (piece_at pieces 0) alone_sorted k place within here))

  pub absent_alone : (place : ℕ) → place ≤ length (piece_at pieces 0)
      → (IsNonDecreasingBy (λ y. ordering_index (cmp y k)) (piece_at pieces 0) → IsPartitionPoint (λ y. cmp y k ≡ Less) (λ y. cmp y k ≡ Greater) (piece_at pieces 0) place)
      → IsGapFor cmp (joined pieces) k (offset pieces 0 + place)
  absent_alone place within parted =
      let keys = piece_at pieces 0 in
      let parts = parted (searchable_from_sorted laws (λ y. y) keys k (λ m d _ high. ap is_lt (greater_back laws _ _ (Less-from_sorted cmp keys m (m + 1) d alone_sorted (omega arith) high)))) in
      subst (λ ks. IsGapFor cmp ks k (0 + place)) (sym (joined_alone pieces one)) (record {
        in_range = omega arith;
        below = λ j d less. parts.0 j d (omega arith) (omega arith);
        above = λ j d more high. parts.1 j d (omega arith) high;
      })
