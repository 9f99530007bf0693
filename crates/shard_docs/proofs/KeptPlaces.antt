-- Where the rows of places stand among those that are kept.
use Rattle.std.proofs.Common.{◌≡◌, ℕ, zero, suc, ◌+◌, ◌-◌, ◌<◌, ◌≤◌, Bool, true, false, cond, ltb, List, [], ◌∷◌, length, drop, find, get_or, Some, option_map, refl, sym, ap, subst, ◌∙◌, arith, ◌⊎◌, inl, inr}
use Rattle.std.proofs.lemmas.Bool.{cases_lt, ltb-true, ltb-false}
use Rattle.std.proofs.lemmas.Option.{slice_get_within, get_or_from_slice_get}
use Rattle.std.specs.List.{slice_get}
use Rattle.std.specs.List.Sorted.{IsPartitionPoint, IsNonDecreasingBy}
use Rattle.shard_docs.specs.declared.rows.StoredRow.{StoredRow}
use Rattle.shard_docs.specs.KeptRows.{AreKept, below, seen, seen_at, first_seen}
use Rattle.shard_docs.proofs.KeptLemmas.{is_kept, below_more, below_none, end_of, seen_here, seen_before}

-- each stands at its place or before it
pub at_least : (o from i : ℕ) (rows : List StoredRow) (d : StoredRow) → AreKept o from rows → i < length rows → from + i ≤ (get_or rows i d).place
at_least o from i [] d are h = absurd (omega arith)
at_least o from zero (row ∷ later) d (at, are) h = let behind = at.behind in omega arith
at_least o from (suc i) (row ∷ later) d (at, are) h = let behind = at.behind in let low = at_least o (suc row.place) i later d are (omega arith) in omega arith

pub rising : (o from : ℕ) (rows : List StoredRow) → AreKept o from rows → IsNonDecreasingBy (λ (r : StoredRow). r.place) rows
rising o from [] are i j d low within = absurd (omega arith)
rising o from (row ∷ later) (at, are) zero zero d low within = omega arith
rising o from (row ∷ later) (at, are) zero (suc j) d low within = let above = at_least o (suc row.place) j later d are (omega arith) in omega arith
rising o from (row ∷ later) (at, are) (suc i) zero d low within = absurd (omega arith)
rising o from (row ∷ later) (at, are) (suc i) (suc j) d low within = rising o (suc row.place) later are i j d (omega arith) (omega arith)

-- where none was swept out before it, it stands at its place
pub direct : (o from i : ℕ) (rows : List StoredRow) (row : StoredRow) → AreKept o from rows → slice_get rows i ≡ Some row → row.place ≡ from + i → i ≡ below row.place rows
direct o from i [] row are here e = absurd cc
direct o from zero (first ∷ later) row (at, are) here e =
    let same : first ≡ row = cc in sym (below_none row.place first later (subst (λ (r : StoredRow). row.place ≤ r.place) (sym same) (omega arith)))
direct o from (suc i) (first ∷ later) row (at, are) here e =
    let behind = at.behind in
    let within = slice_get_within later i row here in
    let found : get_or later i row ≡ row = get_or_from_slice_get later i row row here in
    let above = at_least o (suc first.place) i later row are within in
    let high : suc first.place + i ≤ row.place = subst (λ (r : StoredRow). suc first.place + i ≤ r.place) found above in
    ap suc (direct o (suc first.place) i later row are here (omega arith)) ∙ sym (below_more row.place first later (omega arith))

pub found_below : (place : ℕ) (rows : List StoredRow) (n : ℕ) → n ≤ length rows → IsPartitionPoint (λ (r : StoredRow). ltb r.place place ≡ true) (λ (r : StoredRow). ltb r.place place ≡ false) rows n → n ≡ below place rows
found_below place [] zero h parts = refl
found_below place [] (suc n) h parts = absurd (omega arith)
found_below place (row ∷ later) zero h parts =
    let high = ltb-false row.place place (parts.1 0 row (omega arith) (omega arith)) in sym (below_none place row later high)
found_below place (row ∷ later) (suc n) h parts =
    let low = ltb-true row.place place (parts.0 0 row (omega arith) (omega arith)) in
    ap suc (found_below place later n (omega arith) ((λ k d low high. parts.0 (suc k) d (omega arith) (omega arith)), (λ k d low high. parts.1 (suc k) d (omega arith) (omega arith))))
    ∙ sym (below_more place row later low)

-- ---- the first row from a place on

-- it is not before the place, and those behind it are behind the place
pub not_before : (o from place : ℕ) (rows : List StoredRow) (row : StoredRow) (rest : List StoredRow) → AreKept o from rows → drop (below place rows) rows ≡ row ∷ rest → (place ≤ row.place) × AreKept o (suc row.place) rest
not_before o from place [] row rest are e = absurd cc
not_before o from place (first ∷ later) row rest (at, are) e = by (cases_lt first.place place) (not_before o (suc first.place) place later row rest are)
  where
    by : (first.place < place) ⊎ (place ≤ first.place) → (drop (below place later) later ≡ row ∷ rest → (place ≤ row.place) × AreKept o (suc row.place) rest) → (place ≤ row.place) × AreKept o (suc row.place) rest
    by (inl low) found = found (sym (ap (λ k. drop k (first ∷ later)) (below_more place first later low)) ∙ e)
    by (inr high) found =
        let all : first ∷ later ≡ row ∷ rest = sym (ap (λ k. drop k (first ∷ later)) (below_none place first later high)) ∙ e in
        let same : first ≡ row = cc in
        let left : later ≡ rest = cc in
        (subst (λ (r : StoredRow). place ≤ r.place) same high, subst (AreKept o (suc row.place)) left (subst (λ (r : StoredRow). AreKept o (suc r.place) later) same are))

-- what is found among rows behind a place is behind it
pub found_behind : (o from : ℕ) (rows : List StoredRow) (row : StoredRow) → AreKept o from rows → find (is_kept o) rows ≡ Some row → from ≤ row.place
found_behind o from [] row are e = absurd cc
found_behind o from (first ∷ later) row (at, are) e = by (is_kept o first) refl (found_behind o (suc first.place) later row are)
  where
    by : (b : Bool) → is_kept o first ≡ b → (find (is_kept o) later ≡ Some row → suc first.place ≤ row.place) → from ≤ row.place
    by true is found =
        let same : Some first ≡ Some row = sym (ap (λ b. cond b (Some first) (find (is_kept o) later)) is) ∙ e in
        let one : first ≡ row = cc in
        subst (λ (r : StoredRow). from ≤ r.place) one at.behind
    by false is found =
        let low = found (sym (ap (λ b. cond b (Some first) (find (is_kept o) later)) is) ∙ e) in
        let behind = at.behind in
        omega arith

module _ (o place : ℕ) (row : StoredRow) (rest : List StoredRow) (high : place ≤ row.place) (are : AreKept o (suc row.place) rest) where
  -- its own row is kept
  pub own : row.place ≡ place → is_kept o row ≡ true → first_seen o place (row ∷ rest) ≡ Some (seen row)
  own here kept = ap (λ b. option_map (seen_at place) (cond b (Some row) (find (is_kept o) rest))) kept ∙ ap Some (seen_here place row (sym here))

  -- or else it is forgotten, and what is seen is of another place
  pub another : ((row.place ≡ place) × (is_kept o row ≡ true) → ⊥) → (first : StoredRow) → find (is_kept o) (row ∷ rest) ≡ Some first → seen_at place first ≡ record { doc = first.doc; died = Some (suc (suc place)) }
  another apart first found = by (is_kept o row) refl (cases_lt place row.place)
    where
      by : (b : Bool) → is_kept o row ≡ b → (place < row.place) ⊎ (row.place ≤ place) → seen_at place first ≡ record { doc = first.doc; died = Some (suc (suc place)) }
      by true is (inl low) =
          let same : Some row ≡ Some first = sym (ap (λ b. cond b (Some row) (find (is_kept o) rest)) is) ∙ found in
          let one : row ≡ first = cc in
          subst (λ (r : StoredRow). seen_at place r ≡ record { doc = r.doc; died = Some (suc (suc place)) }) one (seen_before place row low)
      by true is (inr low) = absurd (apart (omega arith, is))
      by false is c =
          let later = found_behind o (suc row.place) rest first are (sym (ap (λ b. cond b (Some row) (find (is_kept o) rest)) is) ∙ found) in
          seen_before place first (omega arith)

-- ---- the last row

end_is : (from : ℕ) (row : StoredRow) (later : List StoredRow) (d : StoredRow) → end_of from (row ∷ later) ≡ suc (get_or (row ∷ later) (length later) d).place
end_is from row [] d = refl
end_is from row (next ∷ later) d = end_is (suc row.place) next later d

pub end_of_last : (rows : List StoredRow) (last : StoredRow) → slice_get rows (length rows - 1) ≡ Some last → end_of 0 rows ≡ suc last.place
end_of_last [] last e = cc
end_of_last (row ∷ later) last e =
    let at : length (row ∷ later) - 1 ≡ length later = omega arith in
    let found = get_or_from_slice_get (row ∷ later) (length later) last last (sym (ap (slice_get (row ∷ later)) at) ∙ e) in
    end_is 0 row later last ∙ ap (λ (r : StoredRow). suc r.place) found
