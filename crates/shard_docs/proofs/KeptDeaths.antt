-- Where the living row of a place stands among those that are kept.
use Rattle.std.proofs.Common.{◌≡◌, ℕ, zero, suc, ◌-◌, ◌<◌, true, false, List, [], ◌∷◌, length, drop, find, set, get_or, Option, Some, None, refl, sym, ap, subst, ◌∙◌, arith, ⊎_elim}
use Rattle.std.specs.Prelude.{IfSome}
use Rattle.std.proofs.lemmas.Bool.{cases_lt, cases_Bool}
use Rattle.std.proofs.lemmas.Option.{slice_get_within, get_or_from_slice_get}
use Rattle.std.specs.List.{slice_get}
use Rattle.shard_docs.specs.declared.rows.StoredRow.{StoredRow}
use Rattle.shard_docs.specs.KeptRows.{shown, AreKept, below}
use Rattle.shard_docs.specs.SeenRows.{SeenRow}
use Rattle.shard_docs.proofs.KeptLemmas.{is_kept, many_shown}
use Rattle.shard_docs.proofs.KeptPlaces.{end_of_last}
use Rattle.shard_docs.proofs.KeptChanges.{shown_died, kept_died}
use Rattle.shard_docs.proofs.KeptReads.{no_row, no_such, none_found, is_own, is_another}

head_of_drop : {X : Type 0} (n : ℕ) (xs : List X) → slice_get (drop n xs) 0 ≡ slice_get xs n
head_of_drop zero xs = refl
head_of_drop (suc n) [] = refl
head_of_drop (suc n) (x ∷ xs) = head_of_drop n xs

some_died : (died : Option ℕ) (n : ℕ) → died ≡ None → died ≡ Some n → ⊥
some_died died n e f = let g : None ≡ Some n = sym e ∙ f in cc

module _ (o place : ℕ) (kept : List StoredRow) (rows : List SeenRow) (are : AreKept o 0 kept) (all : shown o 0 kept ≡ rows) (alive : IfSome (slice_get rows place) (λ row. row.died ≡ None)) (behind : suc place < length rows) where
  abbrev Found : Type 0
  Found = (row : StoredRow) × (slice_get kept (below place kept) ≡ Some row) × (row.place ≡ place) × (is_kept o row ≡ true)

  abbrev here : List StoredRow
  here = drop (below place kept) kept

  not_another : (row : StoredRow) → slice_get here 0 ≡ Some row → ((row.place ≡ place) × (is_kept o row ≡ true) → ⊥) → ⊥
  not_another row head apart = by (find (is_kept o) here) refl
    where
      by : (f : Option StoredRow) → find (is_kept o) here ≡ f → ⊥
      by None none = no_such rows place (omega arith) (none_found o place kept here rows are refl all none)
      by (Some first) found =
          let there = is_another o place kept here rows are refl all row head apart first found in
          some_died (Some (suc (suc place))) (suc (suc place)) (subst (λ f. IfSome f (λ (r : SeenRow). r.died ≡ None)) there alive) refl

  pub living_at : Found
  living_at = by (slice_get here 0) refl
    where
      own_or_not : (row : StoredRow) → slice_get here 0 ≡ Some row → Found
      own_or_not row head =
          let there : slice_get kept (below place kept) ≡ Some row = sym (head_of_drop (below place kept) kept) ∙ head in
          ⊎_elim
          (λ low. absurd (not_another row head (λ both. let same = both.0 in omega arith)))
          (λ high.
          ⊎_elim
          (λ apart. absurd (not_another row head (λ both. let same = both.0 in omega arith)))
          (λ low.
          ⊎_elim
          (λ yes. (row, there, omega arith, yes))
          (λ no. absurd (not_another row head (λ both. let same : true ≡ false = sym both.1 ∙ no in cc)))
          (cases_Bool (is_kept o row)))
          (cases_lt place row.place))
          (cases_lt row.place place)

      by : (f : Option StoredRow) → slice_get here 0 ≡ f → Found
      by None none = absurd (no_such rows place (omega arith) (no_row o place kept here rows are refl all none))
      by (Some row) head = own_or_not row head

  -- it is not the last
  pub not_last : suc (below place kept) < length kept
  not_last =
      let found = living_at in
      let within = slice_get_within kept (below place kept) found.0 found.1 in
      ⊎_elim
      (λ low. low)
      (λ high.
      let last : slice_get kept (length kept - 1) ≡ Some found.0 = let at : length kept - 1 ≡ below place kept = omega arith in ap (slice_get kept) at ∙ found.1 in
      let end = end_of_last kept found.0 last in
      let many = many_shown o 0 kept are in
      let counted = ap length all in
      let same = found.2 in
      absurd (omega arith))
      (cases_lt (suc (below place kept)) (length kept))

  module _ (version : ℕ) (later : suc place < version) (oldest : o < version) (row : StoredRow) (is_row : row ≡ get_or kept (below place kept) row) where
    is_found : row ≡ living_at.0
    is_found = is_row ∙ get_or_from_slice_get kept (below place kept) living_at.0 row living_at.1

    pub still_kept : AreKept o 0 (set kept (below place kept) (record row { died = Some version }))
    still_kept =
        let found = living_at in
        subst (λ (r : StoredRow). AreKept o 0 (set kept (below place kept) (record r { died = Some version }))) (sym is_found)
        (kept_died o 0 (below place kept) version kept found.0 are found.1 not_last (subst (λ p. suc p < version) (sym found.2) later))

    pub now_shown : IfSome (slice_get rows place) (λ r. shown o 0 (set kept (below place kept) (record row { died = Some version })) ≡ set rows place (record r { died = Some version }))
    now_shown =
        let found = living_at in
        let at = found.2 in
        let here_at : slice_get kept (below found.0.place kept) ≡ Some found.0 = ap (λ p. slice_get kept (below p kept)) at ∙ found.1 in
        let died = shown_died o 0 place version kept found.0 are here_at found.3 oldest (omega arith) in
        let own = is_own o place kept here rows are refl all found.0 (head_of_drop (below place kept) kept ∙ found.1) found.2 found.3 in
        subst (λ f. IfSome f (λ (r : SeenRow). shown o 0 (set kept (below place kept) (record row { died = Some version })) ≡ set rows place (record r { died = Some version }))) (sym own)
        (ap (λ (r : StoredRow). shown o 0 (set kept (below place kept) (record r { died = Some version }))) is_found
        ∙ ap (λ p. shown o 0 (set kept (below p kept) (record found.0 { died = Some version }))) (sym at)
        ∙ died
        ∙ ap (λ (l : List SeenRow). set l place (record { doc = found.0.doc; died = Some version })) all)
