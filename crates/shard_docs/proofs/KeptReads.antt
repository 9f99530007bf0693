-- What is read at a place, from the rows that are kept.
use Rattle.std.proofs.Common.{◌≡◌, ℕ, zero, suc, ◌<◌, ◌≤◌, Bool, true, false, cond, eqb, List, [], ◌∷◌, length, drop, find, Option, Some, None, option_map, refl, sym, ap, ◌∙◌, arith}
use Rattle.std.proofs.lemmas.Bool.{lt-ltb, le-ltb}
use Rattle.std.specs.List.{slice_get}
use Rattle.shard_docs.specs.declared.rows.StoredRow.{StoredRow}
use Rattle.shard_docs.specs.KeptRows.{shown, AreKept, below, seen, seen_at, first_seen}
use Rattle.shard_docs.specs.SeenRows.{SeenRow, doc_alive}
use Rattle.shard_docs.proofs.KeptLemmas.{is_kept, shown_at}
use Rattle.shard_docs.proofs.KeptPlaces.{not_before, own, another}

head_is : (rows : List StoredRow) (row : StoredRow) → slice_get rows 0 ≡ Some row → (rest : List StoredRow) × (rows ≡ row ∷ rest)
head_is [] row e = cc
head_is (first ∷ rest) row e = let same : first ≡ row = cc in (rest, ap (λ (r : StoredRow). r ∷ rest) same)

no_head : (rows : List StoredRow) → slice_get rows 0 ≡ None → rows ≡ []
no_head [] e = refl
no_head (first ∷ rest) e = cc

pub no_such : {X : Type 0} (rows : List X) (i : ℕ) → i < length rows → slice_get rows i ≡ None → ⊥
no_such [] i h e = omega (arith, h)
no_such (x ∷ rows) zero h e = cc
no_such (x ∷ rows) (suc i) h e = no_such rows i (omega arith) e

module _ (o place : ℕ) (kept here : List StoredRow) (rows : List SeenRow) (are : AreKept o 0 kept) (there : here ≡ drop (below place kept) kept) (all : shown o 0 kept ≡ rows) where
  what : slice_get rows place ≡ first_seen o place here
  what = ap (λ l. slice_get l place) (sym all) ∙ shown_at o 0 place place kept are (omega arith) ∙ ap (first_seen o place) (sym there)

  -- there is no row from the place on, or none that is not forgotten
  pub no_row : slice_get here 0 ≡ None → slice_get rows place ≡ None
  no_row none = what ∙ ap (first_seen o place) (no_head here none)

  pub none_found : find (is_kept o) here ≡ None → slice_get rows place ≡ None
  none_found none = what ∙ ap (option_map (seen_at place)) none

  pub is_found : (first : StoredRow) → find (is_kept o) here ≡ Some first → slice_get rows place ≡ Some (seen_at place first)
  is_found first found = what ∙ ap (option_map (seen_at place)) found

  module _ (row : StoredRow) (head : slice_get here 0 ≡ Some row) where
    parts : (rest : List StoredRow) × (place ≤ row.place) × AreKept o (suc row.place) rest × (here ≡ row ∷ rest)
    parts =
        let h = head_is here row head in
        let n = not_before o 0 place kept row h.0 are (sym there ∙ h.1) in
        (h.0, n.0, n.1, h.1)

    pub is_own : row.place ≡ place → is_kept o row ≡ true → slice_get rows place ≡ Some (seen row)
    is_own same alive = what ∙ ap (first_seen o place) parts.3 ∙ own o place row parts.0 parts.1 parts.2 same alive

    pub is_another : ((row.place ≡ place) × (is_kept o row ≡ true) → ⊥) → (first : StoredRow) → find (is_kept o) here ≡ Some first
        → slice_get rows place ≡ Some (record { doc = first.doc; died = Some (suc (suc place)) })
    is_another apart first found = is_found first found ∙ ap Some (another o place row parts.0 parts.1 parts.2 apart first (ap (find (is_kept o)) (sym parts.3) ∙ found))

    -- a version that is not the next one finds it dead
    pub is_dead : ((row.place ≡ place) × (is_kept o row ≡ true) → ⊥) → (version : ℕ) → suc place < version → doc_alive version (slice_get rows place) ≡ None
    is_dead apart version late = by (find (is_kept o) here) refl
      where
        by : (o' : Option StoredRow) → find (is_kept o) here ≡ o' → doc_alive version (slice_get rows place) ≡ None
        by None none = ap (doc_alive version) (none_found none)
        by (Some first) found = ap (doc_alive version) (is_another apart first found) ∙ ap (λ b. cond b (Some first.doc) None) (le-ltb version (suc (suc place)) (omega arith))

    pub is_next : ((row.place ≡ place) × (is_kept o row ≡ true) → ⊥) → (version : ℕ) → version ≤ suc place → (first : StoredRow) → find (is_kept o) here ≡ Some first
        → Some first.doc ≡ doc_alive version (slice_get rows place)
    is_next apart version early first found =
        sym (ap (doc_alive version) (is_another apart first found) ∙ ap (λ b. cond b (Some first.doc) None) (lt-ltb version (suc (suc place)) (omega arith)))

  pub doc_seen : (first : StoredRow) → find (is_kept o) here ≡ Some first → Some first.doc ≡ option_map (λ (r : SeenRow). r.doc) (slice_get rows place)
  doc_seen first found = sym (ap (option_map (λ (r : SeenRow). r.doc)) (is_found first found) ∙ ap Some (of (eqb place first.place)))
    where
      of : (b : Bool) → (cond b (seen first) (record { doc = first.doc; died = Some (suc (suc place)) })).doc ≡ first.doc
      of true = refl
      of false = refl
