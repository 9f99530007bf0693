-- An index that is made anew from the rows that are kept, one after the other.
use Rattle.std.proofs.Common.{◌≡◌, ℕ, zero, suc, ◌+◌, ◌-◌, ◌<◌, ◌≤◌, Bool, true, false, not, ◌&&◌, ◌||◌, inl, inr, List, [], ◌∷◌, length, take, drop, find, Some, refl, sym, ap, subst, ◌∙◌, arith, ⊎_elim, true≢false}
use Rattle.std.proofs.lemmas.List.{take_all}
use Rattle.std.proofs.lemmas.Bool.{cases_Bool, le-ltb}
use Rattle.std.proofs.lemmas.Option.{slice_get_past}
use Rattle.std.specs.List.{AllByRecursion, slice_get}
use Rattle.std.specs.Option.{option_map_or}
use Rattle.task_ids.specs.declared.doc.Doc.{Doc}
use Rattle.query_match.specs.declared.scalar.Scalar.{Scalar}
use Rattle.query_match.specs.Values.{is_key}
use Rattle.shard_docs.specs.declared.index.Index.{Index}
use Rattle.shard_docs.specs.declared.rows.StoredRow.{StoredRow}
use Rattle.shard_docs.specs.Deaths.{is_alive_before}
use Rattle.shard_docs.specs.KeptRows.{seen, shown, IsKeptAt, AreKept, below}
use Rattle.shard_docs.specs.Places.{places_of, ends_with_place, with_place, MayAdd, HasAdded, KeepsUnless, HasPlaces, has_value_at, is_at_row, may_be_at_row, IsIndexOf, IsExactFor}
use Rattle.shard_docs.specs.SeenRows.{SeenRow, SeenRows}
use Rattle.shard_docs.proofs.Adding.{May, with_new, not_last}
use Rattle.shard_docs.proofs.Exact.{MayHave, all_with}
use Rattle.shard_docs.proofs.KeptLemmas.{is_kept, has_died, some_kept, end_of, many_shown, below_more, below_none}
use Rattle.shard_docs.proofs.KeptReads.{is_own, is_another}

-- ---- the next row

-- what stands at and behind a row
pub record IsNext (o from i : ℕ) (rows : List StoredRow) (row : StoredRow) : Type 0 where
  pub rest : List StoredRow
  pub left : drop i rows ≡ row ∷ rest
  pub kept : IsKeptAt o (end_of from (take i rows)) row rest
  pub behind : AreKept o (suc row.place) rest
  pub ends : end_of from (take (suc i) rows) ≡ suc row.place
  pub starts : from ≤ end_of from (take i rows)
  pub at : (place : ℕ) → end_of from (take i rows) ≤ place → place ≤ row.place → below place rows ≡ i

pub next_row : (o from i : ℕ) (rows : List StoredRow) (row : StoredRow) → AreKept o from rows → slice_get rows i ≡ Some row → IsNext o from i rows row
next_row o from i [] row are here = cc
next_row o from zero (first ∷ later) row (at, are) here =
    let same : first ≡ row = cc in
    subst (IsNext o from zero (first ∷ later)) same
    (record { rest = later; left = refl; kept = at; behind = are; ends = refl; starts = omega arith; at = λ place low high. below_none place first later high })
next_row o from (suc i) (first ∷ later) row (at, are) here =
    let n = next_row o (suc first.place) i later row are here in
    let behind = at.behind in
    let starts = n.starts in
    record {
      rest = n.rest;
      left = n.left;
      kept = n.kept;
      behind = n.behind;
      ends = n.ends;
      starts = omega arith;
      at = λ place low high. below_more place first later (omega arith) ∙ ap suc (n.at place low high);
    }

-- ---- lists of places

over_gap : (test : ℕ → Bool) (n k : ℕ) (places : List ℕ) → HasPlaces test n places → ((p : ℕ) → n ≤ p → p < n + k → test p ≡ false) → HasPlaces test (n + k) places
over_gap test n zero places has none = let e : n ≡ n + 0 = omega arith in subst (λ m. HasPlaces test m places) e has
over_gap test n (suc k) places has none =
    let e : suc (n + k) ≡ n + suc k = omega arith in
    subst (λ m. HasPlaces test m places) e (places, over_gap test n k places has (λ p low high. none p low (omega arith)), inr (refl, none (n + k) (omega arith) (omega arith)))

pub up_to : (test : ℕ → Bool) (n m : ℕ) (places : List ℕ) → n ≤ m → HasPlaces test n places → ((p : ℕ) → n ≤ p → p < m → test p ≡ false) → HasPlaces test m places
up_to test n m places h has none =
    let k : ℕ = m - n in
    let e : n + k ≡ m = omega arith in
    subst (λ l. HasPlaces test l places) e (over_gap test n k places has (λ p low high. none p low (omega arith)))

next_place : (test : ℕ → Bool) (n : ℕ) (old new : List ℕ) → HasPlaces test n old → May n old new → (test n ≡ true → new ≡ with_place n old) → HasPlaces test (suc n) new
next_place test n old new has may must =
    let added = with_new n old (not_last test n old has n (omega arith)) in (
      old,
      has,
      ⊎_elim
          (λ yes. inl (must yes ∙ added))
          (λ no. ⊎_elim (λ same. inr (same, no)) (λ more. inl (more ∙ added)) may)
          (cases_Bool (test n)),
    )

-- ---- the index

-- the index has the places of the first so many rows
abbrev pub HasFirst : SeenRows → List StoredRow → ℕ → Index → Type 0
HasFirst s rows i index = (f : List ℕ) (v : Scalar) → is_key f ≡ true → HasPlaces (is_at_row f v s) (end_of 0 (take i rows)) (places_of index f v)

module _ (s : SeenRows) (rows : List StoredRow) (are : AreKept s.oldest 0 rows) (all : shown s.oldest 0 rows ≡ s.rows) where
  module _ (i : ℕ) (row : StoredRow) (is_row : slice_get rows i ≡ Some row) where
    next : IsNext s.oldest 0 i rows row
    next = next_row s.oldest 0 i rows row are is_row

    head : slice_get (drop (below row.place rows) rows) 0 ≡ Some row
    head = ap (λ n. slice_get (drop n rows) 0) (next.at row.place next.kept.behind (omega arith)) ∙ ap (λ l. slice_get l 0) next.left

    -- at places before it nothing is kept
    none_before : (f : List ℕ) (v : Scalar) (place : ℕ) → end_of 0 (take i rows) ≤ place → place < row.place → is_at_row f v s place ≡ false
    none_before f v place low high =
        let n = next in
        let at = n.at place low (omega arith) in
        let there : slice_get (drop (below place rows) rows) 0 ≡ Some row = ap (λ k. slice_get (drop k rows) 0) at ∙ ap (λ l. slice_get l 0) n.left in
        let first = some_kept s.oldest (end_of 0 (take i rows)) row n.rest (n.kept, n.behind) in
        let found : find (is_kept s.oldest) (drop (below place rows) rows) ≡ Some first.0 = ap (λ k. find (is_kept s.oldest) (drop k rows)) at ∙ ap (find (is_kept s.oldest)) n.left ∙ first.1 in
        let is = is_another s.oldest place rows (drop (below place rows) rows) s.rows are refl all row there (λ both. let same = both.0 in omega arith) first.0 found in
        let gap = n.kept.gap (omega arith) in
        ap (λ o. option_map_or (λ r. is_alive_before s.oldest r.died && has_value_at f v r.doc) o false) is
        ∙ ap (λ b. b && has_value_at f v first.0.doc) (le-ltb s.oldest (suc (suc place)) (omega arith))

    -- at its place it is, where it is kept
    at_its_place : (is_kept s.oldest row ≡ true) → slice_get s.rows row.place ≡ Some (seen row)
    at_its_place kept = is_own s.oldest row.place rows (drop (below row.place rows) rows) s.rows are refl all row head refl kept

    -- or one that has died
    else_dead : (is_kept s.oldest row ≡ false) → (r : SeenRow) × (slice_get s.rows row.place ≡ Some r) × (is_alive_before s.oldest r.died ≡ false)
    else_dead gone =
        let n = next in
        let at = n.at row.place n.kept.behind (omega arith) in
        let first = some_kept s.oldest (end_of 0 (take i rows)) row n.rest (n.kept, n.behind) in
        let found : find (is_kept s.oldest) (drop (below row.place rows) rows) ≡ Some first.0 = ap (λ k. find (is_kept s.oldest) (drop k rows)) at ∙ ap (find (is_kept s.oldest)) n.left ∙ first.1 in
        let is = is_another s.oldest row.place rows (drop (below row.place rows) rows) s.rows are refl all row head (λ both. true≢false (sym both.1 ∙ gone)) first.0 found in
        let d = has_died s.oldest row.died gone in
        let dies = n.kept.dies d.0 d.1 in
        let low = d.2 in
        (record { doc = first.0.doc; died = Some (suc (suc row.place)) }, is, le-ltb s.oldest (suc (suc row.place)) (omega arith))

    abbrev At : List ℕ → Scalar → SeenRow → Bool
    At f v r = is_alive_before s.oldest r.died && has_value_at f v r.doc

    -- where its place is to be, it has the value
    has_value : (f : List ℕ) (v : Scalar) → is_at_row f v s row.place ≡ true → has_value_at f v row.doc ≡ true
    has_value f v here =
        ⊎_elim
        (λ kept. sym (ap (λ b. b && has_value_at f v row.doc) kept) ∙ sym (ap (λ o. option_map_or (At f v) o false) (at_its_place kept)) ∙ here)
        (λ gone.
        let r = else_dead gone in
        absurd (true≢false (sym here ∙ ap (λ o. option_map_or (At f v) o false) r.1 ∙ ap (λ b. b && has_value_at f v r.0.doc) r.2)))
        (cases_Bool (is_kept s.oldest row))

    -- what its document has, its place may have
    pub may_have : (has : Doc → Bool) → has row.doc ≡ true → option_map_or (MayHave has s.oldest) (slice_get s.rows row.place) false ≡ true
    may_have has here =
        ⊎_elim
        (λ kept. ap (λ o. option_map_or (MayHave has s.oldest) o false) (at_its_place kept) ∙ ap (λ b. not b || has row.doc) kept ∙ here)
        (λ gone.
        let r = else_dead gone in
        ap (λ o. option_map_or (MayHave has s.oldest) o false) r.1 ∙ ap (λ b. not b || has r.0.doc) r.2)
        (cases_Bool (is_kept s.oldest row))

    module _ (old new : Index) (may : MayAdd row.place old new) where
      pub one_more : HasFirst s rows i old → ((f : List ℕ) (v : Scalar) → is_key f ≡ true → has_value_at f v row.doc ≡ true → HasAdded row.place f v old new) → HasFirst s rows (i + 1) new
      one_more has added f v key =
          let test = is_at_row f v s in
          let e : suc i ≡ i + 1 = omega arith in
          let n = next in
          let until = up_to test (end_of 0 (take i rows)) row.place (places_of old f v) n.kept.behind (has f v key) (none_before f v) in
          let now = next_place test row.place (places_of old f v) (places_of new f v) until (may f v) (λ here. added f v key (has_value f v here)) in
          subst (λ k. HasPlaces test (end_of 0 (take k rows)) (places_of new f v)) e (subst (λ m. HasPlaces test m (places_of new f v)) (sym n.ends) now)

      pub no_other : IsExactFor s old → KeepsUnless (λ f v. has_value_at f v row.doc) old new → IsExactFor s new
      no_other exact kept f v =
          let test = may_be_at_row f v s in
          ⊎_elim
          (λ yes.
          ⊎_elim
          (λ same. subst (AllByRecursion (λ p. test p ≡ true)) (sym same) (exact f v))
          (λ more.
          subst (AllByRecursion (λ p. test p ≡ true)) (sym more)
          (all_with test test (λ p h. h) (ends_with_place row.place (places_of old f v)) (places_of old f v) row.place (exact f v) (may_have (has_value_at f v) yes)))
          (may f v))
          (λ no. subst (AllByRecursion (λ p. test p ≡ true)) (sym (kept f v no)) (exact f v))
          (cases_Bool (has_value_at f v row.doc))

  pub whole : (index : Index) → HasFirst s rows (length rows) index → IsIndexOf s index
  whole index has f v key =
      let test = is_at_row f v s in
      let many = many_shown s.oldest 0 rows are in
      let counted = ap length all in
      let end : end_of 0 (take (length rows) rows) ≡ length s.rows = ap (end_of 0) (take_all (length rows) rows (omega arith)) ∙ omega arith in
      up_to test (length s.rows) (suc (length s.rows)) (places_of index f v) (omega arith) (subst (λ m. HasPlaces test m (places_of index f v)) end (has f v key))
      (λ p low high. ap (λ o. option_map_or (λ r. is_alive_before s.oldest r.died && has_value_at f v r.doc) o false) (slice_get_past s.rows p low))
