-- The places that an index has of a value, and the next places of those who pick it.
use Rattle.std.proofs.Common.{◌≡◌, ℕ, zero, suc, ◌≤◌, Bool, true, false, ◌&&◌, ◌⊎◌, inl, inr, cond, ltb, map, List, [], ◌∷◌, ◌++◌, length, Option, Some, None, refl, sym, ap, ◌∙◌, arith, ⊎_elim}
use Rattle.std.proofs.lemmas.Bool.{cases_Bool}
use Rattle.std.proofs.lemmas.List.{append-nil, length-map, length-take}
use Rattle.std.proofs.lemmas.List.Elements.{filter-append, filter_agree}
use Rattle.std.specs.List.{filter, slice_get}
use Rattle.std.specs.Option.{option_map_or}
use Rattle.task_ids.specs.declared.doc.Doc.{Doc}
use Rattle.query_match.specs.declared.scalar.Scalar.{Scalar}
use Rattle.query_match.specs.Picks.{Picked}
use Rattle.shard_docs.specs.Candidates.{is_above, next_places, is_candidate}
use Rattle.shard_docs.specs.Deaths.{is_alive_before}
use Rattle.shard_docs.specs.Places.{HasPlaces, has_value_at, is_at_row}
use Rattle.shard_docs.specs.SeenRows.{SeenRow, SeenRows, doc_alive}
use Rattle.shard_docs.specs.Tables.{deaths}
use Rattle.shard_docs.proofs.Chosen.{from, from_more, filter_both, is_next, next_among}
use Rattle.shard_docs.proofs.Indexed.{At}
use Rattle.shard_docs.proofs.KeptLemmas.{still_dead}
use Rattle.shard_docs.proofs.RowLemmas.{row_seen}
use Rattle.shard_docs.proofs.TableLemmas.{docs_of}

-- a test that holds of none that may be missing chooses the same as among all
chosen_of_places : (test : ℕ → Bool) (n : ℕ) (places : List ℕ) → HasPlaces test n places → (chosen : ℕ → Bool) → ((i : ℕ) → test i ≡ false → chosen i ≡ false) → filter chosen places ≡ filter chosen (from 0 n)
chosen_of_places test zero places empty chosen fails = ap (filter chosen) empty
chosen_of_places test (suc n) places (before, has, top) chosen fails =
    let found = chosen_of_places test n before has chosen fails in
    let all : filter chosen (from 0 (suc n)) ≡ filter chosen (from 0 n) ++ filter chosen (n ∷ []) = ap (filter chosen) (from_more 0 n n (omega arith)) ∙ filter-append chosen (from 0 n) (n ∷ []) in
    ⊎_elim
    (λ here. ap (filter chosen) here ∙ filter-append chosen before (n ∷ []) ∙ ap (λ l. l ++ filter chosen (n ∷ [])) found ∙ sym all)
    (λ gone.
    ap (filter chosen) gone.0 ∙ found
    ∙ sym (all ∙ ap (λ b. filter chosen (from 0 n) ++ cond b (n ∷ []) []) (fails n gone.1) ∙ append-nil (filter chosen (from 0 n))))
    top

swapped : (a b : Bool) → (a && b) ≡ (b && a)
swapped true true = refl
swapped true false = refl
swapped false true = refl
swapped false false = refl

module _ (f : List ℕ) (v : Scalar) (version : ℕ) (after : Option ℕ) (s : SeenRows) (dies : map (λ row. row.died) s.rows ≡ deaths 0 (docs_of s.rows)) (readable : s.oldest ≤ version) where
  abbrev pick : Option Picked
  pick = Some (record { field = f; value = v })

  -- a row that is forgotten is not alive, and another is asked for the value
  no_candidate : (place : ℕ) → is_at_row f v s place ≡ false → is_candidate pick version (docs_of s.rows) place ≡ false
  no_candidate place none = ap (λ o. option_map_or (has_value_at f v) o false) (row_seen s.rows dies version place) ∙ by (slice_get s.rows place) none
    where
      neither : (below alive has : Bool) (doc : Doc) → has_value_at f v doc ≡ has → ((alive ≡ false) ⊎ (has ≡ false)) → option_map_or (has_value_at f v) (cond below (cond alive (Some doc) None) None) false ≡ false
      neither false alive has doc is either = refl
      neither true false has doc is either = refl
      neither true true has doc is (inl dead) = cc
      neither true true has doc is (inr no_value) = is ∙ no_value

      nothing : (below : Bool) → option_map_or (has_value_at f v) (cond below None None) false ≡ false
      nothing true = refl
      nothing false = refl

      by : (o : Option SeenRow) → option_map_or (At f v s.oldest) o false ≡ false → option_map_or (has_value_at f v) (cond (ltb place version) (doc_alive version o) None) false ≡ false
      by None e = nothing (ltb place version)
      by (Some row) e =
          neither (ltb place version) (is_alive_before version row.died) (has_value_at f v row.doc) row.doc refl
          (⊎_elim
          (λ kept. inr (sym (ap (λ b. b && has_value_at f v row.doc) kept) ∙ e))
          (λ gone. inl (still_dead s.oldest version row.died readable gone))
          (cases_Bool (is_alive_before s.oldest row.died)))

  not_next : (i : ℕ) → is_at_row f v s i ≡ false → is_next pick version after (docs_of s.rows) i ≡ false
  not_next i none = ap (λ b. b && is_above after i) (no_candidate i none)

  pub picked_next : (places : List ℕ) → HasPlaces (is_at_row f v s) (suc (length s.rows)) places
      → filter (is_candidate pick version (docs_of s.rows)) (filter (is_above after) places) ≡ next_places pick version after (docs_of s.rows)
  picked_next places has =
      let writes = docs_of s.rows in
      filter_both (is_candidate pick version writes) (is_above after) places
      ∙ filter_agree (λ i. is_above after i && is_candidate pick version writes i) (is_next pick version after writes) (λ i. swapped (is_above after i) (is_candidate pick version writes i)) places
      ∙ chosen_of_places (is_at_row f v s) (suc (length s.rows)) places has (is_next pick version after writes) not_next
      ∙ sym (next_among pick version after writes (suc (length s.rows)) (omega (arith, length-take version writes, length-map s.rows (λ (row : SeenRow). row.doc))))
