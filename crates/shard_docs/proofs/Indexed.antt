-- The index of a shard after one more write, or after one for which memory ran out.
use Rattle.std.proofs.Common.{◌≡◌, ℕ, ◌<◌, ◌≤◌, zero, suc, Bool, true, false, ◌&&◌, List, [], ◌∷◌, ◌++◌, length, set, Some, refl, sym, ap, subst, ◌∙◌, arith, ⊎_elim, inl, inr}
use Rattle.std.proofs.lemmas.List.{length_push}
use Rattle.std.proofs.lemmas.Option.{slice_get_past}
use Rattle.std.specs.List.{slice_get}
use Rattle.std.specs.Option.{option_map_or}
use Rattle.serde_json.specs.Data.{Data}
use Rattle.task_ids.specs.declared.doc.Doc.{Doc}
use Rattle.query_match.specs.declared.scalar.Scalar.{Scalar}
use Rattle.query_match.specs.Picks.{has_picked}
use Rattle.query_match.specs.Values.{is_key}
use Rattle.shard_docs.specs.declared.index.Index.{Index}
use Rattle.shard_docs.specs.Deaths.{is_alive_before}
use Rattle.shard_docs.specs.Places.{places_of, MayAdd, HasAdded, HasPlaces, has_value_at, is_at_row, IsIndexOf}
use Rattle.shard_docs.specs.SeenRows.{SeenRow, SeenRows, new_row}
use Rattle.shard_docs.proofs.Adding.{after_failure, after_row}

-- a row that is added changes none before it
pub get_before : (rows : List SeenRow) (row : SeenRow) (i : ℕ) → i < length rows → slice_get rows i ≡ slice_get (rows ++ row ∷ []) i
get_before [] row i h = absurd (omega arith)
get_before (first ∷ later) row zero h = refl
get_before (first ∷ later) row (suc i) h = get_before later row i (omega arith)

get_new : (rows : List SeenRow) (row : SeenRow) → slice_get (rows ++ row ∷ []) (length rows) ≡ Some row
get_new [] row = refl
get_new (first ∷ later) row = get_new later row

-- rows with one more document
abbrev pub with_row : SeenRows → Doc → ℕ → SeenRows
with_row s doc room = record { rows = s.rows ++ new_row doc ∷ []; oldest = s.oldest; room = room }

module _ (test : SeenRow → Bool) where
  pub none_past : (rows : List SeenRow) (place : ℕ) → length rows ≤ place → option_map_or test (slice_get rows place) false ≡ false
  none_past rows place h = ap (λ o. option_map_or test o false) (slice_get_past rows place h)

  pub same_before : (rows : List SeenRow) (row : SeenRow) (place : ℕ) → place < length rows → option_map_or test (slice_get rows place) false ≡ option_map_or test (slice_get (rows ++ row ∷ []) place) false
  same_before rows row place h = ap (λ o. option_map_or test o false) (get_before rows row place h)

  pub at_new : (rows : List SeenRow) (row : SeenRow) → option_map_or test (slice_get (rows ++ row ∷ []) (length rows)) false ≡ test row
  at_new rows row = ap (λ o. option_map_or test o false) (get_new rows row)

  -- another row of its place, of which the test says the same
  pub alike_set : (rows : List SeenRow) (i place : ℕ) (old new : SeenRow) → slice_get rows i ≡ Some old → test old ≡ test new → option_map_or test (slice_get rows place) false ≡ option_map_or test (slice_get (set rows i new) place) false
  alike_set [] i place old new here same = cc
  alike_set (first ∷ later) zero zero old new here same = let e : first ≡ old = cc in ap test e ∙ same
  alike_set (first ∷ later) zero (suc place) old new here same = refl
  alike_set (first ∷ later) (suc i) zero old new here same = refl
  alike_set (first ∷ later) (suc i) (suc place) old new here same = alike_set later i place old new here same

-- each place of it was added
abbrev pub HasAll : ℕ → Data → Index → Index → Type 0
HasAll place source old new = (f : List ℕ) (v : Scalar) → is_key f ≡ true → has_picked (Some (record { field = f; value = v })) source ≡ true → HasAdded place f v old new

abbrev pub At : List ℕ → Scalar → ℕ → SeenRow → Bool
At f v oldest row = is_alive_before oldest row.died && has_value_at f v row.doc

pub indexed : (s : SeenRows) (doc : Doc) (room place : ℕ) (old new : Index) → place ≡ length s.rows → IsIndexOf s old → MayAdd place old new → HasAll place doc.source old new
    → IsIndexOf (with_row s doc room) new
indexed s doc room place old new at was may added f v key =
    let more = is_at_row f v (with_row s doc room) in
    let rows = s.rows in
    let row = new_row doc in
    let count : suc (length rows) ≡ length (rows ++ row ∷ []) = omega (arith, length_push rows row) in
    let may_here = subst (λ (n : ℕ). MayAdd n old new) at may f v in
    let added_here = subst (λ (n : ℕ). HasAll n doc.source old new) at added f v key in
    subst (λ (n : ℕ). HasPlaces more (suc n) (places_of new f v)) count
    (after_row (is_at_row f v s) more (length rows) (places_of old f v) (places_of new f v) (same_before (At f v s.oldest) rows row)
    (none_past (At f v s.oldest) (rows ++ row ∷ []) (suc (length rows)) (omega (arith, length_push rows row))) (was f v key) may_here
    (λ here. added_here (sym (at_new (At f v s.oldest) rows row) ∙ here)))

pub still_indexed : (s : SeenRows) (place : ℕ) (old new : Index) → place ≡ length s.rows → IsIndexOf s old → MayAdd place old new → IsIndexOf s new
still_indexed s place old new at was may f v key =
    after_failure (is_at_row f v s) (length s.rows) (places_of old f v) (places_of new f v) (none_past (At f v s.oldest) s.rows (length s.rows) (omega arith)) (was f v key)
    (subst (λ (n : ℕ). MayAdd n old new) at may f v)

-- rows of which the tests say less ask for no more places
fewer : (test less : ℕ → Bool) (n : ℕ) (places : List ℕ) → ((i : ℕ) → test i ≡ false → less i ≡ false) → HasPlaces test n places → HasPlaces less n places
fewer test less zero places fails has = has
fewer test less (suc n) places fails (before, has, top) = (before, fewer test less n before fails has, ⊎_elim (λ here. inl here) (λ gone. inr (gone.0, fails n gone.1)) top)

pub index_of_fewer : (s t : SeenRows) (index : Index) → length t.rows ≡ length s.rows → ((f : List ℕ) (v : Scalar) (i : ℕ) → is_at_row f v s i ≡ false → is_at_row f v t i ≡ false) → IsIndexOf s index → IsIndexOf t index
index_of_fewer s t index many fails has f v key =
    subst (λ n. HasPlaces (is_at_row f v t) (suc n) (places_of index f v)) (sym many) (fewer (is_at_row f v s) (is_at_row f v t) (suc (length s.rows)) (places_of index f v) (fails f v) (has f v key))
