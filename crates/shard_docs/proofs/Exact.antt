-- An index without a place of a row that has not the value: after one more write, and when candidates are looked for.
use Rattle.std.proofs.Common.{◌≡◌, ℕ, ◌≤◌, Bool, true, false, not, ◌||◌, ◌⊎◌, inl, inr, cond, ltb, List, [], ◌∷◌, ◌++◌, length, map, Option, Some, None, refl, sym, ap, subst, ◌∙◌, ⊎_elim, true≢false}
use Rattle.std.proofs.lemmas.Bool.{cases_Bool, cases_lt}
use Rattle.std.specs.List.{AllByRecursion, filter, slice_get}
use Rattle.std.specs.Option.{option_map_or}
use Rattle.task_ids.specs.declared.doc.Doc.{Doc}
use Rattle.query_match.specs.declared.scalar.Scalar.{Scalar}
use Rattle.shard_docs.specs.declared.index.Index.{Index}
use Rattle.shard_docs.specs.Candidates.{is_candidate}
use Rattle.shard_docs.specs.Deaths.{is_alive_before}
use Rattle.shard_docs.specs.Places.{places_of, ends_with_place, MayAdd, KeepsUnless, has_value_at, may_be_at_row, IsExactFor}
use Rattle.shard_docs.specs.SeenRows.{SeenRow, SeenRows, new_row, doc_alive}
use Rattle.shard_docs.specs.Tables.{deaths}
use Rattle.shard_docs.proofs.Indexed.{with_row, none_past, same_before, at_new}
use Rattle.shard_docs.proofs.KeptLemmas.{still_dead}
use Rattle.shard_docs.proofs.RowLemmas.{row_seen}
use Rattle.shard_docs.proofs.TableLemmas.{docs_of}

-- ---- lists of places

module _ {X : Type 0} (has more : X → Bool) (still : (p : X) → has p ≡ true → more p ≡ true) where
  pub all_still : (places : List X) → AllByRecursion (λ p. has p ≡ true) places → AllByRecursion (λ p. more p ≡ true) places
  all_still [] all = tt
  all_still (p ∷ places) (here, all) = (still p here, all_still places all)

  all_push : (places : List X) (place : X) → AllByRecursion (λ p. has p ≡ true) places → more place ≡ true → AllByRecursion (λ p. more p ≡ true) (places ++ place ∷ [])
  all_push [] place all last = (last, tt)
  all_push (p ∷ places) place (here, all) last = (still p here, all_push places place all last)

  pub all_with : (same : Bool) (places : List X) (place : X) → AllByRecursion (λ p. has p ≡ true) places → more place ≡ true
      → AllByRecursion (λ p. more p ≡ true) (cond same places (places ++ place ∷ []))
  all_with true places place all last = all_still places all
  all_with false places place all last = all_push places place all last

-- tests that agree on all choose the same
chosen_alike : (has t u : ℕ → Bool) (places : List ℕ) → AllByRecursion (λ p. has p ≡ true) places → ((p : ℕ) → has p ≡ true → t p ≡ u p) → filter t places ≡ filter u places
chosen_alike has t u [] all same = refl
chosen_alike has t u (p ∷ places) (here, all) same =
    ap (λ b. cond b (p ∷ filter t places) (filter t places)) (same p here) ∙ ap (λ l. cond (u p) (p ∷ l) l) (chosen_alike has t u places all same)

all_filtered : (has above : ℕ → Bool) (places : List ℕ) → AllByRecursion (λ p. has p ≡ true) places → AllByRecursion (λ p. has p ≡ true) (filter above places)
all_filtered has above [] all = tt
all_filtered has above (p ∷ places) (here, all) = either (above p) (all_filtered has above places all)
  where
    either : (b : Bool) → AllByRecursion (λ q. has q ≡ true) (filter above places) → AllByRecursion (λ q. has q ≡ true) (cond b (p ∷ filter above places) (filter above places))
    either true later = (here, later)
    either false later = later

-- ---- one more write

-- its document has something, unless it is forgotten
abbrev pub MayHave : (Doc → Bool) → ℕ → SeenRow → Bool
MayHave has oldest row = not (is_alive_before oldest row.died) || has row.doc

abbrev pub May : List ℕ → Scalar → ℕ → SeenRow → Bool
May f v = MayHave (has_value_at f v)

pub still_at_row : (has : Doc → Bool) (s : SeenRows) (doc : Doc) (room place : ℕ) → option_map_or (MayHave has s.oldest) (slice_get s.rows place) false ≡ true
    → option_map_or (MayHave has s.oldest) (slice_get (s.rows ++ new_row doc ∷ []) place) false ≡ true
still_at_row has s doc room place here =
    ⊎_elim
    (λ below. sym (same_before (MayHave has s.oldest) s.rows (new_row doc) place below) ∙ here)
    (λ past. absurd (true≢false (sym here ∙ none_past (MayHave has s.oldest) s.rows place past)))
    (cases_lt place (length s.rows))

pub still_exact : (s : SeenRows) (doc : Doc) (room place : ℕ) (old new : Index) → place ≡ length s.rows → IsExactFor s old → MayAdd place old new
    → KeepsUnless (λ f v. has_value_at f v doc) old new → IsExactFor (with_row s doc room) new
still_exact s doc room place old new at exact may kept f v =
    let has = may_be_at_row f v s in
    let more = may_be_at_row f v (with_row s doc room) in
    let still = still_at_row (has_value_at f v) s doc room in
    let stay = all_still has more still (places_of old f v) (exact f v) in
    ⊎_elim
    (λ here.
    let last : more place ≡ true = ap more at ∙ at_new (May f v s.oldest) s.rows (new_row doc) ∙ or_true here in
    ⊎_elim
    (λ same. subst (AllByRecursion (λ p. more p ≡ true)) (sym same) stay)
    (λ added. subst (AllByRecursion (λ p. more p ≡ true)) (sym added) (all_with has more still (ends_with_place place (places_of old f v)) (places_of old f v) place (exact f v) last))
    (may f v))
    (λ none. subst (AllByRecursion (λ p. more p ≡ true)) (sym (kept f v none)) stay)
    (cases_Bool (has_value_at f v doc))
  where
    or_true : {b : Bool} → b ≡ true → not true || b ≡ true
    or_true e = e

pub exact_still : (s t : SeenRows) (index : Index) → ((f : List ℕ) (v : Scalar) (i : ℕ) → may_be_at_row f v s i ≡ true → may_be_at_row f v t i ≡ true) → IsExactFor s index → IsExactFor t index
exact_still s t index still exact f v = all_still (may_be_at_row f v s) (may_be_at_row f v t) (still f v) (places_of index f v) (exact f v)

-- ---- candidates

-- of a row that has the value, or is forgotten, it is asked only whether it is alive
only_alive : (f : List ℕ) (v : Scalar) (version : ℕ) (s : SeenRows) → map (λ row. row.died) s.rows ≡ deaths 0 (docs_of s.rows) → s.oldest ≤ version → (place : ℕ) → may_be_at_row f v s place ≡ true
    → is_candidate None version (docs_of s.rows) place ≡ is_candidate (Some (record { field = f; value = v })) version (docs_of s.rows) place
only_alive f v version s dies readable place here =
    ap (λ o. option_map_or (λ doc. true) o false) (row_seen s.rows dies version place)
    ∙ by (slice_get s.rows place) here
    ∙ sym (ap (λ o. option_map_or (has_value_at f v) o false) (row_seen s.rows dies version place))
  where
    alike : (below alive has : Bool) (doc : Doc) → has_value_at f v doc ≡ has → ((alive ≡ false) ⊎ (has ≡ true))
        → option_map_or (λ doc. true) (cond below (cond alive (Some doc) None) None) false ≡ option_map_or (has_value_at f v) (cond below (cond alive (Some doc) None) None) false
    alike false alive has doc is either = refl
    alike true false has doc is either = refl
    alike true true has doc is (inl dead) = cc
    alike true true has doc is (inr some) = sym (is ∙ some)

    by : (o : Option SeenRow) → option_map_or (May f v s.oldest) o false ≡ true
        → option_map_or (λ doc. true) (cond (ltb place version) (doc_alive version o) None) false ≡ option_map_or (has_value_at f v) (cond (ltb place version) (doc_alive version o) None) false
    by None may = cc
    by (Some row) may =
        alike (ltb place version) (is_alive_before version row.died) (has_value_at f v row.doc) row.doc refl
        (⊎_elim
        (λ kept. inr (sym (ap (λ b. not b || has_value_at f v row.doc) kept) ∙ may))
        (λ gone. inl (still_dead s.oldest version row.died readable gone))
        (cases_Bool (is_alive_before s.oldest row.died)))

pub exact_candidates : (f : List ℕ) (v : Scalar) (version : ℕ) (s : SeenRows) → map (λ row. row.died) s.rows ≡ deaths 0 (docs_of s.rows) → s.oldest ≤ version → (above : ℕ → Bool) (places : List ℕ)
    → AllByRecursion (λ place. may_be_at_row f v s place ≡ true) places
    → filter (is_candidate None version (docs_of s.rows)) (filter above places) ≡ filter (is_candidate (Some (record { field = f; value = v })) version (docs_of s.rows)) (filter above places)
exact_candidates f v version s dies readable above places all =
    chosen_alike (may_be_at_row f v s) (is_candidate None version (docs_of s.rows)) (is_candidate (Some (record { field = f; value = v })) version (docs_of s.rows)) (filter above places)
    (all_filtered (may_be_at_row f v s) above places all) (only_alive f v version s dies readable)
