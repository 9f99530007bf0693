-- The tables of a shard while it is written to, and after rows were forgotten.
use Rattle.std.proofs.Common.{◌≡◌, ℕ, zero, suc, ◌<◌, ◌≤◌, ◌^◌, Bool, true, false, not, ◌&&◌, ◌||◌, List, [], ◌∷◌, ◌++◌, length, set, filter, Some, None, refl, sym, ap, subst, ◌∙◌, arith, true≢false, length-set}
use Rattle.std.proofs.lemmas.Bool.{le-ltb, lt-ltb}
use Rattle.std.proofs.lemmas.List.{length-map, length_push}
use Rattle.std.specs.List.{slice_get}
use Rattle.std.specs.Prelude.{nat_lt}
use Rattle.std.specs.Option.{option_map_or}
use Rattle.task_ids.specs.declared.doc.Doc.{Doc}
use Rattle.query_match.specs.declared.scalar.Scalar.{Scalar}
use Rattle.shard_docs.specs.declared.index.Index.{Index}
use Rattle.shard_docs.specs.Deaths.{is_alive_before}
use Rattle.shard_docs.specs.declared.numbers.Numbers.{Numbers}
use Rattle.shard_docs.specs.Numbers.{has_number, AreNumbersOf}
use Rattle.shard_docs.specs.Places.{MayAdd, KeepsUnless, has_value_at, IsIndexOf, IsExactFor}
use Rattle.shard_docs.specs.SeenRows.{SeenRow, SeenRows, new_row, forgotten}
use Rattle.shard_docs.specs.ShardView.{ShardView}
use Rattle.shard_docs.specs.Shown.{ShowsFrom}
use Rattle.shard_docs.specs.Tables.{last_place, IsTables, AreDeaths}
use Rattle.shard_docs.proofs.DeathQueue.{none_kept, none_more, one_more, kept_above}
use Rattle.shard_docs.proofs.Exact.{MayHave, still_exact, exact_still}
use Rattle.shard_docs.proofs.Forgetting.{Dies, as_many, still_die, same_rows, same_last, stays, died_early, next, now, later_die}
use Rattle.shard_docs.proofs.Indexed.{At, HasAll, with_row, indexed, still_indexed, index_of_fewer, alike_set}
use Rattle.shard_docs.proofs.KeptForgotten.{alive_then}
use Rattle.shard_docs.proofs.Numbered.{numbers_still}
use Rattle.shard_docs.proofs.TableLemmas.{Living, docs_of}

pub same_writes : {s t : ShardView} → s ≡ t → s.writes ≡ t.writes
same_writes e = ap (λ (v : ShardView). v.writes) e

pub same_oldest : {s t : ShardView} → s ≡ t → s.oldest ≡ t.oldest
same_oldest e = ap (λ (v : ShardView). v.oldest) e

-- what a shard keeps of its rows
abbrev pub Holds : SeenRows → Living → Index → Bool → Numbers → Type 0
Holds s living index spoiled numbers = IsTables s.rows living × (s.oldest ≤ length s.rows) × IsIndexOf s index × (spoiled ≡ false → IsExactFor s index) × AreNumbersOf s numbers

-- the part of it that tells where values and numbers are
abbrev Told : SeenRows → Index → Bool → Numbers → Type 0
Told s index spoiled numbers = IsIndexOf s index × (spoiled ≡ false → IsExactFor s index) × AreNumbersOf s numbers

abbrev rows_with : SeenRows → List SeenRow → ℕ → SeenRows
rows_with s rows oldest = record { rows = rows; oldest = oldest; room = s.room }

-- the same rows, with more room perhaps
pub alike : (s t : SeenRows) (living : Living) (index : Index) (spoiled : Bool) (numbers : Numbers) → t.rows ≡ s.rows → t.oldest ≡ s.oldest → Holds s living index spoiled numbers → Holds t living index spoiled numbers
alike s t living index spoiled numbers rows oldest holds =
    subst (λ o. Holds (rows_with t t.rows o) living index spoiled numbers) (sym oldest) (subst (λ l. Holds (rows_with t l s.oldest) living index spoiled numbers) (sym rows) holds)

pub alike_deaths : (s t : SeenRows) (old new : List ℕ) → t.rows ≡ s.rows → t.oldest ≡ s.oldest → new ≡ old → AreDeaths s.oldest (docs_of s.rows) old → AreDeaths t.oldest (docs_of t.rows) new
alike_deaths s t old new rows oldest same are =
    subst (λ o. AreDeaths o (docs_of t.rows) new) (sym oldest) (subst (λ l. AreDeaths s.oldest (docs_of l) new) (sym rows) (subst (AreDeaths s.oldest (docs_of s.rows)) (sym same) are))

pub no_deaths : (s : SeenRows) (deaths : List ℕ) → s.rows ≡ [] → s.oldest ≡ 0 → deaths ≡ [] → AreDeaths s.oldest (docs_of s.rows) deaths
no_deaths s deaths rows oldest none = subst (λ o. AreDeaths o (docs_of s.rows) deaths) (sym oldest) (subst (λ l. AreDeaths 0 (docs_of l) deaths) (sym rows) (subst (AreDeaths 0 []) (sym none) none_kept))

-- ---- forgetting

module _ (f : List ℕ) (v : Scalar) (o p : ℕ) (later_oldest : o ≤ p) where
  at_falls : (place i : ℕ) (rows : List SeenRow) → Dies place rows → option_map_or (At f v o) (slice_get rows i) false ≡ false → option_map_or (At f v p) (slice_get (forgotten p place rows) i) false ≡ false
  at_falls place i [] dies e = e
  at_falls place zero (row ∷ later) dies e = by (is_alive_before p row.died) refl
    where
      by : (b : Bool) → is_alive_before p row.died ≡ b → option_map_or (At f v p) (slice_get (forgotten p place (row ∷ later)) 0) false ≡ false
      by true kept =
          let was = alive_then o p row.died later_oldest kept in
          let none : has_value_at f v row.doc ≡ false = sym (ap (λ b. b && has_value_at f v row.doc) was) ∙ e in
          ap (λ l. option_map_or (At f v p) (slice_get l 0) false) (stays p place row later kept) ∙ ap (λ b. b && has_value_at f v row.doc) kept ∙ none
      by false gone =
          let early = died_early p place row later dies gone in
          ap (λ l. option_map_or (At f v p) (slice_get l 0) false) (now p place row later dies gone) ∙ ap (λ b. b && has_value_at f v (next p place row later dies gone).0.doc) (le-ltb p (suc (suc place)) (omega arith))
  at_falls place (suc i) (row ∷ later) dies e =
      let rest = at_falls (suc place) i later (later_die place row later dies) e in
      by (is_alive_before p row.died) refl rest
    where
      by : (b : Bool) → is_alive_before p row.died ≡ b → option_map_or (At f v p) (slice_get (forgotten p (suc place) later) i) false ≡ false → option_map_or (At f v p) (slice_get (forgotten p place (row ∷ later)) (suc i)) false ≡ false
      by true kept rest = ap (λ l. option_map_or (At f v p) (slice_get l (suc i)) false) (stays p place row later kept) ∙ rest
      by false gone rest = ap (λ l. option_map_or (At f v p) (slice_get l (suc i)) false) (now p place row later dies gone) ∙ rest

module _ (has : Doc → Bool) (o p : ℕ) (later_oldest : o ≤ p) where
  may_still : (place i : ℕ) (rows : List SeenRow) → Dies place rows → option_map_or (MayHave has o) (slice_get rows i) false ≡ true → option_map_or (MayHave has p) (slice_get (forgotten p place rows) i) false ≡ true
  may_still place i [] dies e = e
  may_still place zero (row ∷ later) dies e = by (is_alive_before p row.died) refl
    where
      by : (b : Bool) → is_alive_before p row.died ≡ b → option_map_or (MayHave has p) (slice_get (forgotten p place (row ∷ later)) 0) false ≡ true
      by true kept =
          let was = alive_then o p row.died later_oldest kept in
          let some : has row.doc ≡ true = sym (ap (λ b. not b || has row.doc) was) ∙ e in
          ap (λ l. option_map_or (MayHave has p) (slice_get l 0) false) (stays p place row later kept) ∙ ap (λ b. not b || has row.doc) kept ∙ some
      by false gone =
          let early = died_early p place row later dies gone in
          ap (λ l. option_map_or (MayHave has p) (slice_get l 0) false) (now p place row later dies gone) ∙ ap (λ b. not b || has (next p place row later dies gone).0.doc) (le-ltb p (suc (suc place)) (omega arith))
  may_still place (suc i) (row ∷ later) dies e =
      let rest = may_still (suc place) i later (later_die place row later dies) e in
      by (is_alive_before p row.died) refl rest
    where
      by : (b : Bool) → is_alive_before p row.died ≡ b → option_map_or (MayHave has p) (slice_get (forgotten p (suc place) later) i) false ≡ true → option_map_or (MayHave has p) (slice_get (forgotten p place (row ∷ later)) (suc i)) false ≡ true
      by true kept rest = ap (λ l. option_map_or (MayHave has p) (slice_get l (suc i)) false) (stays p place row later kept) ∙ rest
      by false gone rest = ap (λ l. option_map_or (MayHave has p) (slice_get l (suc i)) false) (now p place row later dies gone) ∙ rest

pub purged : (s t : SeenRows) (living : Living) (index : Index) (spoiled : Bool) (numbers : Numbers) (oldest : ℕ) → t.rows ≡ forgotten oldest 0 s.rows → t.oldest ≡ oldest → s.oldest ≤ oldest → oldest ≤ length s.rows
    → Holds s living index spoiled numbers → Holds t living index spoiled numbers
purged s t living index spoiled numbers oldest rows is above within (tables, low, places, exact, known) =
    let left : SeenRows = rows_with t (forgotten oldest 0 s.rows) oldest in
    let many = as_many oldest 0 s.rows tables.died in
    alike left t living index spoiled numbers rows is (
      record {
        few = subst (λ n. n < 2 ^ 32) (sym many) tables.few;
        died = still_die oldest 0 s.rows tables.died;
        places = λ id. tables.places id ∙ sym (same_last id oldest 0 s.rows tables.died);
      },
      subst (λ n. oldest ≤ n) (sym many) within,
      index_of_fewer s left index many (λ f v i. at_falls f v s.oldest oldest above 0 i s.rows tables.died) places,
      λ clean. exact_still s left index (λ f v i. may_still (has_value_at f v) s.oldest oldest above 0 i s.rows tables.died) (exact clean),
      numbers_still s left numbers (λ f n. may_still (has_number f n.number) s.oldest oldest above 0 n.place s.rows tables.died) known,
    )

pub shows : (s t : SeenRows) (oldest : ℕ) → t.rows ≡ forgotten oldest 0 s.rows → Dies 0 s.rows → ShowsFrom oldest (docs_of s.rows) (docs_of t.rows)
shows s t oldest rows dies =
    let many = as_many oldest 0 s.rows dies in
    subst (λ l. ShowsFrom oldest (docs_of s.rows) (docs_of l)) (sym rows) (record {
      as_many = length-map (forgotten oldest 0 s.rows) (λ (r : SeenRow). r.doc) ∙ many ∙ sym (length-map s.rows (λ (r : SeenRow). r.doc));
      rows = λ version from. same_rows oldest version s.rows dies from;
    })

-- the deaths that are kept of the rows that are left
pub deaths_left : (s t : SeenRows) (oldest : ℕ) (deaths left : List ℕ) → t.rows ≡ forgotten oldest 0 s.rows → t.oldest ≡ oldest → s.oldest ≤ oldest → Dies 0 s.rows → left ≡ filter (λ died. nat_lt oldest died) deaths
    → AreDeaths s.oldest (docs_of s.rows) deaths → AreDeaths t.oldest (docs_of t.rows) left
deaths_left s t oldest deaths left rows is above dies kept are =
    subst (λ o. AreDeaths o (docs_of t.rows) left) (sym is)
    (subst (AreDeaths oldest (docs_of t.rows)) (sym kept) (kept_above s.oldest (docs_of s.rows) deaths are oldest (docs_of t.rows) above (shows s t oldest rows dies)))

-- ---- one more write

-- the places of it may be in the index already
pub prepared : (s : SeenRows) (living : Living) (old new : Index) (place : ℕ) (was spoiled : Bool) (numbers : Numbers) → place ≡ length s.rows → MayAdd place old new → Holds s living old was numbers
    → Holds s living new true numbers
prepared s living old new place was spoiled numbers at may (tables, low, places, exact, known) = (tables, low, still_indexed s place old new at places may, λ clean. absurd (true≢false clean), known)

-- and then its row stands
pub written : (s : SeenRows) (doc : Doc) (room place : ℕ) (old new : Index) (spoiled : Bool) → place ≡ length s.rows → MayAdd place old new → HasAll place doc.source old new
    → KeepsUnless (λ f v. has_value_at f v doc) old new → IsIndexOf s old → (spoiled ≡ false → IsExactFor s old) → IsIndexOf (with_row s doc room) new × (spoiled ≡ false → IsExactFor (with_row s doc room) new)
written s doc room place old new spoiled at may added kept places exact =
    (indexed s doc room place old new at places may added, λ clean. still_exact s doc room place old new at (exact clean) may kept)

pub with_next : (s : SeenRows) (doc : Doc) → s.oldest ≤ length s.rows → s.oldest ≤ length (s.rows ++ new_row doc ∷ [])
with_next s doc low = omega (arith, length_push s.rows (new_row doc))

-- a row that has no death is one more
pub written_deaths : (s t : SeenRows) (doc : Doc) (deaths same : List ℕ) → s.oldest ≤ length s.rows → last_place doc.id (docs_of s.rows) ≡ None → docs_of t.rows ≡ docs_of s.rows ++ doc ∷ [] → t.oldest ≡ s.oldest → same ≡ deaths
    → AreDeaths s.oldest (docs_of s.rows) deaths → AreDeaths t.oldest (docs_of t.rows) same
written_deaths s t doc deaths same low none docs oldest is are =
    let within : s.oldest ≤ length (docs_of s.rows) = let many = length-map s.rows (λ (r : SeenRow). r.doc) in omega arith in
    subst (λ o. AreDeaths o (docs_of t.rows) same) (sym oldest)
    (subst (λ l. AreDeaths s.oldest l same) (sym docs) (subst (AreDeaths s.oldest (docs_of s.rows ++ doc ∷ [])) (sym is) (none_more s.oldest (docs_of s.rows) deaths are doc within none)))

-- or takes the place of one, whose death is kept then
pub replaced_deaths : (s t : SeenRows) (doc : Doc) (place version : ℕ) (deaths more : List ℕ) → s.oldest ≤ length s.rows → last_place doc.id (docs_of s.rows) ≡ Some place → version ≡ suc (length s.rows)
    → docs_of t.rows ≡ docs_of s.rows ++ doc ∷ [] → t.oldest ≡ s.oldest → more ≡ deaths ++ version ∷ [] → AreDeaths s.oldest (docs_of s.rows) deaths → AreDeaths t.oldest (docs_of t.rows) more
replaced_deaths s t doc place version deaths more low some at docs oldest is are =
    let many = length-map s.rows (λ (r : SeenRow). r.doc) in
    let within : s.oldest ≤ length (docs_of s.rows) = omega arith in
    subst (λ o. AreDeaths o (docs_of t.rows) more) (sym oldest)
    (subst (λ l. AreDeaths s.oldest l more) (sym docs)
    (subst (AreDeaths s.oldest (docs_of s.rows ++ doc ∷ [])) (sym is) (one_more s.oldest (docs_of s.rows) deaths are doc within place version some (omega (arith, at, many)))))

-- and another dies, at a version that can be read
pub replaced : (s t : SeenRows) (i version : ℕ) (row : SeenRow) (index : Index) (spoiled : Bool) (numbers : Numbers) → slice_get s.rows i ≡ Some row → row.died ≡ None → s.oldest < version
    → t.rows ≡ set s.rows i (record row { died = Some version }) → t.oldest ≡ s.oldest → IsIndexOf s index → (spoiled ≡ false → IsExactFor s index) → AreNumbersOf s numbers
    → IsIndexOf t index × (spoiled ≡ false → IsExactFor t index) × AreNumbersOf t numbers
replaced s t i version row index spoiled numbers here alive later rows oldest places exact known =
    let dead : SeenRow = record row { died = Some version } in
    let now_dead : SeenRows = rows_with t (set s.rows i dead) s.oldest in
    let kept : is_alive_before s.oldest row.died ≡ is_alive_before s.oldest dead.died = ap (is_alive_before s.oldest) alive ∙ sym (lt-ltb s.oldest version later) in
    let same_at : (f : List ℕ) (v : Scalar) → At f v s.oldest row ≡ At f v s.oldest dead = λ f v. ap (λ b. b && has_value_at f v row.doc) kept in
    let same_may : (has : Doc → Bool) → MayHave has s.oldest row ≡ MayHave has s.oldest dead = λ has. ap (λ b. not b || has row.doc) kept in
    let still : (has : Doc → Bool) (place : ℕ) → option_map_or (MayHave has s.oldest) (slice_get s.rows place) false ≡ true → option_map_or (MayHave has s.oldest) (slice_get (set s.rows i dead) place) false ≡ true =
    λ has place may. sym (alike_set (MayHave has s.oldest) s.rows i place row dead here (same_may has)) ∙ may in
    let all : Told now_dead index spoiled numbers = (
      index_of_fewer s now_dead index (length-set s.rows i dead) (λ f v place none. sym (alike_set (At f v s.oldest) s.rows i place row dead here (same_at f v)) ∙ none) places,
      λ clean. exact_still s now_dead index (λ f v. still (has_value_at f v)) (exact clean),
      numbers_still s now_dead numbers (λ f n. still (has_number f n.number) n.place) known,
    ) in
    subst (λ o. Told (rows_with t t.rows o) index spoiled numbers) (sym oldest) (subst (λ l. Told (rows_with t l s.oldest) index spoiled numbers) (sym rows) all)
