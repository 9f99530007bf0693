-- What is seen of the rows that are kept, after one was added, one died, or some were swept out.
use Rattle.std.proofs.Common.{◌≡◌, ℕ, zero, suc, ◌+◌, ◌-◌, ◌<◌, ◌≤◌, Bool, true, false, cond, List, [], ◌∷◌, ◌++◌, length, set, filter, find, Some, None, refl, sym, ap, subst, ◌∙◌, arith, ◌⊎◌, inl, inr}
use Rattle.std.proofs.lemmas.Bool.{cases_lt}
use Rattle.std.proofs.lemmas.List.{append_assoc}
use Rattle.std.specs.List.{slice_get}
use Rattle.task_ids.specs.declared.doc.Doc.{Doc}
use Rattle.shard_docs.specs.declared.rows.StoredRow.{StoredRow}
use Rattle.shard_docs.specs.Deaths.{is_alive_before}
use Rattle.shard_docs.specs.KeptRows.{gap, seen, shown, AreKept, below}
use Rattle.shard_docs.specs.SeenRows.{SeenRow, new_row}
use Rattle.shard_docs.proofs.KeptLemmas.{is_kept, skip, not_dead, some_kept, end_of, below_more, below_none, length_gap, shown_kept, shown_gone}

-- ---- one more row

abbrev pub last_row : ℕ → Doc → StoredRow
last_row place doc = record { place = place; doc = doc; died = None }

not_empty : {X : Type 0} (x : X) (xs : List X) (y : X) → xs ++ y ∷ [] ≡ [] → ⊥
not_empty x [] y e = cc
not_empty x (z ∷ xs) y e = cc

pub kept_more : (o from place : ℕ) (rows : List StoredRow) (doc : Doc) → AreKept o from rows → place ≡ end_of from rows → AreKept o from (rows ++ last_row place doc ∷ [])
kept_more o from place [] doc are e = (record { behind = omega arith; gap = λ h. absurd (omega arith); dies = λ d is. absurd cc; last = λ none. refl }, tt)
kept_more o from place (row ∷ later) doc (at, are) e =
    (record { behind = at.behind; gap = at.gap; dies = at.dies; last = λ none. absurd (not_empty row later (last_row place doc) none) }, kept_more o (suc row.place) place later doc are e)

one_more : (o from place : ℕ) (row : StoredRow) (later : List StoredRow) (doc : Doc) → is_kept o row ≡ true
    → shown o (suc row.place) (later ++ last_row place doc ∷ []) ≡ shown o (suc row.place) later ++ new_row doc ∷ []
    → shown o from (row ∷ (later ++ last_row place doc ∷ [])) ≡ shown o from (row ∷ later) ++ new_row doc ∷ []
one_more o from place row later doc kept behind =
    let here = gap row.doc from (row.place - from) in
    shown_kept o from row (later ++ last_row place doc ∷ []) kept ∙ ap (λ l. here ++ seen row ∷ l) behind
    ∙ sym (append_assoc here (seen row ∷ shown o (suc row.place) later) (new_row doc ∷ []))
    ∙ sym (ap (λ l. l ++ new_row doc ∷ []) (shown_kept o from row later kept))

pub shown_more : (o from place : ℕ) (rows : List StoredRow) (doc : Doc) → AreKept o from rows → place ≡ end_of from rows → shown o from (rows ++ last_row place doc ∷ []) ≡ shown o from rows ++ new_row doc ∷ []
shown_more o from place [] doc are e = let none : place - from ≡ 0 = omega arith in ap (λ n. gap doc from n ++ new_row doc ∷ []) none
shown_more o from place (row ∷ []) doc (at, are) e =
    one_more o from place row [] doc (ap (is_alive_before o) (at.last refl)) (shown_more o (suc row.place) place [] doc tt e)
shown_more o from place (row ∷ next ∷ rest) doc (at, are) e =
    by (is_kept o row) refl (shown_more o (suc row.place) place (next ∷ rest) doc are e) (λ gone. shown_more o from place (next ∷ rest) doc (skip o from row (next ∷ rest) at gone are) e)
  where
    later : List StoredRow
    later = next ∷ rest

    more : List StoredRow
    more = later ++ last_row place doc ∷ []

    by : (b : Bool) → is_kept o row ≡ b → shown o (suc row.place) more ≡ shown o (suc row.place) later ++ new_row doc ∷ [] → (is_kept o row ≡ false → shown o from more ≡ shown o from later ++ new_row doc ∷ [])
        → shown o from (row ∷ more) ≡ shown o from (row ∷ later) ++ new_row doc ∷ []
    by true kept behind skipped = one_more o from place row later doc kept behind
    by false gone behind skipped = shown_gone o from row more gone ∙ skipped gone ∙ sym (ap (λ l. l ++ new_row doc ∷ []) (shown_gone o from row later gone))

-- ---- a row dies

abbrev pub died_row : StoredRow → ℕ → StoredRow
died_row row version = record row { died = Some version }

set_some : {X : Type 0} (j : ℕ) (x y : X) (xs : List X) → set (x ∷ xs) j y ≡ [] → ⊥
set_some zero x y xs none = cc
set_some (suc j) x y xs none = cc

none_left : {X : Type 0} (i : ℕ) (xs : List X) (y : X) → i < length xs → set xs i y ≡ [] → ⊥
none_left i [] y h none = omega (arith, h)
none_left i (x ∷ xs) y h none = set_some i x y xs none

pub kept_died : (o from i version : ℕ) (rows : List StoredRow) (row : StoredRow) → AreKept o from rows → slice_get rows i ≡ Some row → suc i < length rows → suc row.place < version
    → AreKept o from (set rows i (died_row row version))
kept_died o from i version [] row are here behind later = absurd (omega arith)
kept_died o from zero version (first ∷ []) row are here behind later = absurd (omega arith)
kept_died o from zero version (first ∷ (next ∷ rest)) row (at, are) here behind later =
    let same : first ≡ row = cc in
    let place : first.place ≡ row.place = ap (λ (r : StoredRow). r.place) same in (
      record {
        behind = subst (λ p. from ≤ p) place at.behind;
        gap = subst (λ p. from < p → p < o) place at.gap;
        dies = λ d is. let v : version ≡ d = cc in omega arith;
        last = λ none. absurd cc;
      },
      subst (λ p. AreKept o (suc p) (next ∷ rest)) place are,
    )
kept_died o from (suc i) version (first ∷ later) row (at, are) here behind dies =
    (record { behind = at.behind; gap = at.gap; dies = at.dies; last = λ none. absurd (none_left i later (died_row row version) (omega arith) none) }, kept_died o (suc first.place) i version later row are here (omega arith) dies)

set_past : {X : Type 0} (front rest : List X) (i j : ℕ) (x : X) → i ≡ length front + j → set (front ++ rest) i x ≡ front ++ set rest j x
set_past [] rest i j x e = ap (λ k. set rest k x) (omega arith)
set_past (y ∷ front) rest zero j x e = absurd (omega arith)
set_past (y ∷ front) rest (suc i) j x e = ap (λ l. y ∷ l) (set_past front rest i j x (omega arith))

-- it is the first of them
died_first : (o from i version : ℕ) (row : StoredRow) (rest : List StoredRow) → from ≤ row.place → is_kept o row ≡ true → o < version → row.place ≡ from + i
    → shown o from (died_row row version ∷ rest) ≡ set (shown o from (row ∷ rest)) i (record { doc = row.doc; died = Some version })
died_first o from i version row rest behind kept later e =
    let gaps = gap row.doc from (row.place - from) in
    let count : i ≡ length gaps + 0 = omega (arith, length_gap row.doc from (row.place - from)) in
    let now : SeenRow = record { doc = row.doc; died = Some version } in
    shown_kept o from (died_row row version) rest (not_dead o version (Some version) refl later)
    ∙ sym (set_past gaps (seen row ∷ shown o (suc row.place) rest) i 0 now count)
    ∙ ap (λ l. set l i now) (sym (shown_kept o from row rest kept))

pub shown_died : (o from i version : ℕ) (rows : List StoredRow) (row : StoredRow) → AreKept o from rows → slice_get rows (below row.place rows) ≡ Some row → is_kept o row ≡ true → o < version → row.place ≡ from + i
    → shown o from (set rows (below row.place rows) (died_row row version)) ≡ set (shown o from rows) i (record { doc = row.doc; died = Some version })
shown_died o from i version [] row are here kept later e = absurd cc
shown_died o from i version (first ∷ rest) row (at, are) here kept later e =
    by (is_kept o first) refl (cases_lt first.place row.place)
    (λ j there is. shown_died o (suc first.place) j version rest row are there kept later is)
    (λ there gone. shown_died o from i version rest row (skip o from first rest at gone are) there kept later e)
  where
    n : ℕ
    n = first.place - from

    dead : StoredRow
    dead = died_row row version

    now : SeenRow
    now = record { doc = row.doc; died = Some version }

    There : Type 0
    There = slice_get rest (below row.place rest) ≡ Some row

    there_is : first.place < row.place → There
    there_is above = sym (ap (slice_get (first ∷ rest)) (below_more row.place first rest above)) ∙ here

    Set : ℕ → ℕ → List StoredRow → Type 0
    Set place j rows = shown o place (set rows (below row.place rows) dead) ≡ set (shown o place rows) j now

    by : (b : Bool) → is_kept o first ≡ b → (first.place < row.place) ⊎ (row.place ≤ first.place) → ((j : ℕ) → There → row.place ≡ suc first.place + j → Set (suc first.place) j rest)
        → (There → is_kept o first ≡ false → Set from i rest) → Set from i (first ∷ rest)
    by b is (inr low) behind skipped =
        let same : Some first ≡ Some row = sym (ap (slice_get (first ∷ rest)) (below_none row.place first rest low)) ∙ here in
        let one : row ≡ first = cc in
        ap (λ k. shown o from (set (first ∷ rest) k dead)) (below_none row.place first rest low)
        ∙ died_first o from i version row rest (subst (λ (r : StoredRow). from ≤ r.place) (sym one) at.behind) kept later e
        ∙ ap (λ (r : StoredRow). set (shown o from (r ∷ rest)) i now) one
    by true alive (inl above) behind skipped =
        let behind_from = at.behind in
        let j : ℕ = row.place - suc first.place in
        let gaps = gap first.doc from n in
        let count : i ≡ length gaps + suc j = omega (arith, length_gap first.doc from n) in
        ap (λ k. shown o from (set (first ∷ rest) k dead)) (below_more row.place first rest above)
        ∙ shown_kept o from first (set rest (below row.place rest) dead) alive
        ∙ ap (λ l. gaps ++ seen first ∷ l) (behind j (there_is above) (omega arith))
        ∙ sym (set_past gaps (seen first ∷ shown o (suc first.place) rest) i (suc j) now count)
        ∙ ap (λ l. set l i now) (sym (shown_kept o from first rest alive))
    by false gone (inl above) behind skipped =
        ap (λ k. shown o from (set (first ∷ rest) k dead)) (below_more row.place first rest above)
        ∙ shown_gone o from first (set rest (below row.place rest) dead) gone
        ∙ skipped (there_is above) gone
        ∙ ap (λ l. set l i now) (sym (shown_gone o from first rest gone))

-- ---- what is forgotten is swept out

none_kept : (o : ℕ) (rows : List StoredRow) → filter (is_kept o) rows ≡ [] → find (is_kept o) rows ≡ None
none_kept o [] e = refl
none_kept o (row ∷ later) e = by (is_kept o row) refl (none_kept o later)
  where
    left : List StoredRow
    left = filter (is_kept o) later

    some : row ∷ left ≡ [] → ⊥
    some h = cc

    by : (b : Bool) → is_kept o row ≡ b → (left ≡ [] → find (is_kept o) later ≡ None) → find (is_kept o) (row ∷ later) ≡ None
    by true is none = absurd (some (sym (ap (λ b. cond b (row ∷ left) left) is) ∙ e))
    by false is none = ap (λ b. cond b (Some row) (find (is_kept o) later)) is ∙ none (sym (ap (λ b. cond b (row ∷ left) left) is) ∙ e)

still_last : (o : ℕ) (row : StoredRow) (later : List StoredRow) → (later ≡ [] → row.died ≡ None) → AreKept o (suc row.place) later → filter (is_kept o) later ≡ [] → row.died ≡ None
still_last o row [] last are none = last refl
still_last o row (next ∷ rest) last are none =
    let found = some_kept o (suc row.place) next rest are in
    let apart : None ≡ Some found.0 = sym (none_kept o (next ∷ rest) none) ∙ found.1 in
    cc

pub kept_swept : (o from : ℕ) (rows : List StoredRow) → AreKept o from rows → AreKept o from (filter (is_kept o) rows)
kept_swept o from [] are = tt
kept_swept o from (row ∷ later) (at, are) = by (is_kept o row) refl (kept_swept o (suc row.place) later are) (λ gone. kept_swept o from later (skip o from row later at gone are))
  where
    left : List StoredRow
    left = filter (is_kept o) later

    by : (b : Bool) → is_kept o row ≡ b → AreKept o (suc row.place) left → (is_kept o row ≡ false → AreKept o from left) → AreKept o from (filter (is_kept o) (row ∷ later))
    by true is behind skipped =
        subst (AreKept o from) (sym (ap (λ b. cond b (row ∷ left) left) is))
        (record { behind = at.behind; gap = at.gap; dies = at.dies; last = still_last o row later at.last are }, behind)
    by false is behind skipped = subst (AreKept o from) (sym (ap (λ b. cond b (row ∷ left) left) is)) (skipped is)

pub shown_swept : (o from : ℕ) (rows : List StoredRow) → shown o from (filter (is_kept o) rows) ≡ shown o from rows
shown_swept o from [] = refl
shown_swept o from (row ∷ later) = by (is_kept o row) refl (shown_swept o (suc row.place) later) (shown_swept o from later)
  where
    left : List StoredRow
    left = filter (is_kept o) later

    by : (b : Bool) → is_kept o row ≡ b → shown o (suc row.place) left ≡ shown o (suc row.place) later → shown o from left ≡ shown o from later
        → shown o from (filter (is_kept o) (row ∷ later)) ≡ shown o from (row ∷ later)
    by true is behind skipped =
        ap (λ b. shown o from (cond b (row ∷ left) left)) is ∙ shown_kept o from row left is ∙ ap (λ l. gap row.doc from (row.place - from) ++ seen row ∷ l) behind
        ∙ sym (shown_kept o from row later is)
    by false is behind skipped = ap (λ b. shown o from (cond b (row ∷ left) left)) is ∙ skipped ∙ sym (shown_gone o from row later is)
