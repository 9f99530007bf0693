-- The rows of a shard ascend by their places, and so do the rows that a query looks at: those that come after the last of the first ones are the others.
use Rattle.std.specs.Prelude.{◌≡◌, ℕ, zero, suc, ◌-◌, ◌<◌, ◌≤◌, Bool, true, false, cond, List, [], ◌∷◌, ◌++◌, Option, Some, None, length, map, filter, take, drop, nat_lt, ◌==◌, refl}
use Rattle.std.specs.List.{AllByRecursion}
use Rattle.std.specs.Map.{lookup}
use Rattle.std.proofs.Common.{sym, ◌∙◌, ap, arith, true≢false, ⊎_elim}
use Rattle.std.proofs.lemmas.Bool.{lt-ltb, le-ltb, eq-eqb, ne_eqb, ltb-true, cases_lt}
use Rattle.std.proofs.lemmas.List.{length-take, length-map}
use Rattle.std.proofs.lemmas.Option.{slice_get_past}
use Rattle.std.specs.List.{slice_get}
use Rattle.std.specs.Option.{option_or}
use Rattle.std.proofs.lemmas.List.Sums.{length-filter, count_by-le-length}
use Rattle.task_ids.specs.declared.doc.Doc.{Doc}
use Rattle.task_ids.specs.Rows.{Row, has_id, living_rows, rows_at, row_at}
use Rattle.search_phase.specs.Queries.{last_place}
use Rattle.shard_docs.specs.Candidates.{is_above}

-- each place is above the one before, and the first is not below a number
abbrev pub Ascend : ℕ → List Row → Type 0
Ascend low [] = Unit {0}
Ascend low (row ∷ rows) = (low ≤ row.0) × Ascend (suc row.0) rows

pub ascend_lower : (low high : ℕ) (rows : List Row) → low ≤ high → Ascend high rows → Ascend low rows
ascend_lower low high [] h up = tt
ascend_lower low high (row ∷ rows) h up = (omega (arith, h, up.0), up.1)

-- the rows that some writes leave alive do
pub living_ascend : (first : ℕ) (writes : List Doc) → Ascend first (living_rows first writes)
living_ascend first [] = tt
living_ascend first (doc ∷ later) = by_death (has_id doc.id later) (living_ascend (suc first) later)
  where
    by_death : (dead : Bool) → Ascend (suc first) (living_rows (suc first) later) → Ascend first (cond dead (living_rows (suc first) later) ((first, doc) ∷ living_rows (suc first) later))
    by_death true up = ascend_lower first (suc first) _ (omega arith) up
    by_death false up = (omega arith, up)

-- and so do some of them
pub filter_ascend : (p : Row → Bool) (low : ℕ) (rows : List Row) → Ascend low rows → Ascend low (filter p rows)
filter_ascend p low [] up = tt
filter_ascend p low (row ∷ rows) up = by_test (p row) (filter_ascend p (suc row.0) rows up.1)
  where
    by_test : (b : Bool) → Ascend (suc row.0) (filter p rows) → Ascend low (cond b (row ∷ filter p rows) (filter p rows))
    by_test true more = (up.0, more)
    by_test false more = ascend_lower low (suc row.0) _ (let low_is : low ≤ row.0 = up.0 in omega (arith, low_is)) more

-- ---- after a place

-- the least place that comes after another
abbrev pub next_to : Option ℕ → ℕ
next_to None = 0
next_to (Some last) = suc last

is_next : (before : Option ℕ) (place : ℕ) → next_to before ≤ place → is_above before place ≡ true
is_next None place h = refl
is_next (Some last) place h = lt-ltb last place (omega (arith, h))

is_not_next : (last place : ℕ) → place ≤ last → is_above (Some last) place ≡ false
is_not_next last place h = le-ltb last place h

-- all come after a place that is below them
pub all_past : (before : Option ℕ) (rows : List Row) → Ascend (next_to before) rows → filter (λ (row : Row). is_above before row.0) rows ≡ rows
all_past before [] up = refl
all_past before (row ∷ rows) up =
    let low : next_to before ≤ row.0 = up.0 in
    ap (λ b. cond b (row ∷ filter (λ (other : Row). is_above before other.0) rows) (filter (λ (other : Row). is_above before other.0) rows)) (is_next before row.0 low)
    ∙ ap (λ later. row ∷ later) (all_past before rows (ascend_lower (next_to before) (suc row.0) rows (omega (arith, low)) up.1))

-- those that come after a place are above it
pub past_ascend : (before : Option ℕ) (low : ℕ) (rows : List Row) → Ascend low rows → Ascend (next_to before) (filter (λ (row : Row). is_above before row.0) rows)
past_ascend None low rows up = filter_ascend (λ (row : Row). true) 0 rows (ascend_lower 0 low rows (omega arith) up)
past_ascend (Some last) low [] up = tt
past_ascend (Some last) low (row ∷ rows) up = ⊎_elim here (later (past_ascend (Some last) (suc row.0) rows up.1)) (cases_lt last row.0)
  where
    rest : List Row
    rest = filter (λ (other : Row). is_above (Some last) other.0) rows

    here : last < row.0 → Ascend (suc last) (cond (nat_lt last row.0) (row ∷ rest) rest)
    here above = rw (lt-ltb last row.0 above) (above, filter_ascend (λ (other : Row). is_above (Some last) other.0) (suc row.0) rows up.1)

    later : Ascend (suc last) rest → row.0 ≤ last → Ascend (suc last) (cond (nat_lt last row.0) (row ∷ rest) rest)
    later more below = rw (le-ltb last row.0 below) more

-- the last of some rows that ascend is not below their least place
last_low : (place : ℕ) (rows : List Row) → Ascend (suc place) rows → (last : ℕ) × (last_place (Some place) rows ≡ Some last) × (place ≤ last)
last_low place [] up = (place, refl, omega arith)
last_low place (row ∷ rows) up =
    let more = last_low row.0 rows up.1 in
    let above : suc place ≤ row.0 = up.0 in
    let last : row.0 ≤ more.0 = more.2 in
    (more.0, more.1, omega (arith, above, last))

take_ascend : (n low : ℕ) (rows : List Row) → Ascend low rows → Ascend low (take n rows)
take_ascend zero low rows up = tt
take_ascend (suc n) low [] up = tt
take_ascend (suc n) low (row ∷ rows) up = (up.0, take_ascend n (suc row.0) rows up.1)

-- after the last of the first ones come the others
pub past_first : (before : Option ℕ) (n : ℕ) (rows : List Row) → Ascend (next_to before) rows → filter (λ (row : Row). is_above (last_place before (take n rows)) row.0) rows ≡ drop n rows
past_first before zero rows up = all_past before rows up
past_first before (suc n) [] up = refl
past_first before (suc n) (row ∷ rows) up =
    let last = last_low row.0 (take n rows) (take_ascend n (suc row.0) rows up.1) in
    let out : is_above (last_place (Some row.0) (take n rows)) row.0 ≡ false = ap (λ o. is_above o row.0) last.1 ∙ is_not_next last.0 row.0 last.2 in
    let rest = filter (λ (other : Row). is_above (last_place (Some row.0) (take n rows)) other.0) rows in
    ap (λ b. cond b (row ∷ rest) rest) out ∙ past_first (Some row.0) n rows up.1

-- ---- after a later place

-- the last of some rows that come after a place does so too
last_past : (before : Option ℕ) (rows : List Row) (place : ℕ) → Ascend (next_to before) rows → is_above (last_place before rows) place ≡ true → is_above before place ≡ true
last_past before [] place up h = h
last_past None (row ∷ rows) place up h = refl
last_past (Some last) (row ∷ rows) place up h =
    let more : is_above (Some row.0) place ≡ true = last_past (Some row.0) rows place up.1 h in
    let above : suc last ≤ row.0 = up.0 in
    lt-ltb last place (let past : row.0 < place = ltb-true row.0 place more in omega (arith, above, past))

-- what comes after a later place is looked for among what comes after the earlier one
among_past : (before after : Option ℕ) (rows : List Row) → ((place : ℕ) → is_above after place ≡ true → is_above before place ≡ true)
    → filter (λ (row : Row). is_above after row.0) rows ≡ filter (λ (row : Row). is_above after row.0) (filter (λ (row : Row). is_above before row.0) rows)
among_past before after [] past = refl
among_past before after (row ∷ rows) past = by_test (is_above before row.0) refl (is_above after row.0) refl (among_past before after rows past)
  where
    late : Row → Bool
    late other = is_above after other.0

    rest : List Row
    rest = filter (λ (other : Row). is_above before other.0) rows

    by_test : (early : Bool) → is_above before row.0 ≡ early → (b : Bool) → is_above after row.0 ≡ b → filter late rows ≡ filter late rest → filter late (row ∷ rows) ≡ filter late (cond early (row ∷ rest) rest)
    by_test true e b is same = ap (λ later. cond (late row) (row ∷ later) later) same
    by_test false e true is same = absurd (true≢false (sym (past row.0 is) ∙ e))
    by_test false e false is same = ap (λ b. cond b (row ∷ filter late rows) (filter late rows)) is ∙ same

-- after the first of the rows that come after a place come the others of them
pub past_more : (before : Option ℕ) (n low : ℕ) (rows : List Row) → Ascend low rows → let left = filter (λ (row : Row). is_above before row.0) rows in
    filter (λ (row : Row). is_above (last_place before (take n left)) row.0) rows ≡ drop n left
past_more before n low rows up =
    let left = filter (λ (row : Row). is_above before row.0) rows in
    let above = past_ascend before low rows up in
    among_past before (last_place before (take n left)) rows (λ place. last_past before (take n left) place (take_ascend n (next_to before) left above))
    ∙ past_first before n left above

-- the last of some rows and of more
pub last_append : (before : Option ℕ) (xs ys : List Row) → last_place (last_place before xs) ys ≡ last_place before (xs ++ ys)
last_append before [] ys = refl
last_append before (row ∷ xs) ys = last_append (Some row.0) xs ys

-- it is the last of their places, where there is one
last_some : (row : Row) (rows : List Row) → slice_get (map (λ (r : Row). r.0) (row ∷ rows)) (length rows) ≡ last_place (Some row.0) rows
last_some row [] = refl
last_some row (next ∷ rows) = last_some next rows

last_there : (place : ℕ) (rows : List Row) (before : Option ℕ) → option_or (last_place (Some place) rows) before ≡ last_place (Some place) rows
last_there place [] before = refl
last_there place (row ∷ rows) before = last_there row.0 rows before

pub last_is : (before : Option ℕ) (rows : List Row) → option_or (slice_get (map (λ (r : Row). r.0) rows) (length (map (λ (r : Row). r.0) rows) - 1)) before ≡ last_place before rows
last_is before [] = ap (λ o. option_or o before) (slice_get_past none (0 - 1) (omega arith))
  where
    none : List ℕ
    none = []
last_is before (row ∷ rows) =
    let at : length (map (λ (r : Row). r.0) (row ∷ rows)) - 1 ≡ length rows = omega (arith, length-map rows (λ (r : Row). r.0)) in
    ap (λ i. option_or (slice_get (map (λ (r : Row). r.0) (row ∷ rows)) i) before) at ∙ ap (λ o. option_or o before) (last_some row rows) ∙ last_there row.0 rows before

-- ---- each at its place

-- in rows that ascend each is found at its place
abbrev IsThere : List Row → Row → Type 0
IsThere rows row = lookup (λ other. row.0 == other) rows ≡ Some row.1

there_later : (head : Row) (rows some : List Row) → Ascend (suc head.0) some → AllByRecursion (IsThere rows) some → AllByRecursion (IsThere (head ∷ rows)) some
there_later head rows [] up all = tt
there_later head rows (row ∷ some) up all =
    let above : suc head.0 ≤ row.0 = up.0 in
    (rw (ne_eqb row.0 head.0 (λ e. omega (arith, e, above))) all.0, there_later head rows some (ascend_lower (suc head.0) (suc row.0) some (omega (arith, above)) up.1) all.1)

all_there : (low : ℕ) (rows : List Row) → Ascend low rows → AllByRecursion (IsThere rows) rows
all_there low [] up = tt
all_there low (row ∷ rows) up = (rw (eq-eqb row.0 row.0 refl) refl, there_later row rows rows up.1 (all_there (suc row.0) rows up.1))

pub all_filter : (P : Row → Type 0) (p : Row → Bool) (rows : List Row) → AllByRecursion P rows → AllByRecursion P (filter p rows)
all_filter P p [] all = tt
all_filter P p (row ∷ rows) all = by_test (p row) (all_filter P p rows all.1)
  where
    by_test : (b : Bool) → AllByRecursion P (filter p rows) → AllByRecursion P (cond b (row ∷ filter p rows) (filter p rows))
    by_test true more = (all.0, more)
    by_test false more = more

pub all_take : (P : Row → Type 0) (n : ℕ) (rows : List Row) → AllByRecursion P rows → AllByRecursion P (take n rows)
all_take P zero rows all = tt
all_take P (suc n) [] all = tt
all_take P (suc n) (row ∷ rows) all = (all.0, all_take P n rows all.1)

-- the rows of a version are found at their places
pub rows_there : (version : ℕ) (writes : List Doc) → AllByRecursion (λ row. row_at version row.0 writes ≡ Some row.1) (rows_at version writes)
rows_there version writes = all_there 0 (rows_at version writes) (living_ascend 0 (take version writes))

-- ---- how many

few_living : (first : ℕ) (writes : List Doc) → length (living_rows first writes) ≤ length writes
few_living first [] = omega arith
few_living first (doc ∷ later) = by_death (has_id doc.id later) (few_living (suc first) later)
  where
    by_death : (dead : Bool) → length (living_rows (suc first) later) ≤ length later → length (cond dead (living_rows (suc first) later) ((first, doc) ∷ living_rows (suc first) later)) ≤ suc (length later)
    by_death true few = omega (arith, few)
    by_death false few = omega (arith, few)

pub few_filter : {X : Type 0} (p : X → Bool) (xs : List X) → length (filter p xs) ≤ length xs
few_filter p xs = omega (arith, length-filter p xs, count_by-le-length p xs)

-- no more than the version
pub few_rows : (version : ℕ) (writes : List Doc) → length (rows_at version writes) ≤ version
few_rows version writes = omega (arith, few_living 0 (take version writes), length-take version writes)
