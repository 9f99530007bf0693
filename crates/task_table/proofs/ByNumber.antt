-- A row that is found by its place, among rows that ascend, is the one of its number: what is done at the place is
-- done at the number.
use Rattle.std.proofs.Common.{◌≡◌, ◌≢◌, ℕ, zero, suc, ◌<◌, List, [], ◌∷◌, length, get_or, set, map, Some, None, refl, ap, sym, arith, All}
use Rattle.std.specs.List.{remove}
use Rattle.std.proofs.lemmas.Bool.{eq-eqb, ne_eqb}
use Rattle.task_ids.specs.declared.task_info.TaskInfo.{TaskInfo}
use Rattle.task_table.specs.Rows.{IsAscending, marked, row_among, without_number}

IsAscending-tail : (row : TaskInfo) (rows : List TaskInfo) → IsAscending (row ∷ rows) → IsAscending rows
IsAscending-tail row rows up i j d before within = up (suc i) (suc j) d (omega arith) (omega arith)

IsAscending-head : (row : TaskInfo) (rows : List TaskInfo) → IsAscending (row ∷ rows) → All (λ other. row.id.number < other.id.number) rows
IsAscending-head row rows up k d within = up 0 (suc k) d (omega arith) (omega arith)

others_differ : (row : TaskInfo) (rows : List TaskInfo) (number : ℕ) → IsAscending (row ∷ rows) → row.id.number ≡ number → All (λ other. other.id.number ≢ number) rows
others_differ row rows number up same k d within equal = let below = IsAscending-head row rows up k d within in omega (arith, below, same, equal)

rest_differ : (number : ℕ) (row : TaskInfo) (rows : List TaskInfo) → All (λ other. other.id.number ≢ number) (row ∷ rows) → All (λ other. other.id.number ≢ number) rows
rest_differ number row rows differ k d within = differ (suc k) d (omega arith)

-- no row of the number
pub row_among_none : (number : ℕ) (rows : List TaskInfo) → All (λ row. row.id.number ≢ number) rows → row_among number rows ≡ None
row_among_none number [] differ = refl
row_among_none number (row ∷ rows) differ =
    rw (ne_eqb row.id.number number (differ 0 row (omega arith))) (row_among_none number rows (rest_differ number row rows differ))

pub without_number_none : (number : ℕ) (rows : List TaskInfo) → All (λ row. row.id.number ≢ number) rows → without_number number rows ≡ rows
without_number_none number [] differ = refl
without_number_none number (row ∷ rows) differ =
    rw (ne_eqb row.id.number number (differ 0 row (omega arith))) (ap (λ rest. row ∷ rest) (without_number_none number rows (rest_differ number row rows differ)))

marked_none : (number cancel : ℕ) (rows : List TaskInfo) → All (λ row. row.id.number ≢ number) rows → map (marked number cancel) rows ≡ rows
marked_none number cancel [] differ = refl
marked_none number cancel (row ∷ rows) differ =
    rw (ne_eqb row.id.number number (differ 0 row (omega arith))) (ap (λ rest. row ∷ rest) (marked_none number cancel rows (rest_differ number row rows differ)))

-- the row of the number stands at a place
pub row_among_at : (number : ℕ) (rows : List TaskInfo) (place : ℕ) (d : TaskInfo) → IsAscending rows → place < length rows → (get_or rows place d).id.number ≡ number → row_among number rows ≡ Some (get_or rows place d)
row_among_at number [] place d up within same = absurd (omega arith)
row_among_at number (row ∷ rows) zero d up within same = rw (eq-eqb row.id.number number same) refl
row_among_at number (row ∷ rows) (suc place) d up within same =
    let below = IsAscending-head row rows up place d (omega arith) in
    rw (ne_eqb row.id.number number (λ equal. omega (arith, below, same, equal))) (row_among_at number rows place d (IsAscending-tail row rows up) (omega arith) same)

pub without_number_at : (number : ℕ) (rows : List TaskInfo) (place : ℕ) (d : TaskInfo) → IsAscending rows → place < length rows → (get_or rows place d).id.number ≡ number → remove rows place ≡ without_number number rows
without_number_at number [] place d up within same = absurd (omega arith)
without_number_at number (row ∷ rows) zero d up within same =
    rw (eq-eqb row.id.number number same) (sym (without_number_none number rows (others_differ row rows number up same)))
without_number_at number (row ∷ rows) (suc place) d up within same =
    let below = IsAscending-head row rows up place d (omega arith) in
    rw (ne_eqb row.id.number number (λ equal. omega (arith, below, same, equal))) (ap (λ rest. row ∷ rest) (without_number_at number rows place d (IsAscending-tail row rows up) (omega arith) same))

pub marked_at : (number cancel : ℕ) (rows : List TaskInfo) (place : ℕ) (marked_row : TaskInfo) → IsAscending rows → place < length rows → marked_row ≡ get_or rows place marked_row → (get_or rows place marked_row).id.number ≡ number
    → set rows place (record marked_row { cancelled = Some cancel }) ≡ map (marked number cancel) rows
marked_at number cancel [] place r up within read same = absurd (omega arith)
marked_at number cancel (row ∷ rows) zero r up within read same =
    rw (eq-eqb row.id.number number same, read) (ap (λ rest. record row { cancelled = Some cancel } ∷ rest) (sym (marked_none number cancel rows (others_differ row rows number up same))))
marked_at number cancel (row ∷ rows) (suc place) r up within read same =
    let below = IsAscending-head row rows up place r (omega arith) in
    rw (ne_eqb row.id.number number (λ equal. omega (arith, below, same, equal))) (ap (λ rest. row ∷ rest) (marked_at number cancel rows place r (IsAscending-tail row rows up) (omega arith) read same))
