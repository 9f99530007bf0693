-- Rows that died before a version are seen as forgotten once that version is the oldest.
use Rattle.std.proofs.Common.{◌≡◌, ℕ, Option, zero, suc, ◌+◌, ◌-◌, ◌<◌, ◌≤◌, Bool, true, false, cond, List, [], ◌∷◌, ◌++◌, Some, refl, sym, ap, ◌∙◌, arith, true≢false}
use Rattle.std.proofs.lemmas.Bool.{le-ltb}
use Rattle.std.proofs.lemmas.List.{append_assoc}
use Rattle.task_ids.specs.declared.doc.Doc.{Doc}
use Rattle.shard_docs.specs.declared.rows.StoredRow.{StoredRow}
use Rattle.shard_docs.specs.Deaths.{is_alive_before}
use Rattle.shard_docs.specs.KeptRows.{gap, seen, shown, IsKeptAt, AreKept}
use Rattle.shard_docs.specs.SeenRows.{SeenRow, as_next, forgotten}
use Rattle.shard_docs.proofs.KeptLemmas.{is_kept, skip, raised, has_died, still_dead, shown_kept, shown_gone, gap_parts}

first_of_gap : (doc : Doc) (n p : ℕ) (row : SeenRow) (later : List SeenRow) → row.doc ≡ doc → (first : SeenRow) (rest : List SeenRow) → gap doc p n ++ row ∷ later ≡ first ∷ rest → doc ≡ first.doc
first_of_gap doc zero p row later same first rest h = let e : row ≡ first = cc in sym same ∙ ap (λ (r : SeenRow). r.doc) e
first_of_gap doc (suc n) p row later same first rest h = let e : record { doc = doc; died = Some (suc (suc p)) } ≡ first = cc in ap (λ (r : SeenRow). r.doc) e

-- what is seen from a place on, where the first row that is kept stands behind a later one: more of its document
kept_back : (o from m n : ℕ) (row : StoredRow) (later : List StoredRow) → m ≡ from + n → m ≤ row.place → is_kept o row ≡ true
    → (first : SeenRow) (rest : List SeenRow) → shown o m (row ∷ later) ≡ first ∷ rest → shown o from (row ∷ later) ≡ gap first.doc from n ++ first ∷ rest
kept_back o from m n row later e behind kept first rest is =
    let k : ℕ = row.place - m in
    let all : row.place - from ≡ n + k = omega arith in
    let left = seen row ∷ shown o (suc row.place) later in
    let now : gap row.doc m k ++ left ≡ first ∷ rest = sym (shown_kept o m row later kept) ∙ is in
    let doc = first_of_gap row.doc k m (seen row) (shown o (suc row.place) later) refl first rest now in
    shown_kept o from row later kept
    ∙ ap (λ c. gap row.doc from c ++ left) all
    ∙ ap (λ l. l ++ left) (gap_parts row.doc from n k)
    ∙ append_assoc (gap row.doc from n) (gap row.doc (from + n) k) left
    ∙ ap (λ p. gap row.doc from n ++ (gap row.doc p k ++ left)) (sym e)
    ∙ ap (λ l. gap row.doc from n ++ l) now
    ∙ ap (λ d. gap d from n ++ first ∷ rest) doc

back : (o from m n : ℕ) (row : StoredRow) (later : List StoredRow) → m ≡ from + n → AreKept o m (row ∷ later)
    → (first : SeenRow) (rest : List SeenRow) → shown o m (row ∷ later) ≡ first ∷ rest → shown o from (row ∷ later) ≡ gap first.doc from n ++ first ∷ rest
back o from m n row [] e (at, are) first rest is = kept_back o from m n row [] e at.behind (ap (is_alive_before o) (at.last refl)) first rest is
back o from m n row (next ∷ left) e (at, are) first rest is =
    by (is_kept o row) refl (λ gone. back o from m n next left e (skip o m row (next ∷ left) at gone are) first rest)
  where
    Back : Type 0
    Back = shown o m (next ∷ left) ≡ first ∷ rest → shown o from (next ∷ left) ≡ gap first.doc from n ++ first ∷ rest

    by : (b : Bool) → is_kept o row ≡ b → (is_kept o row ≡ false → Back) → shown o from (row ∷ next ∷ left) ≡ gap first.doc from n ++ first ∷ rest
    by true kept skipped = kept_back o from m n row (next ∷ left) e at.behind kept first rest is
    by false gone skipped = shown_gone o from row (next ∷ left) gone ∙ skipped gone (sym (shown_gone o m row (next ∷ left) gone) ∙ is)

first_in_gap : (doc : Doc) (n p : ℕ) (row : SeenRow) (l : List SeenRow) → (first : SeenRow) × (rest : List SeenRow) × (gap doc p n ++ row ∷ l ≡ first ∷ rest)
first_in_gap doc zero p row l = (row, l, refl)
first_in_gap doc (suc n) p row l = (record { doc = doc; died = Some (suc (suc p)) }, gap doc (suc p) n ++ row ∷ l, refl)

abbrev Starts : List SeenRow → Type 0
Starts l = (first : SeenRow) × (rest : List SeenRow) × (l ≡ first ∷ rest)

kept_shown : (o from : ℕ) (row : StoredRow) (later : List StoredRow) → is_kept o row ≡ true → Starts (shown o from (row ∷ later))
kept_shown o from row later kept =
    let f = first_in_gap row.doc (row.place - from) from (seen row) (shown o (suc row.place) later) in
    (f.0, f.1, shown_kept o from row later kept ∙ f.2)

some_shown : (o from : ℕ) (row : StoredRow) (later : List StoredRow) → AreKept o from (row ∷ later) → Starts (shown o from (row ∷ later))
some_shown o from row [] (at, are) = kept_shown o from row [] (ap (is_alive_before o) (at.last refl))
some_shown o from row (next ∷ left) (at, are) = by (is_kept o row) refl (λ gone. some_shown o from next left (skip o from row (next ∷ left) at gone are))
  where
    by : (b : Bool) → is_kept o row ≡ b → (is_kept o row ≡ false → Starts (shown o from (next ∷ left))) → Starts (shown o from (row ∷ next ∷ left))
    by true kept skipped = kept_shown o from row (next ∷ left) kept
    by false gone skipped = let f = skipped gone in (f.0, f.1, shown_gone o from row (next ∷ left) gone ∙ f.2)

-- ---- one row forgotten, and those before it that were

next_of : (place : ℕ) (doc : Doc) (all : List SeenRow) (first : SeenRow) (rest : List SeenRow) → all ≡ first ∷ rest → first.doc ≡ doc → as_next place all ≡ record { doc = doc; died = Some (suc (suc place)) } ∷ []
next_of place doc all first rest e same = ap (as_next place) e ∙ ap (λ d. record { doc = d; died = Some (suc (suc place)) } ∷ []) same

first_doc : (doc : Doc) (place n : ℕ) (first : SeenRow) (rest : List SeenRow) → first.doc ≡ doc → (head : SeenRow) × (tail : List SeenRow) × (gap doc place n ++ first ∷ rest ≡ head ∷ tail) × (head.doc ≡ doc)
first_doc doc place zero first rest same = (first, rest, refl, same)
first_doc doc place (suc n) first rest same = (record { doc = doc; died = Some (suc (suc place)) }, gap doc (suc place) n ++ first ∷ rest, refl, refl)

-- a row that stays, and those before it
gap_stays : (p place at n : ℕ) (doc : Doc) (rows : List SeenRow) (first : SeenRow) (rest : List SeenRow) → at ≡ place + n → forgotten p at rows ≡ first ∷ rest → first.doc ≡ doc
    → forgotten p place (gap doc place n ++ rows) ≡ gap doc place n ++ first ∷ rest
gap_stays p place at zero doc rows first rest e is same = let here : place ≡ at = omega arith in ap (λ q. forgotten p q rows) here ∙ is
gap_stays p place at (suc n) doc rows first rest e is same =
    let row : SeenRow = record { doc = doc; died = Some (suc (suc place)) } in
    let left = gap doc (suc place) n ++ first ∷ rest in
    let later = gap_stays p (suc place) at n doc rows first rest (omega arith) is same in
    let head = first_doc doc (suc place) n first rest same in
    ap (λ l. cond (is_alive_before p row.died) (row ∷ []) (as_next place l) ++ l) later
    ∙ either (is_alive_before p row.died) row left (next_of place doc left head.0 head.1 head.2 head.3)
  where
    either : (b : Bool) (row : SeenRow) (left : List SeenRow) → as_next place left ≡ row ∷ [] → cond b (row ∷ []) (as_next place left) ++ left ≡ row ∷ left
    either true row left next = refl
    either false row left next = ap (λ l. l ++ left) next

-- a row that is forgotten, and those before it
gap_goes : (p place at n : ℕ) (doc : Doc) (rows : List SeenRow) (first : SeenRow) (rest : List SeenRow) → at ≡ place + n → at < p → forgotten p at rows ≡ first ∷ rest
    → forgotten p place (gap doc place n ++ rows) ≡ gap first.doc place n ++ first ∷ rest
gap_goes p place at zero doc rows first rest e low is = let here : place ≡ at = omega arith in ap (λ q. forgotten p q rows) here ∙ is
gap_goes p place at (suc n) doc rows first rest e low is =
    let left = gap first.doc (suc place) n ++ first ∷ rest in
    let later = gap_goes p (suc place) at n doc rows first rest (omega arith) low is in
    let head = first_doc first.doc (suc place) n first rest refl in
    ap (λ l. cond (is_alive_before p (Some (suc (suc place)))) (record { doc = doc; died = Some (suc (suc place)) } ∷ []) (as_next place l) ++ l) later
    ∙ ap (λ b. cond b (record { doc = doc; died = Some (suc (suc place)) } ∷ []) (as_next place left) ++ left) (le-ltb p (suc (suc place)) (omega arith))
    ∙ ap (λ l. l ++ left) (next_of place first.doc left head.0 head.1 head.2 head.3)

-- the row is forgotten now, and was not
goes : (o p from : ℕ) (row next : StoredRow) (left : List StoredRow) → o ≤ p → IsKeptAt o from row (next ∷ left) → AreKept o (suc row.place) (next ∷ left)
    → is_kept o row ≡ true → is_kept p row ≡ false → shown p (suc row.place) (next ∷ left) ≡ forgotten p (suc row.place) (shown o (suc row.place) (next ∷ left))
    → shown p from (row ∷ next ∷ left) ≡ forgotten p from (shown o from (row ∷ next ∷ left))
goes o p from row next left h at are kept gone rest =
    let n : ℕ = row.place - from in
    let behind = at.behind in
    let n_is : from + n ≡ row.place = omega arith in
    let later : List StoredRow = next ∷ left in
    let old : List SeenRow = shown o (suc row.place) later in
    let raised_later = raised o p (suc row.place) later h are in
    let some = some_shown p (suc row.place) next left raised_later in
    let first = some.0 in
    let tail = some.1 in
    let there : forgotten p (suc row.place) old ≡ first ∷ tail = sym rest ∙ some.2 in
    let one : SeenRow = record { doc = first.doc; died = Some (suc (suc row.place)) } in
    let here : forgotten p row.place (seen row ∷ old) ≡ one ∷ first ∷ tail =
    ap (λ b. cond b (seen row ∷ []) (as_next row.place (forgotten p (suc row.place) old)) ++ forgotten p (suc row.place) old) gone
    ∙ ap (λ l. as_next row.place l ++ l) there in
    let d = has_died p row.died gone in
    let dies = at.dies d.0 d.1 in
    let died = d.2 in
    shown_gone p from row later gone
    ∙ back p from (suc row.place) (n + 1) next left (omega arith) raised_later first tail some.2
    ∙ ap (λ l. l ++ first ∷ tail) (gap_parts first.doc from n 1)
    ∙ append_assoc (gap first.doc from n) (gap first.doc (from + n) 1) (first ∷ tail)
    ∙ ap (λ q. gap first.doc from n ++ (gap first.doc q 1 ++ first ∷ tail)) n_is
    ∙ sym (gap_goes p from row.place n row.doc (seen row ∷ old) one (first ∷ tail) (sym n_is) (omega arith) here)
    ∙ sym (ap (forgotten p from) (shown_kept o from row later kept))

-- the row stays
stays : (o p from : ℕ) (row : StoredRow) (later : List StoredRow) → from ≤ row.place → is_kept o row ≡ true → is_kept p row ≡ true → shown p (suc row.place) later ≡ forgotten p (suc row.place) (shown o (suc row.place) later)
    → shown p from (row ∷ later) ≡ forgotten p from (shown o from (row ∷ later))
stays o p from row later behind was kept rest =
    let n : ℕ = row.place - from in
    let n_is : row.place ≡ from + n = omega arith in
    let old : List SeenRow = shown o (suc row.place) later in
    let here : forgotten p row.place (seen row ∷ old) ≡ seen row ∷ forgotten p (suc row.place) old =
    ap (λ b. cond b (seen row ∷ []) (as_next row.place (forgotten p (suc row.place) old)) ++ forgotten p (suc row.place) old) kept in
    shown_kept p from row later kept
    ∙ ap (λ l. gap row.doc from n ++ seen row ∷ l) rest
    ∙ sym (gap_stays p from row.place n row.doc (seen row ∷ old) (seen row) (forgotten p (suc row.place) old) n_is here refl)
    ∙ sym (ap (forgotten p from) (shown_kept o from row later was))

-- where it was alive before, it is now or is not
pub alive_then : (o p : ℕ) (died : Option ℕ) → o ≤ p → is_alive_before p died ≡ true → is_alive_before o died ≡ true
alive_then o p died h alive = by (is_alive_before o died) refl
  where
    by : (b : Bool) → is_alive_before o died ≡ b → is_alive_before o died ≡ true
    by true e = e
    by false e = absurd (true≢false (sym alive ∙ still_dead o p died h e))

pub forgets : (o p from : ℕ) (rows : List StoredRow) → o ≤ p → AreKept o from rows → shown p from rows ≡ forgotten p from (shown o from rows)
forgets o p from [] h are = refl
forgets o p from (row ∷ []) h (at, are) = stays o p from row [] at.behind (ap (is_alive_before o) (at.last refl)) (ap (is_alive_before p) (at.last refl)) refl
forgets o p from (row ∷ next ∷ left) h (at, are) =
    by (is_kept o row) (is_kept p row) refl refl (forgets o p (suc row.place) (next ∷ left) h are) (λ gone. forgets o p from (next ∷ left) h (skip o from row (next ∷ left) at gone are))
  where
    later : List StoredRow
    later = next ∷ left

    by : (b c : Bool) → is_kept o row ≡ b → is_kept p row ≡ c → shown p (suc row.place) later ≡ forgotten p (suc row.place) (shown o (suc row.place) later)
        → (is_kept o row ≡ false → shown p from later ≡ forgotten p from (shown o from later)) → shown p from (row ∷ later) ≡ forgotten p from (shown o from (row ∷ later))
    by false c gone is behind skipped =
        shown_gone p from row later (still_dead o p row.died h gone) ∙ skipped gone ∙ sym (ap (forgotten p from) (shown_gone o from row later gone))
    by true true was kept behind skipped = stays o p from row later at.behind was kept behind
    by true false was gone behind skipped = goes o p from row next left h at are was gone behind
