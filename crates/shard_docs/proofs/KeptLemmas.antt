-- What is seen of the rows that are kept: how many, and at which place what.
use Rattle.std.proofs.Common.{◌≡◌, ℕ, zero, suc, ◌+◌, ◌-◌, ◌<◌, ◌≤◌, Bool, true, false, cond, List, [], ◌∷◌, ◌++◌, length, drop, find, Option, Some, None, option_map, refl, sym, ap, ◌∙◌, arith, ⊎_elim, true≢false, length-append}
use Rattle.std.proofs.lemmas.Bool.{cases_lt, ne_eqb, eq-eqb, lt-ltb, le-ltb, ltb-false}
use Rattle.std.specs.List.{slice_get}
use Rattle.task_ids.specs.declared.doc.Doc.{Doc}
use Rattle.shard_docs.specs.declared.rows.StoredRow.{StoredRow}
use Rattle.shard_docs.specs.Deaths.{is_alive_before}
use Rattle.shard_docs.specs.KeptRows.{gap, seen, shown, IsKeptAt, AreKept, below, seen_at, first_seen}
use Rattle.shard_docs.specs.SeenRows.{SeenRow}

abbrev pub is_kept : ℕ → StoredRow → Bool
is_kept oldest row = is_alive_before oldest row.died

-- a row that is not alive has died
pub has_died : (version : ℕ) (died : Option ℕ) → is_alive_before version died ≡ false → (d : ℕ) × (died ≡ Some d) × (d ≤ version)
has_died version None e = absurd (true≢false e)
has_died version (Some d) e = (d, refl, ltb-false version d e)

-- one that dies later is alive
pub not_dead : (version d : ℕ) (died : Option ℕ) → died ≡ Some d → version < d → is_alive_before version died ≡ true
not_dead version d died e h = ap (is_alive_before version) e ∙ lt-ltb version d h

-- what is not alive at a version is not alive at a later one
pub still_dead : (o p : ℕ) (died : Option ℕ) → o ≤ p → is_alive_before o died ≡ false → is_alive_before p died ≡ false
still_dead o p None h e = e
still_dead o p (Some d) h e = let low = ltb-false o d e in le-ltb p d (omega arith)

-- ---- what the rows keep

-- those before a later row may be left out where they have died
pub skip : (o from : ℕ) (row : StoredRow) (later : List StoredRow) → IsKeptAt o from row later → is_kept o row ≡ false → AreKept o (suc row.place) later → AreKept o from later
skip o from row [] at gone are = tt
skip o from row (next ∷ later) at gone (here, are) =
    let d = has_died o row.died gone in
    let dies = at.dies d.0 d.1 in
    let died = d.2 in
    let behind = here.behind in
    let first = at.behind in (
      record {
        behind = omega arith;
        gap = λ h. ⊎_elim (λ apart. here.gap apart) (λ beside. let same : next.place ≤ suc row.place = beside in omega arith) (cases_lt (suc row.place) next.place);
        dies = here.dies;
        last = here.last;
      },
      are,
    )

pub raised : (o p from : ℕ) (rows : List StoredRow) → o ≤ p → AreKept o from rows → AreKept p from rows
raised o p from [] h are = tt
raised o p from (row ∷ later) h (at, are) =
    (record { behind = at.behind; gap = λ g. let low = at.gap g in omega arith; dies = at.dies; last = at.last }, raised o p (suc row.place) later h are)

-- the last of them is not forgotten
pub some_kept : (o from : ℕ) (row : StoredRow) (later : List StoredRow) → AreKept o from (row ∷ later) → (first : StoredRow) × (find (is_kept o) (row ∷ later) ≡ Some first)
some_kept o from row [] (at, are) = (row, ap (λ b. cond b (Some row) None) (ap (is_alive_before o) (at.last refl)))
some_kept o from row (next ∷ rest) (at, are) = by (is_kept o row) refl (some_kept o (suc row.place) next rest are)
  where
    by : (b : Bool) → is_kept o row ≡ b → (first : StoredRow) × (find (is_kept o) (next ∷ rest) ≡ Some first) → (first : StoredRow) × (find (is_kept o) (row ∷ next ∷ rest) ≡ Some first)
    by true e found = (row, ap (λ b. cond b (Some row) (find (is_kept o) (next ∷ rest))) e)
    by false e found = (found.0, ap (λ b. cond b (Some row) (find (is_kept o) (next ∷ rest))) e ∙ found.1)

-- ---- gaps

pub length_gap : (doc : Doc) (place n : ℕ) → length (gap doc place n) ≡ n
length_gap doc place zero = refl
length_gap doc place (suc n) = ap suc (length_gap doc (suc place) n)

pub in_gap : (doc : Doc) (place n i : ℕ) (rest : List SeenRow) → i < n → slice_get (gap doc place n ++ rest) i ≡ Some (record { doc = doc; died = Some (suc (suc (place + i))) })
in_gap doc place zero i rest h = absurd (omega arith)
in_gap doc place (suc n) zero rest h = ap (λ (p : ℕ). Some (record { doc = doc; died = Some (suc (suc p)) })) (omega arith)
in_gap doc place (suc n) (suc i) rest h = in_gap doc (suc place) n i rest (omega arith) ∙ ap (λ (p : ℕ). Some (record { doc = doc; died = Some (suc (suc p)) })) (omega arith)

pub past_gap : (doc : Doc) (place n i j : ℕ) (rest : List SeenRow) → i ≡ n + j → slice_get (gap doc place n ++ rest) i ≡ slice_get rest j
past_gap doc place zero i j rest e = ap (slice_get rest) (omega arith)
past_gap doc place (suc n) zero j rest e = absurd (omega arith)
past_gap doc place (suc n) (suc i) j rest e = past_gap doc (suc place) n i j rest (omega arith)

pub gap_parts : (doc : Doc) (place n m : ℕ) → gap doc place (n + m) ≡ gap doc place n ++ gap doc (place + n) m
gap_parts doc place zero m = let e : place ≡ place + 0 = omega arith in let f : 0 + m ≡ m = omega arith in ap (gap doc place) f ∙ ap (λ p. gap doc p m) e
gap_parts doc place (suc n) m =
    let e : suc place + n ≡ place + suc n = omega arith in
    let f : suc n + m ≡ suc (n + m) = omega arith in
    ap (gap doc place) f ∙ ap (λ l. record { doc = doc; died = Some (suc (suc place)) } ∷ l) (gap_parts doc (suc place) n m ∙ ap (λ p. gap doc (suc place) n ++ gap doc p m) e)

-- ---- shown, row by row

pub shown_kept : (o from : ℕ) (row : StoredRow) (later : List StoredRow) → is_kept o row ≡ true → shown o from (row ∷ later) ≡ gap row.doc from (row.place - from) ++ seen row ∷ shown o (suc row.place) later
shown_kept o from row later e = ap (λ b. cond b (gap row.doc from (row.place - from) ++ seen row ∷ shown o (suc row.place) later) (shown o from later)) e

pub shown_gone : (o from : ℕ) (row : StoredRow) (later : List StoredRow) → is_kept o row ≡ false → shown o from (row ∷ later) ≡ shown o from later
shown_gone o from row later e = ap (λ b. cond b (gap row.doc from (row.place - from) ++ seen row ∷ shown o (suc row.place) later) (shown o from later)) e

-- ---- how many

-- the place behind the last row
abbrev pub end_of : ℕ → List StoredRow → ℕ
end_of from [] = from
end_of from (row ∷ later) = end_of (suc row.place) later

-- with one row more that is kept
one_shown : (o from : ℕ) (row : StoredRow) (later : List StoredRow) → from ≤ row.place → is_kept o row ≡ true → suc row.place + length (shown o (suc row.place) later) ≡ end_of (suc row.place) later
    → from + length (shown o from (row ∷ later)) ≡ end_of (suc row.place) later
one_shown o from row later behind e all =
    let parts = ap length (shown_kept o from row later e) ∙ length-append (gap row.doc from (row.place - from)) (seen row ∷ shown o (suc row.place) later) in
    omega (arith, parts, length_gap row.doc from (row.place - from), all)

pub many_shown : (o from : ℕ) (rows : List StoredRow) → AreKept o from rows → from + length (shown o from rows) ≡ end_of from rows
many_shown o from [] are = omega arith
many_shown o from (row ∷ []) (at, are) = one_shown o from row [] at.behind (ap (is_alive_before o) (at.last refl)) (omega arith)
many_shown o from (row ∷ next ∷ rest) (at, are) =
    by (is_kept o row) refl (many_shown o (suc row.place) (next ∷ rest) are) (λ gone. many_shown o from (next ∷ rest) (skip o from row (next ∷ rest) at gone are))
  where
    by : (b : Bool) → is_kept o row ≡ b → suc row.place + length (shown o (suc row.place) (next ∷ rest)) ≡ end_of (suc row.place) (next ∷ rest)
        → (is_kept o row ≡ false → from + length (shown o from (next ∷ rest)) ≡ end_of (suc next.place) rest) → from + length (shown o from (row ∷ next ∷ rest)) ≡ end_of (suc next.place) rest
    by true e all skipped = one_shown o from row (next ∷ rest) at.behind e all
    by false e all skipped = ap (λ l. from + length l) (shown_gone o from row (next ∷ rest) e) ∙ skipped e

-- ---- which

none_below : (o place from : ℕ) (rows : List StoredRow) → AreKept o from rows → place ≤ from → below place rows ≡ 0
none_below o place from [] are h = refl
none_below o place from (row ∷ later) (at, are) h = let behind = at.behind in ap (λ b. cond b (suc (below place later)) 0) (le-ltb row.place place (omega arith))

pub below_more : (place : ℕ) (row : StoredRow) (later : List StoredRow) → row.place < place → below place (row ∷ later) ≡ suc (below place later)
below_more place row later h = ap (λ b. cond b (suc (below place later)) 0) (lt-ltb row.place place h)

pub below_none : (place : ℕ) (row : StoredRow) (later : List StoredRow) → place ≤ row.place → below place (row ∷ later) ≡ 0
below_none place row later h = ap (λ b. cond b (suc (below place later)) 0) (le-ltb row.place place h)

pub seen_here : (place : ℕ) (row : StoredRow) → place ≡ row.place → seen_at place row ≡ seen row
seen_here place row e = ap (λ b. cond b (seen row) (record { doc = row.doc; died = Some (suc (suc place)) })) (eq-eqb place row.place e)

pub seen_before : (place : ℕ) (row : StoredRow) → place < row.place → seen_at place row ≡ record { doc = row.doc; died = Some (suc (suc place)) }
seen_before place row h = ap (λ b. cond b (seen row) (record { doc = row.doc; died = Some (suc (suc place)) })) (ne_eqb place row.place (λ e. omega arith))

found_first : (o place : ℕ) (row : StoredRow) (later : List StoredRow) → is_kept o row ≡ true → first_seen o place (row ∷ later) ≡ Some (seen_at place row)
found_first o place row later e = ap (λ b. option_map (seen_at place) (cond b (Some row) (find (is_kept o) later))) e

found_later : (o place : ℕ) (row : StoredRow) (later : List StoredRow) → is_kept o row ≡ false → first_seen o place (row ∷ later) ≡ first_seen o place later
found_later o place row later e = ap (λ b. option_map (seen_at place) (cond b (Some row) (find (is_kept o) later))) e

-- at a place the first row is seen that is kept from there on
pub shown_at : (o from place i : ℕ) (rows : List StoredRow) → AreKept o from rows → place ≡ from + i → slice_get (shown o from rows) i ≡ first_seen o place (drop (below place rows) rows)
shown_at o from place i [] are e = refl
shown_at o from place i (row ∷ later) (at, are) e =
    by (is_kept o row) refl (λ j is. shown_at o (suc row.place) place j later are is) (λ gone. shown_at o from place i later (skip o from row later at gone are) e)
  where
    rest : List SeenRow
    rest = seen row ∷ shown o (suc row.place) later

    n : ℕ
    n = row.place - from

    n_is : from + n ≡ row.place
    n_is = let behind = at.behind in let same : n ≡ row.place - from = refl in omega arith

    past : row.place < place → first_seen o place (drop (below place (row ∷ later)) (row ∷ later)) ≡ first_seen o place (drop (below place later) later)
    past h = ap (λ k. first_seen o place (drop k (row ∷ later))) (below_more place row later h)

    here : place ≤ row.place → first_seen o place (drop (below place (row ∷ later)) (row ∷ later)) ≡ first_seen o place (row ∷ later)
    here h = ap (λ k. first_seen o place (drop k (row ∷ later))) (below_none place row later h)

    at_place : i ≤ n → slice_get (gap row.doc from n ++ rest) i ≡ Some (seen_at place row)
    at_place h =
        let count = n_is in
        ⊎_elim
        (λ inside. in_gap row.doc from n i rest inside ∙ ap (λ (p : ℕ). Some (record { doc = row.doc; died = Some (suc (suc p)) })) (sym e) ∙ sym (ap Some (seen_before place row (omega arith))))
        (λ last. past_gap row.doc from n i 0 rest (omega arith) ∙ sym (ap Some (seen_here place row (omega arith))))
        (cases_lt i n)

    behind_it : (j : ℕ) → i ≡ n + suc j → slice_get (gap row.doc from n ++ rest) i ≡ slice_get (shown o (suc row.place) later) j
    behind_it j k = past_gap row.doc from n i (suc j) rest k

    by : (b : Bool) → is_kept o row ≡ b → ((j : ℕ) → place ≡ suc row.place + j → slice_get (shown o (suc row.place) later) j ≡ first_seen o place (drop (below place later) later))
        → (is_kept o row ≡ false → slice_get (shown o from later) i ≡ first_seen o place (drop (below place later) later))
        → slice_get (shown o from (row ∷ later)) i ≡ first_seen o place (drop (below place (row ∷ later)) (row ∷ later))
    by true kept behind_found gone_found =
        let count = n_is in
        ap (λ l. slice_get l i) (shown_kept o from row later kept)
        ∙ ⊎_elim
        (λ above.
        let j : ℕ = place - suc row.place in
        let j_is : suc row.place + j ≡ place = omega arith in
        behind_it j (omega arith) ∙ behind_found j (omega arith) ∙ sym (past above))
        (λ low. at_place (omega arith) ∙ sym (here low ∙ found_first o place row later kept))
        (cases_lt row.place place)
    by false gone behind_found gone_found =
        let count = n_is in
        let found = gone_found gone in
        ap (λ l. slice_get l i) (shown_gone o from row later gone) ∙ found
        ∙ ⊎_elim
        (λ above. sym (past above))
        (λ low. ap (λ k. first_seen o place (drop k later)) (none_below o place (suc row.place) later are (omega arith)) ∙ sym (here low ∙ found_later o place row later gone))
        (cases_lt row.place place)
