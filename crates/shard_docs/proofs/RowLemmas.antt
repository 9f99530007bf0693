-- The row of a place at a version, from the version at which it died.
use Rattle.std.proofs.Common.{◌≡◌, ℕ, zero, suc, ◌+◌, ◌<◌, ◌≤◌, Bool, true, false, not, ◌&&◌, cond, eqb, ltb, List, [], ◌∷◌, map, take, get_or, Option, Some, None, option_map, refl, sym, ap, ◌∙◌, arith, ⊎_elim}
use Rattle.std.proofs.lemmas.Bool.{cases_Bool, cases_lt, ne_eqb, eq-eqb, lt-ltb, le-ltb}
use Rattle.std.proofs.lemmas.Option.{get_or_from_slice_get, slice_get-map}
use Rattle.std.specs.List.{slice_get}
use Rattle.std.specs.Map.{lookup}
use Rattle.std.specs.Str.{bytes_eq}
use Rattle.task_ids.specs.declared.doc.Doc.{Doc}
use Rattle.task_ids.specs.Rows.{Row, has_id, living_rows, row_at}
use Rattle.shard_docs.specs.SeenRows.{SeenRow, doc_alive}
use Rattle.shard_docs.specs.Deaths.{is_alive_before}
use Rattle.shard_docs.specs.Tables.{died_at, deaths}

-- nothing dies before the first of the later writes
pub alive_first : (id : List ℕ) (place version : ℕ) (later : List Doc) → version ≤ place → is_alive_before version (died_at id place later) ≡ true
alive_first id place version [] h = refl
alive_first id place version (doc ∷ later) h =
    ⊎_elim
    (λ yes. rw yes (lt-ltb version (suc place) (omega arith)))
    (λ no. rw no (alive_first id (suc place) version later (omega arith)))
    (cases_Bool (bytes_eq id doc.id))

-- a later one of the first writes has the id exactly where the row is no more alive
pub has_id-take : (id : List ℕ) (place more version : ℕ) (later : List Doc) → version ≡ place + more → has_id id (take more later) ≡ not (is_alive_before version (died_at id place later))
has_id-take id place zero version later e = sym (ap not (alive_first id place version later (omega arith)))
has_id-take id place (suc more) version [] e = refl
has_id-take id place (suc more) version (doc ∷ later) e =
    ⊎_elim
    (λ yes. rw yes (sym (ap not (le-ltb version (suc place) (omega arith)))))
    (λ no. rw no (has_id-take id (suc place) more version later (omega arith)))
    (cases_Bool (bytes_eq id doc.id))

-- a place before the first has no row
pub none_before : (place first : ℕ) (writes : List Doc) → place < first → lookup (λ other. eqb place other) (living_rows first writes) ≡ None
none_before place first [] h = refl
none_before place first (doc ∷ later) h =
    let other : eqb place first ≡ false = ne_eqb place first (λ e. omega arith) in
    let rest : lookup (λ o. eqb place o) (living_rows (suc first) later) ≡ None = none_before place (suc first) later (omega arith) in
    either (has_id doc.id later) (eqb place first) (first, doc) (living_rows (suc first) later) place other rest
  where
    either : (dead same : Bool) (row : Row) (rows : List Row) (p : ℕ) → eqb p row.0 ≡ false → lookup (λ o. eqb p o) rows ≡ None
        → lookup (λ o. eqb p o) (cond dead rows (row ∷ rows)) ≡ None
    either true same row rows p e r = r
    either false same row rows p e r = ap (λ b. cond b (Some row.1) (lookup (λ o. eqb p o) rows)) e ∙ r

none_either : (b : Bool) → let none : Option Doc = None in cond b none none ≡ none
none_either true = refl
none_either false = refl

ltb_suc : (i n : ℕ) → ltb (suc i) (suc n) ≡ ltb i n
ltb_suc i n =
    ⊎_elim
    (λ below. lt-ltb (suc i) (suc n) (omega arith) ∙ sym (lt-ltb i n below))
    (λ past. le-ltb (suc i) (suc n) (omega arith) ∙ sym (le-ltb i n past))
    (cases_lt i n)

-- the first row is found where no later one has its id
at_first : (alive dead : Bool) (first place : ℕ) (doc : Doc) (rows : List Row) → dead ≡ not alive → eqb place first ≡ true → lookup (λ other. eqb place other) rows ≡ None
    → lookup (λ other. eqb place other) (cond dead rows ((first, doc) ∷ rows)) ≡ cond alive (Some doc) None
at_first true true first place doc rows e here none = cc
at_first true false first place doc rows e here none = ap (λ b. cond b (Some doc) (lookup (λ other. eqb place other) rows)) here
at_first false true first place doc rows e here none = none
at_first false false first place doc rows e here none = cc

-- another place is looked for in the other rows
at_other : (dead : Bool) (first place : ℕ) (doc : Doc) (rows : List Row) → eqb place first ≡ false
    → lookup (λ other. eqb place other) (cond dead rows ((first, doc) ∷ rows)) ≡ lookup (λ other. eqb place other) rows
at_other true first place doc rows other = refl
at_other false first place doc rows other = ap (λ b. cond b (Some doc) (lookup (λ o. eqb place o) rows)) other

-- the row of a place, which is the i-th of some writes of which the first has another place
row_found : (place first more version i : ℕ) (writes : List Doc) → place ≡ first + i → version ≡ first + more
    → lookup (λ other. eqb place other) (living_rows first (take more writes))
    ≡ cond (ltb i more && is_alive_before version (get_or (deaths first writes) i None)) (slice_get writes i) None
row_found place first zero version i writes e v =
    ap (λ b. cond (b && is_alive_before version (get_or (deaths first writes) i None)) (slice_get writes i) None) (sym (le-ltb i 0 (omega arith)))
row_found place first (suc more) version i [] e v = sym (none_either (ltb i (suc more) && true))
row_found place first (suc more) version zero (doc ∷ later) e v =
    let dead = has_id-take doc.id (suc first) more version later (omega arith) in
    let here : eqb place first ≡ true = eq-eqb place first (omega arith) in
    let some : ltb 0 (suc more) ≡ true = lt-ltb 0 (suc more) (omega arith) in
    at_first (is_alive_before version (died_at doc.id (suc first) later)) (has_id doc.id (take more later)) first place doc (living_rows (suc first) (take more later)) dead here
    (none_before place (suc first) (take more later) (omega arith))
    ∙ ap (λ b. cond (b && is_alive_before version (died_at doc.id (suc first) later)) (Some doc) None) (sym some)
row_found place first (suc more) version (suc i) (doc ∷ later) e v =
    let other : eqb place first ≡ false = ne_eqb place first (λ same. omega arith) in
    at_other (has_id doc.id (take more later)) first place doc (living_rows (suc first) (take more later)) other
    ∙ row_found place (suc first) more version i later (omega arith) (omega arith)
    ∙ ap (λ b. cond (b && is_alive_before version (get_or (deaths (suc first) later) i None)) (slice_get later i) None) (sym (ltb_suc i more))

-- the row of a place at a version, from the version at which it died
pub row_is : (version place : ℕ) (writes : List Doc) → row_at version place writes ≡ cond (ltb place version && is_alive_before version (get_or (deaths 0 writes) place None)) (slice_get writes place) None
row_is version place writes = row_found place 0 version version place writes (omega arith) (omega arith)

module _ (rows : List SeenRow) (died : map (λ row. row.died) rows ≡ deaths 0 (map (λ row. row.doc) rows)) (version place : ℕ) where
  -- it is that of the seen row of the place, where that is alive
  pub row_seen : row_at version place (map (λ row. row.doc) rows) ≡ cond (ltb place version) (doc_alive version (slice_get rows place)) None
  row_seen =
      row_is version place (map (λ row. row.doc) rows)
      ∙ ap (λ ds. cond (ltb place version && is_alive_before version (get_or ds place None)) (slice_get (map (λ row. row.doc) rows) place) None) (sym died)
      ∙ ap (λ o. cond (ltb place version && is_alive_before version (get_or (map (λ row. row.died) rows) place None)) o None) (slice_get-map (λ row. row.doc) rows place)
      ∙ by (slice_get rows place) refl
    where
      both : (b a : Bool) (doc : Doc) → cond (b && a) (Some doc) None ≡ cond b (cond a (Some doc) None) None
      both true a doc = refl
      both false a doc = refl

      by : (o : Option SeenRow) → slice_get rows place ≡ o → cond (ltb place version && is_alive_before version (get_or (map (λ row. row.died) rows) place None)) (option_map (λ row. row.doc) o) None ≡ cond (ltb place version) (doc_alive version o) None
      by None e = none_either (ltb place version && is_alive_before version (get_or (map (λ row. row.died) rows) place None)) ∙ sym (none_either (ltb place version))
      by (Some row) e =
          let its_death : get_or (map (λ r. r.died) rows) place None ≡ row.died =
          get_or_from_slice_get (map (λ r. r.died) rows) place row.died None (slice_get-map (λ r. r.died) rows place ∙ ap (option_map (λ r. r.died)) e) in
          ap (λ d. cond (ltb place version && is_alive_before version d) (Some row.doc) None) its_death ∙ both (ltb place version) (is_alive_before version row.died) row.doc
