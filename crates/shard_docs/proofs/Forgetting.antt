-- A shard after rows that died before a version were forgotten: from that version on the same rows are alive, and its tables say what they said.
use Rattle.std.proofs.Common.{◌≡◌, ℕ, zero, suc, ◌+◌, ◌<◌, ◌≤◌, Bool, true, false, not, ◌||◌, cond, List, [], ◌∷◌, ◌++◌, length, map, take, Option, Some, None, is_some, refl, sym, ap, subst, ◌∙◌, arith, ⊎_elim, true≢false}
use Rattle.std.proofs.lemmas.Bool.{cases_Bool, le-ltb, ltb-true}
use Rattle.std.proofs.lemmas.Slice.Eq.{bytes_eq-Decides}
use Rattle.std.specs.Str.{bytes_eq}
use Rattle.task_ids.specs.declared.doc.Doc.{Doc}
use Rattle.task_ids.specs.Rows.{has_id, living_rows, rows_at}
use Rattle.shard_docs.specs.Deaths.{is_alive_before}
use Rattle.shard_docs.specs.SeenRows.{SeenRow, as_next, forgotten}
use Rattle.shard_docs.specs.Tables.{died_at, deaths, further, last_place}
use Rattle.shard_docs.proofs.KeptLemmas.{has_died}
use Rattle.shard_docs.proofs.RowLemmas.{alive_first, has_id-take}
use Rattle.shard_docs.proofs.TableLemmas.{docs_of, some_place, some_death, here_if}

same_id : (id : List ℕ) → bytes_eq id id ≡ true
same_id id = (bytes_eq-Decides id id).1 refl

abbrev pub Dies : ℕ → List SeenRow → Type 0
Dies place rows = map (λ row. row.died) rows ≡ deaths place (docs_of rows)

-- it dies at a later version than its own
pub dies_later : (id : List ℕ) (place d : ℕ) (later : List Doc) → died_at id place later ≡ Some d → place < d
dies_later id place d later e =
    let alive = sym (ap (is_alive_before place) e) ∙ alive_first id place place later (omega arith) in
    ltb-true place d alive

first_dies : (place : ℕ) (row : SeenRow) (later : List SeenRow) → Dies place (row ∷ later) → row.died ≡ died_at row.doc.id (suc place) (docs_of later)
first_dies place row later dies = cc

pub later_die : (place : ℕ) (row : SeenRow) (later : List SeenRow) → Dies place (row ∷ later) → Dies (suc place) later
later_die place row later dies = cc

some_behind : (id : List ℕ) (place d : ℕ) (later : List SeenRow) → died_at id place (docs_of later) ≡ Some d → (n : ℕ) × (length later ≡ suc n)
some_behind id place d [] e = cc
some_behind id place d (row ∷ later) e = (length later, refl)

abbrev Starts : List SeenRow → Type 0
Starts rows = (first : SeenRow) × (rest : List SeenRow) × (rows ≡ first ∷ rest)

starts : (rows : List SeenRow) (n : ℕ) → length rows ≡ suc n → Starts rows
starts [] n e = cc
starts (first ∷ rest) n e = (first, rest, refl)

-- ---- row by row

pub stays : (o place : ℕ) (row : SeenRow) (later : List SeenRow) → is_alive_before o row.died ≡ true → forgotten o place (row ∷ later) ≡ row ∷ forgotten o (suc place) later
stays o place row later alive = ap (λ b. cond b (row ∷ []) (as_next place (forgotten o (suc place) later)) ++ forgotten o (suc place) later) alive

goes : (o place : ℕ) (row : SeenRow) (later : List SeenRow) (next : SeenRow) (rest : List SeenRow) → is_alive_before o row.died ≡ false → forgotten o (suc place) later ≡ next ∷ rest
    → forgotten o place (row ∷ later) ≡ record { doc = next.doc; died = Some (suc (suc place)) } ∷ forgotten o (suc place) later
goes o place row later next rest gone e =
    ap (λ b. cond b (row ∷ []) (as_next place (forgotten o (suc place) later)) ++ forgotten o (suc place) later) gone ∙ ap (λ l. as_next place l ++ forgotten o (suc place) later) e

-- a row that is forgotten has another behind it
next_is : (o place : ℕ) (row : SeenRow) (later : List SeenRow) → Dies place (row ∷ later) → is_alive_before o row.died ≡ false → length (forgotten o (suc place) later) ≡ length later → Starts (forgotten o (suc place) later)
next_is o place row later dies gone many =
    let d = has_died o row.died gone in
    let n = some_behind row.doc.id (suc place) d.0 later (sym (first_dies place row later dies) ∙ d.1) in
    starts (forgotten o (suc place) later) n.0 (many ∙ n.1)

pub as_many : (o place : ℕ) (rows : List SeenRow) → Dies place rows → length (forgotten o place rows) ≡ length rows
as_many o place [] dies = refl
as_many o place (row ∷ later) dies = by (is_alive_before o row.died) refl (as_many o (suc place) later (later_die place row later dies))
  where
    by : (b : Bool) → is_alive_before o row.died ≡ b → length (forgotten o (suc place) later) ≡ length later → length (forgotten o place (row ∷ later)) ≡ suc (length later)
    by true alive many = ap length (stays o place row later alive) ∙ ap suc many
    by false gone many = let next = next_is o place row later dies gone many in ap length (goes o place row later next.0 next.1 gone next.2) ∙ ap suc many

module _ (o place : ℕ) (row : SeenRow) (later : List SeenRow) (dies : Dies place (row ∷ later)) (gone : is_alive_before o row.died ≡ false) where
  -- it died at a version above the next, and not above that one
  pub died_early : suc (suc place) ≤ o
  died_early =
      let d = has_died o row.died gone in
      let high = dies_later row.doc.id (suc place) d.0 (docs_of later) (sym (first_dies place row later dies) ∙ d.1) in
      let low = d.2 in
      omega arith

  pub next : Starts (forgotten o (suc place) later)
  next = next_is o place row later dies gone (as_many o (suc place) later (later_die place row later dies))

  pub now : forgotten o place (row ∷ later) ≡ record { doc = next.0.doc; died = Some (suc (suc place)) } ∷ forgotten o (suc place) later
  now = goes o place row later next.0 next.1 gone next.2

-- ---- deaths

-- a row dies at the same version where that is above the oldest
same_death : (id : List ℕ) (o place : ℕ) (rows : List SeenRow) → Dies place rows → is_alive_before o (died_at id place (docs_of rows)) ≡ true
    → died_at id place (docs_of (forgotten o place rows)) ≡ died_at id place (docs_of rows)
same_death id o place [] dies alive = refl
same_death id o place (row ∷ later) dies alive =
    by (is_alive_before o row.died) refl (bytes_eq id row.doc.id) refl (same_death id o (suc place) later (later_die place row later dies))
  where
    rest : Option ℕ
    rest = died_at id (suc place) (docs_of later)

    gone_rest : (gone : is_alive_before o row.died ≡ false) → (c : Bool) → bytes_eq id (next o place row later dies gone).0.doc.id ≡ c → died_at id (suc place) (docs_of (forgotten o (suc place) later)) ≡ rest
        → is_alive_before o rest ≡ true → died_at id place (docs_of (forgotten o place (row ∷ later))) ≡ rest
    gone_rest gone true is same alive_rest =
        let first = next o place row later dies gone in
        let early = died_early o place row later dies gone in
        let at : rest ≡ Some (suc (suc place)) =
        sym same ∙ ap (λ l. died_at id (suc place) (docs_of l)) first.2 ∙ ap (λ b. cond b (Some (suc (suc place))) (died_at id (suc (suc place)) (docs_of first.1))) is in
        let late = ltb-true o (suc (suc place)) (sym (ap (is_alive_before o) at) ∙ alive_rest) in
        absurd (omega arith)
    gone_rest gone false is same alive_rest =
        ap (λ l. died_at id place (docs_of l)) (now o place row later dies gone)
        ∙ ap (λ b. cond b (Some (suc place)) (died_at id (suc place) (docs_of (forgotten o (suc place) later)))) is
        ∙ same

    by : (b : Bool) → is_alive_before o row.died ≡ b → (c : Bool) → bytes_eq id row.doc.id ≡ c
        → (is_alive_before o rest ≡ true → died_at id (suc place) (docs_of (forgotten o (suc place) later)) ≡ rest)
        → died_at id place (docs_of (forgotten o place (row ∷ later))) ≡ died_at id place (docs_of (row ∷ later))
    by true kept true same behind =
        ap (λ l. died_at id place (docs_of l)) (stays o place row later kept)
        ∙ ap (λ b. cond b (Some (suc place)) (died_at id (suc place) (docs_of (forgotten o (suc place) later)))) same
        ∙ sym (ap (λ b. cond b (Some (suc place)) rest) same)
    by true kept false other behind =
        let at_rest : died_at id place (docs_of (row ∷ later)) ≡ rest = ap (λ b. cond b (Some (suc place)) rest) other in
        ap (λ l. died_at id place (docs_of l)) (stays o place row later kept)
        ∙ ap (λ b. cond b (Some (suc place)) (died_at id (suc place) (docs_of (forgotten o (suc place) later)))) other
        ∙ behind (sym (ap (is_alive_before o) at_rest) ∙ alive)
        ∙ sym at_rest
    by false gone true same behind =
        let at : died_at id place (docs_of (row ∷ later)) ≡ Some (suc place) = ap (λ b. cond b (Some (suc place)) rest) same in
        let late = ltb-true o (suc place) (sym (ap (is_alive_before o) at) ∙ alive) in
        let early = died_early o place row later dies gone in
        absurd (omega arith)
    by false gone false other behind =
        let at_rest : died_at id place (docs_of (row ∷ later)) ≡ rest = ap (λ b. cond b (Some (suc place)) rest) other in
        let alive_rest = sym (ap (is_alive_before o) at_rest) ∙ alive in
        gone_rest gone (bytes_eq id (next o place row later dies gone).0.doc.id) refl (behind alive_rest) alive_rest ∙ sym at_rest

pub still_die : (o place : ℕ) (rows : List SeenRow) → Dies place rows → Dies place (forgotten o place rows)
still_die o place [] dies = dies
still_die o place (row ∷ later) dies = by (is_alive_before o row.died) refl (still_die o (suc place) later (later_die place row later dies))
  where
    left : List SeenRow
    left = forgotten o (suc place) later

    by : (b : Bool) → is_alive_before o row.died ≡ b → Dies (suc place) left → Dies place (forgotten o place (row ∷ later))
    by true kept behind =
        let first = first_dies place row later dies in
        let same = same_death row.doc.id o (suc place) later (later_die place row later dies) (sym (ap (is_alive_before o) first) ∙ kept) in
        subst (Dies place) (sym (stays o place row later kept)) (ap (λ d. d ∷ map (λ r. r.died) left) (first ∙ sym same) ∙ ap (λ ds. died_at row.doc.id (suc place) (docs_of left) ∷ ds) behind)
    by false gone behind =
        let first = next o place row later dies gone in
        let at : died_at first.0.doc.id (suc place) (docs_of left) ≡ Some (suc (suc place)) =
        ap (λ l. died_at first.0.doc.id (suc place) (docs_of l)) first.2 ∙ ap (λ b. cond b (Some (suc (suc place))) (died_at first.0.doc.id (suc (suc place)) (docs_of first.1))) (same_id first.0.doc.id) in
        subst (Dies place) (sym (now o place row later dies gone)) (ap (λ d. d ∷ map (λ r. r.died) left) (sym at) ∙ ap (λ ds. died_at first.0.doc.id (suc place) (docs_of left) ∷ ds) behind)

-- ---- the rows that are alive

-- from the oldest version on they are the same
same_living : (o place more version : ℕ) (rows : List SeenRow) → Dies place rows → version ≡ place + more → o ≤ version
    → living_rows place (take more (docs_of (forgotten o place rows))) ≡ living_rows place (take more (docs_of rows))
same_living o place zero version rows dies e from = refl
same_living o place (suc more) version [] dies e from = refl
same_living o place (suc more) version (row ∷ later) dies e from =
    by (is_alive_before o row.died) refl more refl (same_living o (suc place) more version later (later_die place row later dies) (omega arith) from)
  where
    left : List SeenRow
    left = forgotten o (suc place) later

    by : (b : Bool) → is_alive_before o row.died ≡ b → (m : ℕ) → more ≡ m → living_rows (suc place) (take more (docs_of left)) ≡ living_rows (suc place) (take more (docs_of later))
        → living_rows place (take (suc more) (docs_of (forgotten o place (row ∷ later)))) ≡ living_rows place (take (suc more) (docs_of (row ∷ later)))
    by true kept m is behind =
        let first = first_dies place row later dies in
        let id = row.doc.id in
        let same = same_death id o (suc place) later (later_die place row later dies) (sym (ap (is_alive_before o) first) ∙ kept) in
        let dead : has_id id (take more (docs_of left)) ≡ has_id id (take more (docs_of later)) =
        has_id-take id (suc place) more version (docs_of left) (omega arith) ∙ ap (λ d. not (is_alive_before version d)) same ∙ sym (has_id-take id (suc place) more version (docs_of later) (omega arith)) in
        ap (λ l. living_rows place (take (suc more) (docs_of l))) (stays o place row later kept)
        ∙ ap (λ b. cond b (living_rows (suc place) (take more (docs_of left))) ((place, row.doc) ∷ living_rows (suc place) (take more (docs_of left)))) dead
        ∙ ap (λ rows. cond (has_id id (take more (docs_of later))) rows ((place, row.doc) ∷ rows)) behind
    by false gone zero is behind = let early = died_early o place row later dies gone in absurd (omega arith)
    by false gone (suc m) is behind =
        let first = next o place row later dies gone in
        let d = has_died o row.died gone in
        let low = d.2 in
        let died = sym (first_dies place row later dies) ∙ d.1 in
        let old : has_id row.doc.id (take more (docs_of later)) ≡ true =
        has_id-take row.doc.id (suc place) more version (docs_of later) (omega arith) ∙ ap (λ d. not (is_alive_before version d)) died ∙ ap not (le-ltb version d.0 (omega arith)) in
        let new : has_id first.0.doc.id (take more (docs_of left)) ≡ true =
        ap (λ n. has_id first.0.doc.id (take n (docs_of left))) is ∙ ap (λ l. has_id first.0.doc.id (take (suc m) (docs_of l))) first.2
        ∙ ap (λ b. b || has_id first.0.doc.id (take m (docs_of first.1))) (same_id first.0.doc.id) in
        ap (λ l. living_rows place (take (suc more) (docs_of l))) (now o place row later dies gone)
        ∙ ap (λ b. cond b (living_rows (suc place) (take more (docs_of left))) ((place, first.0.doc) ∷ living_rows (suc place) (take more (docs_of left)))) new
        ∙ behind
        ∙ sym (ap (λ b. cond b (living_rows (suc place) (take more (docs_of later))) ((place, row.doc) ∷ living_rows (suc place) (take more (docs_of later)))) old)

pub same_rows : (o version : ℕ) (rows : List SeenRow) → Dies 0 rows → o ≤ version → rows_at version (docs_of (forgotten o 0 rows)) ≡ rows_at version (docs_of rows)
same_rows o version rows dies from = same_living o 0 version version rows dies (omega arith) from

-- ---- the last write of an id

pub same_last : (id : List ℕ) (o place : ℕ) (rows : List SeenRow) → Dies place rows → last_place id (docs_of (forgotten o place rows)) ≡ last_place id (docs_of rows)
same_last id o place [] dies = refl
same_last id o place (row ∷ later) dies = by (is_alive_before o row.died) refl (last_place id (docs_of later)) refl (same_last id o (suc place) later (later_die place row later dies))
  where
    left : List SeenRow
    left = forgotten o (suc place) later

    none_later : (doc : Doc) → (bytes_eq id doc.id ≡ true → is_some (last_place id (docs_of later)) ≡ true) → last_place id (docs_of later) ≡ None → bytes_eq id doc.id ≡ false
    none_later doc some none =
        ⊎_elim
        (λ yes. absurd (true≢false (sym (some yes) ∙ ap is_some none)))
        (λ no. no)
        (cases_Bool (bytes_eq id doc.id))

    by : (b : Bool) → is_alive_before o row.died ≡ b → (last : Option ℕ) → last_place id (docs_of later) ≡ last → last_place id (docs_of left) ≡ last_place id (docs_of later)
        → last_place id (docs_of (forgotten o place (row ∷ later))) ≡ last_place id (docs_of (row ∷ later))
    by true kept last is behind =
        ap (λ l. last_place id (docs_of l)) (stays o place row later kept) ∙ ap (λ l. further l (here_if (bytes_eq id row.doc.id))) behind
    by false gone (Some p) is behind =
        let first = next o place row later dies gone in
        ap (λ l. last_place id (docs_of l)) (now o place row later dies gone) ∙ ap (λ l. further l (here_if (bytes_eq id first.0.doc.id))) (behind ∙ is)
        ∙ sym (ap (λ l. further l (here_if (bytes_eq id row.doc.id))) is)
    by false gone None is behind =
        let first = next o place row later dies gone in
        let d = has_died o row.died gone in
        let died = sym (first_dies place row later dies) ∙ d.1 in
        let new = none_later first.0.doc
        (λ yes. ap is_some (sym behind) ∙ some_place id (docs_of left) ∙ ap (λ l. has_id id (docs_of l)) first.2 ∙ ap (λ b. b || has_id id (docs_of first.1)) yes) is in
        let old = none_later row.doc
        (λ yes.
        let same : id ≡ row.doc.id = (bytes_eq-Decides id row.doc.id).0 yes in
        some_place id (docs_of later) ∙ ap (λ i. has_id i (docs_of later)) same ∙ sym (some_death row.doc.id (suc place) (docs_of later)) ∙ ap is_some died) is in
        ap (λ l. last_place id (docs_of l)) (now o place row later dies gone) ∙ ap (λ l. further l (here_if (bytes_eq id first.0.doc.id))) (behind ∙ is) ∙ ap (λ b. further None (here_if b)) (new ∙ sym old)
        ∙ sym (ap (λ l. further l (here_if (bytes_eq id row.doc.id))) is)
