-- How many rows are dead at a version.
use Rattle.std.proofs.Common.{◌≡◌, ℕ, suc, ◌+◌, ◌-◌, ◌≤◌, Bool, true, false, cond, List, [], ◌∷◌, ◌++◌, length, take, drop, set, get_or, min, Option, Some, None, is_some, refl, sym, ap, subst, ◌∙◌, arith}
use Rattle.std.specs.Prelude.{count_by}
use Rattle.std.proofs.Math.Seq.{take-add}
use Rattle.std.proofs.lemmas.List.{append-nil, append_assoc, take-append-le, take_all, length-take}
use Rattle.std.proofs.lemmas.List.Sums.{sum_by-cons, sum_by_push, sum_by-set}
use Rattle.std.proofs.lemmas.Option.{slice_get_within, get_or_from_slice_get}
use Rattle.task_ids.specs.declared.doc.Doc.{Doc}
use Rattle.task_ids.specs.Rows.{has_id, living_rows, rows_at}
use Rattle.shard_docs.specs.Shown.{ShowsFrom}
use Rattle.shard_docs.specs.ShardView.{dead_rows}
use Rattle.shard_docs.specs.Tables.{died_at, deaths, last_place}
use Rattle.shard_docs.proofs.TableLemmas.{some_death, deaths-more, kill, last_alive}

-- how many rows these writes leave dead
abbrev pub dead_of : List Doc → ℕ
dead_of writes = length writes - length (living_rows 0 writes)

abbrev died_among : List (Option ℕ) → ℕ
died_among ds = count_by is_some ds

abbrev weight : Option ℕ → ℕ
weight d = cond (is_some d) 1 0

-- of each row it is told whether it died
living_and_dead : (place : ℕ) (writes : List Doc) → length (living_rows place writes) + died_among (deaths place writes) ≡ length writes
living_and_dead place [] = refl
living_and_dead place (doc ∷ later) =
    let rest = living_and_dead (suc place) later in
    let died = died_at doc.id (suc place) later in
    let counted = sum_by-cons weight died (deaths (suc place) later) in
    by (has_id doc.id later) (is_some died) (some_death doc.id (suc place) later) (died_among (deaths place (doc ∷ later))) (died_among (deaths (suc place) later)) counted rest
  where
    by : (dead some : Bool) → some ≡ dead → (all others : ℕ) → all ≡ cond some 1 0 + others → length (living_rows (suc place) later) + others ≡ length later
        → length (cond dead (living_rows (suc place) later) ((place, doc) ∷ living_rows (suc place) later)) + all ≡ suc (length later)
    by true true e all others counted rest = omega arith
    by true false e all others counted rest = absurd (cc)
    by false true e all others counted rest = absurd (cc)
    by false false e all others counted rest = omega arith

dead_is : (writes : List Doc) → dead_of writes ≡ died_among (deaths 0 writes)
dead_is writes = let both = living_and_dead 0 writes in omega arith

-- one more write leaves one more row dead where its id was alive
pub dead_more : (writes : List Doc) (doc : Doc) → dead_of (writes ++ doc ∷ []) ≡ dead_of writes + cond (is_some (last_place doc.id writes)) 1 0
dead_more writes doc =
    dead_is (writes ++ doc ∷ [])
    ∙ ap died_among (deaths-more 0 (length writes) writes doc (omega arith))
    ∙ by (last_place doc.id writes) refl
    ∙ ap (λ n. n + cond (is_some (last_place doc.id writes)) 1 0) (sym (dead_is writes))
  where
    by : (last : Option ℕ) → last_place doc.id writes ≡ last → died_among (kill last (suc (length writes)) (deaths 0 writes) ++ None ∷ []) ≡ died_among (deaths 0 writes) + cond (is_some last) 1 0
    by None is = sum_by_push weight (deaths 0 writes) None
    by (Some place) is =
        let here = last_alive doc.id 0 place writes is in
        let within = slice_get_within (deaths 0 writes) place None here in
        let was : None ≡ get_or (deaths 0 writes) place None = sym (get_or_from_slice_get (deaths 0 writes) place None None here) in
        let none : weight (get_or (deaths 0 writes) place None) ≡ 0 = ap weight (sym was) in
        let changed = sum_by-set weight (deaths 0 writes) place (Some (suc (length writes))) None within in
        let pushed = sum_by_push weight (set (deaths 0 writes) place (Some (suc (length writes)))) None in
        omega (arith, none, changed, pushed)

-- further writes leave no fewer dead
dead_with : (writes more : List Doc) → dead_of writes ≤ dead_of (writes ++ more)
dead_with writes [] = subst (λ l. dead_of writes ≤ dead_of l) (sym (append-nil writes)) (omega arith)
dead_with writes (doc ∷ more) =
    let one = dead_more writes doc in
    let rest : dead_of (writes ++ doc ∷ []) ≤ dead_of ((writes ++ doc ∷ []) ++ more) = dead_with (writes ++ doc ∷ []) more in
    let all : dead_of ((writes ++ doc ∷ []) ++ more) ≡ dead_of (writes ++ doc ∷ more) = ap dead_of (append_assoc writes (doc ∷ []) more) in
    omega (arith, one, rest, all)

-- ---- at versions

pub dead_then : (version : ℕ) (writes more : List Doc) → version ≤ length writes → dead_rows version (writes ++ more) ≡ dead_rows version writes
unfolding dead_rows
dead_then version writes more within = ap dead_of (take-append-le version writes more within)

pub dead_now : (version : ℕ) (writes : List Doc) → length writes ≤ version → dead_rows version writes ≡ dead_of writes
unfolding dead_rows
dead_now version writes past = ap dead_of (take_all version writes past)

-- at a later version no fewer rows are dead
pub dead_grows : (early late : ℕ) (writes : List Doc) → early ≤ late → dead_rows early writes ≤ dead_rows late writes
unfolding dead_rows
dead_grows early late writes below =
    let is : early + (late - early) ≡ late = omega arith in
    let parts = sym (take-add early (late - early) writes) ∙ ap (λ n. take n writes) is in
    subst (λ l. dead_of (take early writes) ≤ dead_of l) parts (dead_with (take early writes) (take (late - early) (drop early writes)))

pub dead_within : (version : ℕ) (writes : List Doc) → dead_rows version writes ≤ length writes
unfolding dead_rows
dead_within version writes = let many = length-take version writes in omega arith

-- where a shard shows what was written, as many rows are dead
pub dead_same : (oldest : ℕ) (writes shown : List Doc) → ShowsFrom oldest writes shown → (version : ℕ) → oldest ≤ version → dead_rows version shown ≡ dead_rows version writes
unfolding dead_rows
dead_same oldest writes shown shows version above =
    let many : length (take version shown) ≡ length (take version writes) = length-take version shown ∙ ap (min version) shows.as_many ∙ sym (length-take version writes) in
    ap (λ n. n - length (rows_at version shown)) many ∙ ap (λ rows. length (take version writes) - length rows) (shows.rows version above)
