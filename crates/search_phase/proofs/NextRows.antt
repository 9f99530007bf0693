-- The rows of a query's next turn, one after the other.
use Rattle.std.specs.Prelude.{◌≡◌, ℕ, zero, suc, ◌+◌, ◌<◌, ◌≤◌, Bool, true, false, cond, List, [], ◌∷◌, ◌++◌, Some, length, map, filter, take, refl}
use Rattle.std.specs.List.{AllByRecursion}
use Rattle.std.proofs.Common.{sym, ◌∙◌, ap, arith, get_or}
use Rattle.std.proofs.lemmas.List.{append-nil, length-append, take_all}
use Rattle.std.proofs.lemmas.List.Elements.{filter-append}
use Rattle.std.proofs.lemmas.List.Sorted.{IsPermutation-refl, IsPermutation-to_front}
use Rattle.task_ids.specs.declared.doc.Doc.{Doc}
use Rattle.task_ids.specs.Rows.{Row, rows_at, row_at}
use Rattle.query_match.specs.Picks.{has_picked, pick_of}
use Rattle.task_events.specs.declared.request.HitKey.{HitKey}
use Rattle.task_events.specs.declared.request.ShardAsk.{ShardAsk}
use Rattle.task_events.specs.HitOrder.{in_hit_order, is_after}
use Rattle.task_events.specs.Answers.{window, is_found, hit_key}
use Rattle.task_events.specs.Looking.{rows_per_turn}
use Rattle.task_events.specs.QueryTask.{rows_for}
use Rattle.shard_docs.specs.Candidates.{is_above}
use Rattle.search_phase.specs.LookedAt.{counts_all}
use Rattle.search_phase.specs.Queries.{QueryState, rows_left, next_rows, keys_of_rows, first_keys}
use Rattle.search_phase.proofs.Kept.{first_append, all_fit}
use Rattle.search_phase.proofs.Ordered.{in_hit_order-permuted}
use Rattle.search_phase.proofs.Picking.{counted}
use Rattle.search_phase.proofs.Rows.{all_filter, all_take, rows_there}
use Rattle.search_phase.proofs.Turns.{keys_append}

-- ---- one row

module _ (ask : ShardAsk) (row : Row) where
  abbrev key : HitKey
  key = hit_key ask.body ask.shard row

  pub no_key : is_found ask.body ask.slice row.1 ≡ false → keys_of_rows ask (row ∷ []) ≡ []
  no_key h = ap (λ b. map (hit_key ask.body ask.shard) (cond b (row ∷ []) [])) h

  pub one_key : is_found ask.body ask.slice row.1 ≡ true → keys_of_rows ask (row ∷ []) ≡ hit_key ask.body ask.shard row ∷ []
  one_key h = ap (λ b. map (hit_key ask.body ask.shard) (cond b (row ∷ []) [])) h

  module _ (kept : List HitKey) (few : length kept ≤ window ask.body) where
    none_new : (new : List HitKey) → new ≡ [] → in_hit_order kept ≡ take (window ask.body) (in_hit_order (kept ++ new))
    none_new new none =
        all_fit kept kept (window ask.body) (IsPermutation-refl kept) few ∙ ap (λ keys. take (window ask.body) (in_hit_order keys)) (sym (append-nil kept) ∙ ap (λ keys. kept ++ keys) (sym none))

    -- a row that does not match changes no key that is kept
    pub passed_over : is_found ask.body ask.slice row.1 ≡ false → in_hit_order kept ≡ take (window ask.body) (in_hit_order (kept ++ filter (is_after ask.after) (keys_of_rows ask (row ∷ []))))
    passed_over h = none_new _ (ap (filter (is_after ask.after)) (no_key h))

    -- nor does one that does not stand after the cursor
    pub shown_before : is_found ask.body ask.slice row.1 ≡ true → is_after ask.after (hit_key ask.body ask.shard row) ≡ false
        → in_hit_order kept ≡ take (window ask.body) (in_hit_order (kept ++ filter (is_after ask.after) (keys_of_rows ask (row ∷ []))))
    shown_before h past = none_new _ (ap (filter (is_after ask.after)) (one_key h) ∙ ap (λ b. cond b (key ∷ []) []) past)

    -- another one is kept where it stands among the first
    pub kept_one : (new : List HitKey) → is_found ask.body ask.slice row.1 ≡ true → is_after ask.after (hit_key ask.body ask.shard row) ≡ true
        → in_hit_order new ≡ take (window ask.body) (in_hit_order (hit_key ask.body ask.shard row ∷ kept))
        → in_hit_order new ≡ take (window ask.body) (in_hit_order (kept ++ filter (is_after ask.after) (keys_of_rows ask (row ∷ []))))
    kept_one new h after is =
        is ∙ ap (take (window ask.body)) (in_hit_order-permuted (key ∷ kept) (kept ++ key ∷ []) (Rattle.std.proofs.lemmas.List.Sorted.IsPermutation-sym _ _ (IsPermutation-to_front kept key)))
        ∙ ap (λ keys. take (window ask.body) (in_hit_order (kept ++ keys))) (sym (ap (filter (is_after ask.after)) (one_key h) ∙ ap (λ b. cond b (key ∷ []) []) after))

-- ---- one after the other

-- the row at a place of a list, of which all have a property
pub record RowAt (P : Row → Type 0) (rows : List Row) (i : ℕ) : Type 0 where
  pub row : Row
  pub has : P row
  pub place : get_or (map (λ (r : Row). r.0) rows) i 0 ≡ row.0
  pub more : take (i + 1) rows ≡ take i rows ++ row ∷ []

row_at_index : (P : Row → Type 0) (rows : List Row) (i : ℕ) → i < length rows → AllByRecursion P rows → (row : Row) × P row × (get_or (map (λ (r : Row). r.0) rows) i 0 ≡ row.0) × (take (suc i) rows ≡ take i rows ++ row ∷ [])
row_at_index P [] i h all = absurd (omega (arith, h))
row_at_index P (row ∷ rows) zero h all = (row, all.0, refl, refl)
row_at_index P (row ∷ rows) (suc i) h all =
    let later = row_at_index P rows i (omega (arith, h)) all.1 in
    (later.0, later.1, later.2, ap (λ rows. row ∷ rows) later.3)

pub row_in : (P : Row → Type 0) (rows : List Row) (i : ℕ) → i < length rows → AllByRecursion P rows → RowAt P rows i
row_in P rows i h all =
    let at = row_at_index P rows i h all in
    let next : i + 1 ≡ suc i = omega arith in
    record { row = at.0; has = at.1; place = at.2; more = ap (λ n. take n rows) next ∙ at.3 }

-- a row of the next turn is there, and has what is picked
pub record IsNext (q : QueryState) (version : ℕ) (writes : List Doc) (row : Row) : Type 0 where
  pub there : row_at version row.0 writes ≡ Some row.1
  pub picked : has_picked (pick_of q.ask.body.query) row.1.source ≡ true

pub all_next : (q : QueryState) (version : ℕ) (writes : List Doc) → AllByRecursion (IsNext q version writes) (next_rows q version writes)
all_next q version writes =
    all_take (IsNext q version writes) rows_per_turn (rows_left q version writes)
    (all_filter (IsNext q version writes) (λ (row : Row). is_above q.last row.0) (rows_for q.ask version writes) (both (rows_at version writes) (rows_there version writes)))
  where
    both : (rows : List Row) → AllByRecursion (λ row. row_at version row.0 writes ≡ Some row.1) rows
        → AllByRecursion (IsNext q version writes) (filter (λ (row : Row). has_picked (pick_of q.ask.body.query) row.1.source) rows)
    both [] all = tt
    both (row ∷ rows) all = by_pick (has_picked (pick_of q.ask.body.query) row.1.source) refl (both rows all.1)
      where
        rest : List Row
        rest = filter (λ (other : Row). has_picked (pick_of q.ask.body.query) other.1.source) rows

        by_pick : (b : Bool) → has_picked (pick_of q.ask.body.query) row.1.source ≡ b → AllByRecursion (IsNext q version writes) rest → AllByRecursion (IsNext q version writes) (cond b (row ∷ rest) rest)
        by_pick true h more = (record { there = all.0; picked = h }, more)
        by_pick false h more = more

-- where each row that is looked at matches, there are as many keys as rows
pub all_counted : (q : QueryState) (version : ℕ) (writes : List Doc) (rows : List Row) → counts_all q.ask ≡ true → AllByRecursion (IsNext q version writes) rows → length (keys_of_rows q.ask rows) ≡ length rows
all_counted q version writes [] certain all = refl
all_counted q version writes (row ∷ rows) certain all =
    ap length (keys_append q.ask (row ∷ []) rows ∙ ap (λ keys. keys ++ keys_of_rows q.ask rows) (one_key q.ask row (counted q.ask row certain all.0.picked)))
    ∙ ap suc (all_counted q version writes rows certain all.1)

-- what the first rows come to, and one more
module _ (ask : ShardAsk) (rows : List Row) (row : Row) where
  pub count_more : (n : ℕ) → n ≡ length (keys_of_rows ask rows) → n + length (keys_of_rows ask (row ∷ [])) ≡ length (keys_of_rows ask (rows ++ row ∷ []))
  count_more n h = ap (λ m. m + length (keys_of_rows ask (row ∷ []))) h ∙ sym (length-append (keys_of_rows ask rows) (keys_of_rows ask (row ∷ []))) ∙ ap length (sym (keys_append ask rows (row ∷ [])))

  pub first_more : (kept new : List HitKey) → in_hit_order kept ≡ first_keys ask (keys_of_rows ask rows)
      → in_hit_order new ≡ take (window ask.body) (in_hit_order (kept ++ filter (is_after ask.after) (keys_of_rows ask (row ∷ []))))
      → in_hit_order new ≡ first_keys ask (keys_of_rows ask (rows ++ row ∷ []))
  first_more kept new before after =
      after ∙ first_append (window ask.body) kept (filter (is_after ask.after) (keys_of_rows ask rows)) (filter (is_after ask.after) (keys_of_rows ask (row ∷ []))) before
      ∙ ap (λ keys. take (window ask.body) (in_hit_order keys))
      (sym (filter-append (is_after ask.after) (keys_of_rows ask rows) (keys_of_rows ask (row ∷ []))) ∙ ap (filter (is_after ask.after)) (sym (keys_append ask rows (row ∷ []))))

-- no row comes to no key
pub first_none : (ask : ShardAsk) (kept : List HitKey) → kept ≡ [] → in_hit_order kept ≡ first_keys ask (keys_of_rows ask [])
first_none ask kept none = ap in_hit_order none ∙ sym (take_all (window ask.body) [] (omega arith))
