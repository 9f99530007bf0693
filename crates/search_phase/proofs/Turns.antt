-- How far a query has come after one more turn.
use Rattle.std.specs.Prelude.{◌≡◌, ℕ, ◌+◌, ◌*◌, ◌<◌, ◌≤◌, false, ◌&&◌, cond, nat_le, List, ◌++◌, Option, Some, None, IfSome, unwrap_or, length, map, filter, take, drop, refl}
use Rattle.std.proofs.Common.{sym, ◌∙◌, ap, subst, arith, ⊎_elim}
use Rattle.std.proofs.Math.Seq.{take-add}
use Rattle.std.proofs.lemmas.Bool.{lt-ltb, leb-false, cases_lt}
use Rattle.std.proofs.lemmas.List.{length-append, length-take, length-map, map-append}
use Rattle.std.proofs.lemmas.List.Elements.{filter-append}
use Rattle.task_ids.specs.declared.doc.Doc.{Doc}
use Rattle.task_ids.specs.Rows.{Row, rows_at}
use Rattle.query_match.specs.Picks.{has_picked, pick_of}
use Rattle.task_events.specs.declared.request.HitKey.{HitKey}
use Rattle.task_events.specs.declared.request.ShardAsk.{ShardAsk}
use Rattle.task_events.specs.HitOrder.{in_hit_order, is_after}
use Rattle.task_events.specs.Answers.{window, is_found, hit_key}
use Rattle.task_events.specs.Looking.{rows_per_turn, is_done}
use Rattle.task_events.specs.QueryTask.{rows_for}
use Rattle.search_phase.specs.Queries.{QueryState, version_at, has_ended, rows_in, rows_left, next_rows, last_place, keys_of_rows, looked, without_keys, with_rows, IsQuery, IsQueried}
use Rattle.shard_docs.specs.Candidates.{is_above}
use Rattle.search_phase.proofs.Cut.{length-in_hit_order}
use Rattle.search_phase.proofs.Kept.{first_append, cut_stays}
use Rattle.search_phase.proofs.Rows.{Ascend, living_ascend, filter_ascend, past_first, past_more, last_append, few_rows, few_filter}

-- ---- so much a turn

pub turn_is : rows_per_turn ≡ 1024
unfolding rows_per_turn
turn_is = refl

turn_more : (turns : ℕ) → (turns + 1) * rows_per_turn ≡ turns * rows_per_turn + rows_per_turn
unfolding rows_per_turn
turn_more turns = omega arith

-- after a turn, whether all was looked at
pub done_after : (turns much : ℕ) → is_done (turns + 1) much ≡ nat_le much ((turns + 1) * 1024)
done_after turns much = ap (λ b. b && nat_le much ((turns + 1) * rows_per_turn)) (lt-ltb 0 (turns + 1) (omega arith)) ∙ ap (λ n. nat_le much ((turns + 1) * n)) turn_is

-- work that is not done has not passed its end
pub not_done : (turns much : ℕ) → is_done turns much ≡ false → turns * 1024 ≤ much
not_done turns much h = ⊎_elim some (λ none. omega arith) (cases_lt 0 turns)
  where
    some : 0 < turns → turns * 1024 ≤ much
    some pos =
        let past = leb-false much (turns * 1024) (ap (λ n. nat_le much (turns * n)) (sym turn_is) ∙ ap (λ b. b && nat_le much (turns * rows_per_turn)) (sym (lt-ltb 0 turns pos)) ∙ h) in
        omega (arith, past)

-- ---- rows and their keys

pub keys_append : (ask : ShardAsk) (xs ys : List Row) → keys_of_rows ask (xs ++ ys) ≡ keys_of_rows ask xs ++ keys_of_rows ask ys
keys_append ask xs ys =
    ap (map (hit_key ask.body ask.shard)) (filter-append (λ (row : Row). is_found ask.body ask.slice row.1) xs ys)
    ∙ map-append (hit_key ask.body ask.shard) (filter (λ (row : Row). is_found ask.body ask.slice row.1) xs) (filter (λ (row : Row). is_found ask.body ask.slice row.1) ys)

-- no more keys than rows
pub few_keys : (ask : ShardAsk) (rows : List Row) → length (keys_of_rows ask rows) ≤ length rows
few_keys ask rows =
    let found = filter (λ (row : Row). is_found ask.body ask.slice row.1) rows in
    omega (arith, length-map found (hit_key ask.body ask.shard), few_filter (λ (row : Row). is_found ask.body ask.slice row.1) rows)

module _ (ask : ShardAsk) (version : ℕ) (writes : List Doc) where
  pub rows_ascend : Ascend 0 (rows_for ask version writes)
  rows_ascend = filter_ascend (λ (row : Row). has_picked (pick_of ask.body.query) row.1.source) 0 (rows_at version writes) (living_ascend 0 (take version writes))

  -- no more than the version
  pub few_rows_for : length (rows_for ask version writes) ≤ version
  few_rows_for = omega (arith, few_rows version writes, few_filter (λ (row : Row). has_picked (pick_of ask.body.query) row.1.source) (rows_at version writes))

-- ---- before the turn

pub asked_again : (asked fixed : Option ℕ) (all : ℕ) → IfSome asked (λ version. fixed ≡ Some version) → IfSome asked (λ version. Some (unwrap_or fixed all) ≡ Some version)
asked_again None fixed all h = tt
asked_again (Some version) fixed all h = ap (λ o. Some (unwrap_or o all)) h

-- what is left after a turn is what was left before, but for the rows of the turn
pub left_after : (q : QueryState) (version : ℕ) (writes : List Doc) → rows_left (with_rows q version (next_rows q version writes)) version writes ≡ drop rows_per_turn (rows_left q version writes)
left_after q version writes = past_more q.last rows_per_turn 0 (rows_for q.ask version writes) (rows_ascend q.ask version writes)

-- no more rows are left than the version has
pub few_left : (q : QueryState) (version : ℕ) (writes : List Doc) → length (rows_left q version writes) ≤ version
few_left q version writes = omega (arith, few_rows_for q.ask version writes, few_filter (λ (row : Row). is_above q.last row.0) (rows_for q.ask version writes))

-- a turn looks at 1,024 rows at most
pub few_next : (q : QueryState) (version : ℕ) (writes : List Doc) → length (next_rows q version writes) ≤ 1024
few_next q version writes = subst (λ n. length (next_rows q version writes) ≤ n) turn_is (omega (arith, length-take rows_per_turn (rows_left q version writes)))

-- the rows of a query that has not ended begin within the version
pub turn_start : (q : QueryState) (writes : List Doc) → has_ended q writes ≡ false → q.turns * 1024 ≤ version_at q writes
turn_start q writes open_yet =
    omega (arith, not_done q.turns (length (rows_for q.ask (version_at q writes) writes)) open_yet, few_rows_for q.ask (version_at q writes) writes)

-- at most as many keys are kept as are asked for
pub few_kept : (q : QueryState) (kept : List HitKey) → IsQuery q → in_hit_order kept ≡ q.keys → length kept ≤ window q.ask.body
few_kept q kept is same = let few : length q.keys ≤ window q.ask.body = is.few_kept in omega (arith, length-in_hit_order kept, ap length same, few)

-- what holds of every query still holds after a turn
pub still_query : (q : QueryState) (version : ℕ) (writes : List Doc) (rows : List Row) → IsQuery q → version ≡ version_at q writes → length rows ≤ 1024 → IsQuery (with_rows q version rows)
still_query q version writes rows is reads few = record {
  version_asked = subst (λ v. IfSome q.ask.version (λ asked. Some v ≡ Some asked)) (sym reads) (asked_again q.ask.version q.version (length writes) is.version_asked);
  version_fixed = λ turned. refl;
  few_counted =
      let so_far : q.count ≤ q.turns * 1024 = subst (λ n. q.count ≤ q.turns * n) turn_is is.few_counted in
      let counted : q.count + length (keys_of_rows q.ask rows) ≤ (q.turns + 1) * 1024 = omega (arith, so_far, few, few_keys q.ask rows) in
      subst (λ n. q.count + length (keys_of_rows q.ask rows) ≤ (q.turns + 1) * n) (sym turn_is) counted;
  few_kept = omega (arith, length-take (window q.ask.body) (in_hit_order (q.keys ++ filter (is_after q.ask.after) (keys_of_rows q.ask rows))));
}

-- ---- the turn

module _ (q : QueryState) (writes : List Doc) (version : ℕ) (reads : version ≡ version_at q writes) (open_yet : has_ended q writes ≡ false) (h : IsQueried q writes) where
  before : record q { version = Some version } ≡ looked q.ask version q.turns writes
  before =
      let v = version_at q writes in
      subst (λ n. record q { version = Some n } ≡ looked q.ask n q.turns writes) (sym reads) (h.looked ∙ ap (λ b. cond b (without_keys (looked q.ask v q.turns writes)) (looked q.ask v q.turns writes)) open_yet)

  -- the rows that are left are the others
  pub left_is : rows_left q version writes ≡ drop (q.turns * rows_per_turn) (rows_for q.ask version writes)
  left_is =
      ap (λ o. filter (λ (row : Row). is_above o row.0) (rows_for q.ask version writes)) (ap (λ (s : QueryState). s.last) before)
      ∙ past_first None (q.turns * rows_per_turn) (rows_for q.ask version writes) (rows_ascend q.ask version writes)

  abbrev so_far : List Row
  so_far = rows_in q.ask version q.turns writes

  abbrev here : List Row
  here = next_rows q version writes

  both : so_far ++ here ≡ rows_in q.ask version (q.turns + 1) writes
  both =
      ap (λ rows. so_far ++ take rows_per_turn rows) left_is
      ∙ sym (take-add (q.turns * rows_per_turn) rows_per_turn (rows_for q.ask version writes))
      ∙ ap (λ n. take n (rows_for q.ask version writes)) (sym (turn_more q.turns))

  -- the query has looked at the rows of one more turn
  pub looked_on : with_rows q version (next_rows q version writes) ≡ looked q.ask version (q.turns + 1) writes
  looked_on =
      let last = ap (λ o. last_place o here) (ap (λ (s : QueryState). s.last) before) ∙ last_append None so_far here ∙ ap (last_place None) both in
      let keys = sym (keys_append q.ask so_far here) ∙ ap (keys_of_rows q.ask) both in
      let count = ap (λ n. n + length (keys_of_rows q.ask here)) (ap (λ (s : QueryState). s.count) before) ∙ sym (length-append (keys_of_rows q.ask so_far) (keys_of_rows q.ask here)) ∙ ap length keys in
      let passed = sym (filter-append (is_after q.ask.after) (keys_of_rows q.ask so_far) (keys_of_rows q.ask here)) ∙ ap (filter (is_after q.ask.after)) keys in
      let kept = ap in_hit_order (ap (λ (s : QueryState). s.keys) before) ∙ cut_stays (window q.ask.body) (filter (is_after q.ask.after) (keys_of_rows q.ask so_far)) in
      let first = first_append (window q.ask.body) q.keys (filter (is_after q.ask.after) (keys_of_rows q.ask so_far)) (filter (is_after q.ask.after) (keys_of_rows q.ask here)) kept
      ∙ ap (λ found. take (window q.ask.body) (in_hit_order found)) passed in
      λ i. record { ask = q.ask; version = Some version; turns = q.turns + 1; last = last i; count = count i; keys = first i }
