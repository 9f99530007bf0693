-- Each place is that of the next row, which is there.
use Rattle.std.proofs.Common.{◌≡◌, ℕ, ◌+◌, ◌<◌, ◌≤◌, List, [], ◌∷◌, ◌++◌, take, filter, length, map, get_or, Some, unwrap_or, refl, sym, ap, ◌∙◌, arith, heap_items}
use Rattle.std.proofs.lemmas.List.{length-map, length-take, take_all}
use Rattle.task_ids.specs.declared.doc.Doc.{Doc}
use Rattle.task_ids.specs.Rows.{Row, row_at}
use Rattle.task_events.specs.Answers.{window, is_found}
use Rattle.task_events.specs.HitOrder.{in_hit_order, is_after}
use Rattle.search_phase.specs.LookedAt.{counts_all}
use Rattle.search_phase.specs.Queries.{QueryState, next_rows, keys_of_rows, first_keys}
use Rattle.search_phase.proofs.NextRows.{RowAt, IsNext, row_in, all_next, all_counted, count_more, first_more, first_none}
use Rattle.search_phase.proofs.Numbers.{number_of_row}
use Rattle.search_phase.proofs.Picking.{counted}
use Rattle.search_phase.proofs.Turns.{few_keys, few_next}
use Rattle.search_phase.proofs.query.ShardQuery.find.Goals as goal

pub returns-then-most-eq0-clause-count : goal.returns-then-most-eq0-clause-count
returns-then-most-eq0-clause-count c =
    let q = c.args.self.now in
    let next = next_rows q c.args.version c.args.shard.now.writes in
    let certain = ap (λ (s : QueryState). counts_all s.ask) (sym c.self.view_is) ∙ sym (c.counts_all-all.ensures ∙ ap counts_all c.get.ensures) ∙ c.if-all.true in
    ap length c.requires ∙ length-map next (λ (r : Row). r.0) ∙ sym (all_counted q c.args.version c.args.shard.now.writes next certain (all_next q c.args.version c.args.shard.now.writes))

pub loop-place-init : goal.loop-place-init
loop-place-init c = (
  c.new.ensures.heap_order,
  omega (arith, ap length c.new.ensures.items),
  refl,
  first_none c.args.self.now.ask (heap_items c.new.result) c.new.ensures.items,
)

-- ---- the row of a place

module _ (q : QueryState) (version : ℕ) (writes : List Doc) (places : List ℕ) (are : places ≡ map (λ (row : Row). row.0) (next_rows q version writes)) (i : ℕ) (within : i < length places) where
  abbrev here : RowAt (IsNext q version writes) (next_rows q version writes) i
  here =
      let next = next_rows q version writes in
      row_in (IsNext q version writes) next i (omega (arith, within, ap length are, length-map next (λ (row : Row). row.0))) (all_next q version writes)

  -- the row of that place
  its_row : row_at version (get_or places i 0) writes ≡ Some here.row.1
  its_row = ap (λ place. row_at version place writes) (ap (λ ps. get_or ps i 0) are ∙ here.place) ∙ here.has.there

  is_row : (doc : Doc) → Some doc ≡ row_at version (get_or places i 0) writes → (get_or places i 0, doc) ≡ here.row
  is_row doc found =
      let place : get_or places i 0 ≡ here.row.0 = ap (λ ps. get_or ps i 0) are ∙ here.place in
      let same : doc ≡ here.row.1 = ap (λ o. unwrap_or o doc) (found ∙ its_row) in
      λ j. (place j, same j)

  few_so_far : length (keys_of_rows q.ask (take i (next_rows q version writes))) ≤ 1024
  few_so_far = omega (arith, few_keys q.ask (take i (next_rows q version writes)), length-take i (next_rows q version writes), few_next q version writes)

pub unreachable-requires : goal.unreachable-requires
unreachable-requires c =
    let none = c.in_default.ensures in
    let some = its_row c.args.self.now c.args.version c.args.shard.now.writes c.args.places.now c.requires c.loop-place.place-index c.loop-place-test.true in
    absurd (cc)

pub add-requires-clause-certain : goal.add-requires-clause-certain
add-requires-clause-certain c = λ all.
    let q = c.args.self.now in
    let row = here q c.args.version c.args.shard.now.writes c.args.places.now c.requires c.loop-place.place-index c.loop-place-test.true in
    let same = is_row q c.args.version c.args.shard.now.writes c.args.places.now c.requires c.loop-place.place-index c.loop-place-test.true c.in-Some.doc.now c.in-Some.ensures in
    let certain = ap (λ (s : QueryState). counts_all s.ask) (sym c.self.view_is) ∙ sym (c.counts_all-all.ensures ∙ ap counts_all c.get.ensures) ∙ all in
    ap (λ (r : Row). is_found q.ask.body q.ask.slice r.1) same ∙ counted q.ask row.row certain row.has.picked

pub add-requires-clause-ordered : goal.add-requires-clause-ordered
add-requires-clause-ordered c = c.loop-place.invariant.0

pub add-requires-clause-few : goal.add-requires-clause-few
add-requires-clause-few c = c.loop-place.invariant.1

pub add-requires-clause-low : goal.add-requires-clause-low
add-requires-clause-low c =
    let few = few_so_far c.args.self.now c.args.version c.args.shard.now.writes c.args.places.now c.requires c.loop-place.place-index c.loop-place-test.true in
    let counted : c.loop-place.found.count ≡ length (keys_of_rows c.args.self.now.ask (take c.loop-place.place-index (next_rows c.args.self.now c.args.version c.args.shard.now.writes))) = c.loop-place.invariant.2 in
    omega (arith, few, counted)

pub add-requires-clause-number : goal.add-requires-clause-number
add-requires-clause-number c =
    number_of_row c.args.self.now.ask.body.sort c.args.version (get_or c.args.places.now c.loop-place.place-index 0) c.args.shard.now.writes c.numbers-numbers.result.now c.number_at.result c.in-Some.doc.now
    c.numbers-numbers.ensures c.number_at.ensures c.in-Some.ensures

pub loop-place-preserved : goal.loop-place-preserved
loop-place-preserved c =
    let q = c.args.self.now in
    let next = next_rows q c.args.version c.args.shard.now.writes in
    let i = c.loop-place.place-index in
    let row = here q c.args.version c.args.shard.now.writes c.args.places.now c.requires i c.loop-place-test.true in
    let same = is_row q c.args.version c.args.shard.now.writes c.args.places.now c.requires i c.loop-place-test.true c.in-Some.doc.now c.in-Some.ensures in
    let e = c.in_ok-add.ensures in (
      e.still_ordered,
      e.still_few,
      e.count ∙ ap (λ (r : Row). c.loop-place.found.count + length (keys_of_rows q.ask (r ∷ []))) same ∙ count_more q.ask (take i next) row.row c.loop-place.found.count c.loop-place.invariant.2
          ∙ ap (λ rows. length (keys_of_rows q.ask rows)) (sym row.more),
      first_more q.ask (take i next) row.row (heap_items c.loop-place.found.first) (heap_items c.add.new.found.first) c.loop-place.invariant.3
          (e.first ∙ ap (λ (r : Row). take (window q.ask.body) (in_hit_order (heap_items c.loop-place.found.first ++ filter (is_after q.ask.after) (keys_of_rows q.ask (r ∷ []))))) same)
          ∙ ap (λ rows. first_keys q.ask (keys_of_rows q.ask rows)) (sym row.more),
    )

-- ---- after the last

module _ (q : QueryState) (version : ℕ) (writes : List Doc) (places : List ℕ) (are : places ≡ map (λ (row : Row). row.0) (next_rows q version writes)) (i : ℕ) (past : length places ≤ i) where
  all_taken : take i (next_rows q version writes) ≡ next_rows q version writes
  all_taken = let next = next_rows q version writes in take_all i next (omega (arith, past, ap length are, length-map next (λ (row : Row). row.0)))

pub returns-clause-ordered : goal.returns-clause-ordered
returns-clause-ordered c = c.loop-place.invariant.0

pub returns-clause-count : goal.returns-clause-count
returns-clause-count c =
    c.loop-place.invariant.2
    ∙ ap (λ rows. length (keys_of_rows c.args.self.now.ask rows)) (all_taken c.args.self.now c.args.version c.args.shard.now.writes c.args.places.now c.requires c.loop-place.place-index (omega (arith, c.loop-place-test.false)))

pub returns-clause-first : goal.returns-clause-first
returns-clause-first c =
    c.loop-place.invariant.3
    ∙ ap (λ rows. first_keys c.args.self.now.ask (keys_of_rows c.args.self.now.ask rows)) (all_taken c.args.self.now c.args.version c.args.shard.now.writes c.args.places.now c.requires c.loop-place.place-index (omega (arith, c.loop-place-test.false)))
