-- The reply of a search, and of a page of one, is one that it can have.
use Rattle.std.specs.Prelude.{◌≡◌, ℕ, ◌^◌, ◌<◌, ◌≤◌, ◌==◌, List, Bool, true, false, not, ◌&&◌, nat_lt, nat_le, cond, Some, None, is_some, filter_map, zip, drop, length, min, refl}
use Rattle.std.proofs.Common.{sym, ◌∙◌, ap, arith, lit<}
use Rattle.std.proofs.lemmas.Bool.{lt-ltb, le-leb, leb-true, eqb-false, eq-eqb}
use Rattle.std.proofs.lemmas.List.{length-take, length-map}
use Rattle.std.proofs.lemmas.List.FromFn.{length-map-range_with_len}
use Rattle.std.proofs.lemmas.Slice.Zip.{length-zip}
use Rattle.std.specs.List.{sum_by, flat_map}
use Rattle.std.specs.Option.{option_map_or}
use Rattle.task_ids.specs.declared.task_id.TaskId.{TaskId}
use Rattle.task_ids.specs.Limits.{IsShardCount}
use Rattle.task_events.specs.declared.context.Context.{Context}
use Rattle.task_events.specs.declared.reading.ShardRead.{ShardRead}
use Rattle.task_events.specs.declared.reading.ShardRead.TheVariants.{Newest, Kept}
use Rattle.task_events.specs.declared.request.HitKey.{HitKey}
use Rattle.task_events.specs.declared.request.ScrollAsk.{ScrollAsk}
use Rattle.task_events.specs.declared.request.SearchAsk.{SearchAsk}
use Rattle.task_events.specs.declared.request.Request.TheVariants as asks
use Rattle.task_events.specs.declared.reply.FailedShard.{FailedShard}
use Rattle.task_events.specs.declared.reply.Hit.{Hit}
use Rattle.task_events.specs.declared.reply.ShardCount.{ShardCount}
use Rattle.task_events.specs.declared.reply.ShardTop.{ShardTop}
use Rattle.task_events.specs.declared.step.Asked.{Asked}
use Rattle.task_events.specs.HitOrder.{in_hit_order}
use Rattle.task_events.specs.Contexts.{opens_context}
use Rattle.task_events.specs.Kinds.{can_have}
use Rattle.task_events.specs.Readings.{Reading, search_reading, page_reading}
use Rattle.task_events.specs.Same.{same_task}
use Rattle.task_events.specs.Searches.{tops_in, winners_among, counts_in, failed_at, failed_in, hit_in}
use Rattle.search_phase.specs.Searching.{Searching, IsSearching, reply_of}
use Rattle.search_phase.proofs.Sorting.{by_test}
use Rattle.search_phase.proofs.CountsFit.{total_below}
use Rattle.search_phase.proofs.Roots.{length-filter_map}

same_itself : (t : TaskId) → same_task t t ≡ true
unfolding same_task
same_itself t = rw (eq-eqb t.node t.node refl, eq-eqb t.number t.number refl) refl

abbrev agrees : Bool → Bool → Bool
agrees true b = b
agrees false b = not b

module _ (s : Searching) (h : IsSearching s) where
  abbrev failed : List FailedShard
  failed = failed_in s.reading s.asked

  abbrev hits : List Hit
  hits = filter_map (hit_in s.reading.ask (length s.reading.shards) s.asked) (winners_among s.reading.ask.body (tops_in (length s.reading.shards) s.asked))

  abbrev total : ℕ
  total = sum_by (λ (n : ShardCount). n.count) (counts_in s.reading s.asked)

  -- where not all failed, fewer did than there are shards
  some_left : (shards : ℕ) → length s.reading.shards ≤ shards → (length failed == length s.reading.shards) ≡ false → nat_lt (length failed) shards ≡ true
  some_left shards most some =
      let pairs : List (ShardRead × Asked) = zip s.reading.shards s.asked in
      let less : length failed ≤ length pairs = length-filter_map (λ (p : ShardRead × Asked). failed_at s.reading.ask (length s.reading.shards) s.asked p.0 p.1) pairs in
      let other : length failed ≡ length s.reading.shards → ⊥ = eqb-false (length failed) (length s.reading.shards) some in
      lt-ltb (length failed) shards (below (length failed) (length s.reading.shards) (omega (arith, less, length-zip s.reading.shards s.asked)) other most)
    where
      below : (m n : ℕ) → m ≤ n → (m ≡ n → ⊥) → n ≤ shards → m < shards
      below m n l e k = omega arith

  few_hits : nat_le (length hits) s.reading.ask.body.size ≡ true
  few_hits =
      let won : List HitKey = winners_among s.reading.ask.body (tops_in (length s.reading.shards) s.asked) in
      let past : List HitKey = drop s.reading.ask.body.from (in_hit_order (flat_map (λ (t : ShardTop). t.keys) (tops_in (length s.reading.shards) s.asked))) in
      let cut : length won ≡ min s.reading.ask.body.size (length past) = length-take s.reading.ask.body.size past in
      let less : length hits ≤ length won = length-filter_map (hit_in s.reading.ask (length s.reading.shards) s.asked) won in
      le-leb (length hits) s.reading.ask.body.size (omega arith)

  few_rows : (shards : ℕ) → length s.reading.shards ≤ shards → shards ≤ 15 → nat_lt total (2 ^ 36) ≡ true
  few_rows shards most few = lt-ltb total (2 ^ 36) (total_below s h 15 (2 ^ 36) (omega arith) (lit< tt))

  pub search_is_possible : (task : TaskId) (ask : SearchAsk) (shards : ℕ) → IsShardCount shards → s.reading ≡ search_reading task ask shards → can_have shards (asks.Search ask) (reply_of s) ≡ true
  search_is_possible task ask shards few is =
      let long : length s.reading.shards ≡ shards = ap (λ (r : Reading). length r.shards) is ∙ length-map-range_with_len Newest 0 shards in
      let most : length s.reading.shards ≤ shards = omega arith in
      let contexts : agrees (opens_context ask) (is_some s.reading.context) ≡ true = ap (λ (r : Reading). agrees (opens_context ask) (is_some r.context)) is ∙ opens (opens_context ask) in
      let size : nat_le (length hits) ask.body.size ≡ true = ap (λ (r : Reading). nat_le (length hits) r.ask.body.size) (sym is) ∙ few_hits in
      by_test (length failed == length s.reading.shards)
      (λ all. rw all refl)
      (λ some. rw some (all_true contexts (some_left shards most some) size (few_rows shards most few.1)))
    where
      opens : (b : Bool) → agrees b (is_some (cond b (Some task) None)) ≡ true
      opens true = refl
      opens false = refl

      all_true : {a b c d : Bool} → a ≡ true → b ≡ true → c ≡ true → d ≡ true → (a && b && c && d) ≡ true
      all_true ha hb hc hd = rw (ha, hb, hc, hd) refl

  pub page_is_possible : (context : Context) (ask : ScrollAsk) (shards : ℕ) → ask.id ≡ context.id → length context.shards ≤ shards → shards ≤ 15 → context.ask.body.size ≤ 10000 → s.reading ≡ page_reading context
      → can_have shards (asks.Scroll ask) (reply_of s) ≡ true
  page_is_possible context ask shards own few most bounded is =
      let long : length s.reading.shards ≡ length context.shards = ap (λ (r : Reading). length r.shards) is ∙ length-map context.shards Kept in
      let within : length s.reading.shards ≤ shards = omega arith in
      let size : s.reading.ask.body.size ≡ context.ask.body.size = ap (λ (r : Reading). r.ask.body.size) is in
      let shown : nat_le (length hits) 10000 ≡ true = le-leb (length hits) 10000 (omega (arith, leb-true (length hits) s.reading.ask.body.size few_hits)) in
      let named : option_map_or (same_task ask.id) s.reading.context false ≡ true =
      ap (λ (r : Reading). option_map_or (same_task ask.id) r.context false) is ∙ ap (same_task ask.id) (sym own) ∙ same_itself ask.id in
      by_test (length failed == length s.reading.shards)
      (λ all. rw all refl)
      (λ some. rw some (all_true named (some_left shards within some) shown (few_rows shards within most)))
    where
      all_true : {a b c d : Bool} → a ≡ true → b ≡ true → c ≡ true → d ≡ true → (a && b && c && d) ≡ true
      all_true ha hb hc hd = rw (ha, hb, hc, hd) refl
