-- The shards that answer a search are different, and all shards of a context answer a page in which none of them failed.
use Rattle.std.proofs.Common.{◌≡◌, ◌≢◌, ℕ, zero, suc, ◌+◌, ◌≤◌, Bool, true, false, List, [], ◌∷◌, Option, Some, None, refl, sym, ap, ◌∙◌, inl, inr, arith}
use Rattle.std.specs.Prelude.{not, map, filter, filter_map, is_some, ◌==◌, ◌||◌}
use Rattle.std.specs.List.{AllByRecursion, list_all, list_any, range_with_len}
use Rattle.std.proofs.lemmas.Bool.{eq-eqb}
use Rattle.task_ids.specs.declared.doc.Doc.{Doc}
use Rattle.task_ids.specs.declared.task_id.TaskId.{TaskId}
use Rattle.task_events.specs.declared.event.Event.{Event}
use Rattle.task_events.specs.declared.reading.ShardRead.{ShardRead}
use Rattle.task_events.specs.declared.reading.ShardRead.TheVariants.{Newest, Kept}
use Rattle.task_events.specs.declared.reply.FailedShard.{FailedShard}
use Rattle.task_events.specs.declared.reply.ShardCount.{ShardCount}
use Rattle.task_events.specs.declared.reply.ShardTop.{ShardTop}
use Rattle.task_events.specs.declared.request.SearchAsk.{SearchAsk}
use Rattle.task_events.specs.Answers.{has_failed, read_at, ShardVersion}
use Rattle.task_events.specs.Readings.{shard_read}
use Rattle.task_events.specs.ShardOutcomes.{found_in, count_found, fetch_failed, shard_failed}
use Rattle.search_phase.proofs.Lookups.{IsIn, IsIn-filter, list_any-in, list_any-map}
use Rattle.search_phase.proofs.Sorting.{by_test}
use Rattle.search_phase.proofs.CursorCuts.{all-weaker}
use Rattle.search_phase.proofs.KeysApart.{AreDifferent}

abbrev pub shards_of : List ShardCount → List ℕ
shards_of counts = map (λ (at : ShardVersion). at.0) (map read_at counts)

module _ (ask : SearchAsk) (writes : ℕ → List Doc) (t : TaskId) (h : List Event) where
  abbrev count_of : ShardRead → Option ShardCount
  count_of at = count_found ask writes t h at

  -- ---- a search

  -- what answers from a shard on
  newest_different : (first n : ℕ) → AllByRecursion (λ s. first ≤ s) (shards_of (filter_map count_of (map Newest (range_with_len first n)))) × AreDifferent (shards_of (filter_map count_of (map Newest (range_with_len first n))))
  newest_different first zero = (tt, tt)
  newest_different first (suc n) = of_top (found_in t h first) refl (newest_different (first + 1) n)
    where
      of_top : (o : Option ShardTop) → found_in t h first ≡ o → AllByRecursion (λ s. first + 1 ≤ s) (shards_of (filter_map count_of (map Newest (range_with_len (first + 1) n)))) × AreDifferent (shards_of (filter_map count_of (map Newest (range_with_len (first + 1) n))))
          → AllByRecursion (λ s. first ≤ s) (shards_of (filter_map count_of (map Newest (range_with_len first (suc n))))) × AreDifferent (shards_of (filter_map count_of (map Newest (range_with_len first (suc n)))))
      of_top None e rest = rw e (all-weaker (λ s. first + 1 ≤ s) (λ s. first ≤ s) (λ s k. omega (arith, k)) (shards_of (filter_map count_of (map Newest (range_with_len (first + 1) n)))) rest.0, rest.1)
      of_top (Some top) e rest =
          rw e (
            (omega arith, all-weaker (λ s. first + 1 ≤ s) (λ s. first ≤ s) (λ s k. omega (arith, k)) (shards_of (filter_map count_of (map Newest (range_with_len (first + 1) n)))) rest.0),
            (all-weaker (λ s. first + 1 ≤ s) (λ s. first ≢ s) (λ s k same. omega (arith, k, same)) (shards_of (filter_map count_of (map Newest (range_with_len (first + 1) n)))) rest.0, rest.1),
          )

  pub search_different : (n : ℕ) → AreDifferent (shards_of (filter_map count_of (map Newest (range_with_len 0 n))))
  search_different n = (newest_different 0 n).1

  -- ---- a page

  none_lost : (b c : Bool) → (not b || c) ≡ false → b ≡ true
  none_lost true c e = refl
  none_lost false c e = absurd (cc)

  -- a kept shard answers where it did not fail
  kept_answers : (failed : List FailedShard) (kept : List ShardCount) → map (λ (f : FailedShard). f.shard) failed ≡ filter (shard_failed t h) (map shard_read (map Kept kept))
      → (n : ShardCount) → IsIn n.shard (map shard_read (map Kept kept)) → has_failed failed n.shard ≡ false → count_of (Kept n) ≡ Some n
  kept_answers failed kept told n here fine =
      by_test (shard_failed t h n.shard)
      (λ lost.
      let among : IsIn n.shard (filter (shard_failed t h) (map shard_read (map Kept kept))) = IsIn-filter (shard_failed t h) n.shard (map shard_read (map Kept kept)) here lost in
      let some : list_any (λ s. s == n.shard) (filter (shard_failed t h) (map shard_read (map Kept kept))) ≡ true = list_any-in (λ s. s == n.shard) n.shard _ among (eq-eqb n.shard n.shard refl) in
      let same : has_failed failed n.shard ≡ true = sym (list_any-map (λ s. s == n.shard) (λ (f : FailedShard). f.shard) failed) ∙ ap (list_any (λ s. s == n.shard)) told ∙ some in
      absurd (let f : false ≡ true = sym fine ∙ same in cc))
      (λ good. of_top (found_in t h n.shard) refl (none_lost (is_some (found_in t h n.shard)) (fetch_failed t h n.shard) good))
    where
      of_top : (o : Option ShardTop) → found_in t h n.shard ≡ o → is_some (found_in t h n.shard) ≡ true → count_of (Kept n) ≡ Some n
      of_top None e some = absurd (let f : false ≡ true = rw e at some in cc)
      of_top (Some top) e some = rw e refl

  all_answer : (p : ShardCount → Bool) (kept : List ShardCount) → list_all p kept ≡ true → ((n : ShardCount) → IsIn n.shard (map shard_read (map Kept kept)) → p n ≡ true → count_of (Kept n) ≡ Some n) → filter_map count_of (map Kept kept) ≡ kept
  all_answer p [] all each = refl
  all_answer p (n ∷ kept) all each =
      by_test (p n)
      (λ yes.
      let first : count_of (Kept n) ≡ Some n = each n (inl refl) yes in
      rw first (ap (λ l. n ∷ l) (all_answer p kept (rw yes at all) (λ other there. each other (inr there)))))
      (λ no. absurd (let f : false ≡ true = rw no at all in cc))

  not_true : (b : Bool) → not b ≡ true → b ≡ false
  not_true true e = absurd (cc)
  not_true false e = refl

  pub page_answers : (failed : List FailedShard) (kept : List ShardCount) → map (λ (f : FailedShard). f.shard) failed ≡ filter (shard_failed t h) (map shard_read (map Kept kept))
      → list_all (λ n. not (has_failed failed n.shard)) kept ≡ true → filter_map count_of (map Kept kept) ≡ kept
  page_answers failed kept told given =
      all_answer (λ n. not (has_failed failed n.shard)) kept given (λ n here good. kept_answers failed kept told n here (not_true (has_failed failed n.shard) good))
