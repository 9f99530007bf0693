-- A search that has been told what all its rows say ends with the plain answer over them.
use Rattle.std.specs.Prelude.{◌≡◌, ℕ, zero, suc, ◌==◌, List, [], ◌∷◌, true, Option, Some, None, filter_map, length, option_and_then, option_map, slice_get, zip, refl}
use Rattle.std.specs.List.{AllByRecursion, cons_option}
use Rattle.std.proofs.Common.{sym, ap, subst}
use Rattle.search_phase.proofs.Plain.{honest_search_is_plain}
use Rattle.search_phase.proofs.Requests.{ended}
use Rattle.search_phase.proofs.Sorting.{by_test}
use Rattle.search_phase.specs.Searching.{IsSearching, Searching, has_ended, next_step, plain_counts, plain_reply, reply_of}
use Rattle.task_ids.proofs.Each.{all_here}
use Rattle.task_ids.specs.declared.doc.Doc.{Doc}
use Rattle.task_events.specs.Answers.{count_read, plain_answer}
use Rattle.task_events.specs.Readings.{Reading, shard_read}
use Rattle.task_events.specs.Searches.{failed_in, query_of, top_of}
use Rattle.task_events.specs.declared.reading.ShardRead.{ShardRead}
use Rattle.task_events.specs.declared.reading.ShardRead.TheVariants.{Newest, Kept}
use Rattle.task_events.specs.declared.reply.FailedShard.{FailedShard}
use Rattle.task_events.specs.declared.reply.Reply.{Reply}
use Rattle.task_events.specs.declared.reply.Reply.TheVariants.{AllFailed}
use Rattle.task_events.specs.declared.reply.ShardCount.{ShardCount}
use Rattle.task_events.specs.declared.reply.ShardTop.{ShardTop}
use Rattle.task_events.specs.declared.request.SearchAsk.{SearchAsk}
use Rattle.task_events.specs.declared.step.Asked.{Asked}
use Rattle.reply_facts.specs.Plainly.{AreWhole, IsPlainOver, count_over, counts_told, failures_told, top_over}
use Rattle.work_facts.specs.Searches.{IsPlainSearch, IsReadWhole}
use Rattle.work_facts.proofs.Searches.{all_honest, top_says}
use Rattle.work_facts.proofs.Own.{reply_counts_own, reply_loses_own}
use Rattle.work_facts.proofs.Whole.{tells_of_each}

-- ---- the plain answer tells which shards it is over

module _ (rows : ℕ → List Doc) (r : Reading) (counts : List ShardCount) (failed : List FailedShard) where
  abbrev pub IsPlainByItself : Reply → Type 0
  IsPlainByItself reply = reply ≡ plain_answer r rows (counts_told reply) (failures_told reply)

  pub plain_by_itself : IsPlainByItself (plain_answer r rows counts failed)
  plain_by_itself =
      by_test (length failed == length r.shards)
      (λ all. rw all (let same : AllFailed failed ≡ plain_answer r rows [] failed = rw all refl in same))
      (λ some. rw some (rw some refl))

  pub counts_by_itself : AreWhole r.ask rows counts → AreWhole r.ask rows (counts_told (plain_answer r rows counts failed))
  counts_by_itself whole = by_test (length failed == length r.shards) (λ all. rw all tt) (λ some. rw some whole)

-- ---- its counts

module _ (ask : SearchAsk) (rows : ℕ → List Doc) where
  abbrev count_told : ShardRead × Asked → Option ShardCount
  count_told p = option_map (λ top. count_read ask rows p.0 top.version) (option_and_then top_of p.1.answer)

  -- Q of the count of each shard that was told
  each_count : (Q : ShardCount → Type 0) (reads : List ShardRead) (asked : List Asked)
      → ((i : ℕ) (at : ShardRead) (a : Asked) (top : ShardTop) → slice_get reads i ≡ Some at → slice_get asked i ≡ Some a → option_and_then top_of a.answer ≡ Some top → Q (count_read ask rows at top.version))
      → AllByRecursion Q (filter_map count_told (zip reads asked))
  each_count Q [] asked each = tt
  each_count Q (at ∷ reads) [] each = tt
  each_count Q (at ∷ reads) (a ∷ asked) each = by_top (option_and_then top_of a.answer) refl (each_count Q reads asked (λ i at a top here there. each (suc i) at a top here there))
    where
      by_top : (o : Option ShardTop) → option_and_then top_of a.answer ≡ o → AllByRecursion Q (filter_map count_told (zip reads asked))
          → AllByRecursion Q (cons_option (option_map (λ top. count_read ask rows at top.version) o) (filter_map count_told (zip reads asked)))
      by_top None e rest = rest
      by_top (Some top) e rest = (each zero at a top refl refl e, rest)

-- ---- the end

module _ (rows : ℕ → List Doc) (s : Searching) (h : IsPlainSearch rows s) where
  abbrev IsWhole : ShardCount → Type 0
  IsWhole n = n ≡ count_over s.reading.ask rows n.shard

  count_whole : (at : ShardRead) (top : ShardTop) → IsReadWhole s.reading.ask rows at → top ≡ top_over (query_of s.reading at) (rows (shard_read at)) → IsWhole (count_read s.reading.ask rows at top.version)
  count_whole (Newest shard) top whole says = ap (λ (t : ShardTop). count_read s.reading.ask rows (Newest shard) t.version) says
  count_whole (Kept n) top whole says = whole

  counts_whole : AreWhole s.reading.ask rows (plain_counts rows s)
  counts_whole = each_count s.reading.ask rows IsWhole s.reading.shards s.asked
      (λ i at a top here there e. count_whole at top (all_here (IsReadWhole s.reading.ask rows) s.reading.shards i at h.reads here) (top_says rows s h i at a top here there e))

  -- it is over the shards that it counts itself
  pub ends_plainly : IsSearching s → has_ended (next_step s) ≡ true → IsPlainOver rows s.reading (reply_of s)
  ends_plainly sound over =
      let same : reply_of s ≡ plain_reply rows s = honest_search_is_plain rows s sound over (all_honest rows s h) in
      let counts : List ShardCount = plain_counts rows s in
      let failed : List FailedShard = failed_in s.reading s.asked in
      record {
        plain = subst (IsPlainByItself rows s.reading counts failed) (sym same) (plain_by_itself rows s.reading counts failed);
        counts = subst (λ reply. AreWhole s.reading.ask rows (counts_told reply)) (sym same) (counts_by_itself rows s.reading counts failed counts_whole);
        whole = tells_of_each s sound (ended s over);
        counted = reply_counts_own s sound (ended s over);
        lost = reply_loses_own s sound (ended s over);
      }
