-- What is known of work on a shard stays where more is written to it.
use Rattle.std.proofs.Common.{◌≡◌, ◌<◌, ◌≤◌, ℕ, zero, suc, true, false, cond, ◌+◌, List, ◌++◌, length, Option, Some, None, refl, sym, ap, subst, ◌∙◌, arith, length-append}
use Rattle.std.specs.Prelude.{IfSome, IsSome, unwrap_or}
use Rattle.task_ids.specs.declared.doc.Doc.{Doc}
use Rattle.task_ids.specs.declared.task_id.TaskId.{TaskId}
use Rattle.task_events.specs.declared.reply.Hit.{Hit}
use Rattle.task_events.specs.declared.reply.ShardTop.{ShardTop}
use Rattle.task_events.specs.declared.request.Request.{Request}
use Rattle.task_events.specs.declared.request.Request.TheVariants as asks
use Rattle.task_events.specs.Kind.{Progress}
use Rattle.task_events.specs.Looking.{is_done}
use Rattle.task_events.specs.QueryTask.{rows_for}
use Rattle.search_phase.specs.Fetches.{FetchState, has_fetched}
use Rattle.search_phase.specs.Queries.{QueryState, IsQueried, version_at}
use Rattle.search_phase.proofs.Growing.{IsQueried-grow, IsFetched-grow, rows_for-grow, shard_top-grow, fetched-grow}
use Rattle.search_phase.proofs.Runs.{queried_version}
use Rattle.task_work.specs.declared.work.Work.{Work}
use Rattle.task_work.specs.declared.work.Work.TheVariants as works
use Rattle.task_work.specs.Plans.{IsWorkAt}
use Rattle.task_work.specs.Reads.{ReadsWithin}
use Rattle.task_work.specs.Works.{IsWorkOn, found_top, with_turn}

-- ---- the work of a query and of a fetch

some_within : (o : Option ℕ) (all : ℕ) → ((v : ℕ) → o ≡ Some v → v ≤ all) → IfSome o (λ v. v ≤ all)
some_within None all within = tt
some_within (Some v) all within = within v refl

not_done : (turns all : ℕ) → turns ≡ 0 → is_done turns all ≡ false
not_done turns all none = rw none refl

-- what a query has found stays
same_top : (q : QueryState) (writes more : List Doc) → ((v : ℕ) → q.version ≡ Some v → v ≤ length writes) → IsQueried q writes → found_top q (writes ++ more) ≡ found_top q writes
same_top q writes more within queried = by_version q.version refl
  where
    by_version : (o : Option ℕ) → q.version ≡ o → found_top q (writes ++ more) ≡ found_top q writes
    by_version (Some v) e =
        let rows = rows_for-grow q.ask v writes more (within v e) in
        let top = shard_top-grow q.ask v writes more (within v e) in
        rw e (λ i. cond (is_done q.turns (length (rows i))) (Some (top i)) None)
    by_version None e =
        let unturned : q.turns ≡ 0 = unfixed q.turns (λ some. let there = queried.version_fixed some in rw e at there) in
        rw (e, not_done q.turns (length (rows_for q.ask (length (writes ++ more)) (writes ++ more))) unturned, not_done q.turns (length (rows_for q.ask (length writes) writes)) unturned) refl
      where
        no_version : Option ℕ
        no_version = None

        unfixed : (turns : ℕ) → (0 < turns → IsSome no_version) → turns ≡ 0
        unfixed zero none = refl
        unfixed (suc turns) none = absurd (let f : false ≡ true = none (omega arith) in cc)

query_on_grown : (q : QueryState) (top : Option ShardTop) (writes more : List Doc) → ((v : ℕ) → q.version ≡ Some v → v ≤ length writes) → IsWorkOn (works.Query q top) writes → IsWorkOn (works.Query q top) (writes ++ more)
query_on_grown q top writes more within on = (IsQueried-grow q writes more (some_within q.version (length writes) within) on.0, on.1 ∙ sym (same_top q writes more within on.0))

fetch_on_grown : (f : FetchState) (hits : Option (List Hit)) (writes more : List Doc) → f.ask.version ≤ length writes → IsWorkOn (works.Fetch f hits) writes → IsWorkOn (works.Fetch f hits) (writes ++ more)
fetch_on_grown f hits writes more within on =
    (IsFetched-grow f writes more within on.0, on.1 ∙ sym (ap (λ docs. cond (has_fetched f) (Some docs) None) (fetched-grow f.ask writes more within)))

-- ---- any work

module _ (task : TaskId) (shards : ℕ) (p : Progress) (writes more : List Doc) where
  -- it is still exactly so far
  pub work_grown : (request : Request) (work : Work) → ReadsWithin writes work → IsWorkAt task request shards p writes work → IsWorkAt task request shards p (writes ++ more) work
  work_grown (asks.Query ask) (works.Query q top) within at =
      let grown = query_on_grown q top writes more within (at.0.on, at.1) in
      (record { ask_is = at.0.ask_is; turns_are = at.0.turns_are; version_is = at.0.version_is; on = grown.0 }, grown.1)
  work_grown (asks.Query ask) _ within at = absurd at
  work_grown (asks.Fetch ask) (works.Fetch f hits) within at =
      let grown = fetch_on_grown f hits writes more within (at.0.on, at.1) in
      (record { ask_is = at.0.ask_is; turns_are = at.0.turns_are; on = grown.0 }, grown.1)
  work_grown (asks.Fetch ask) _ within at = absurd at
  work_grown (asks.Search ask) work within at = at
  work_grown (asks.Scroll ask) work within at = at
  work_grown (asks.Reindex ask) work within at = at
  work_grown (asks.Slice ask) work within at = at
  work_grown (asks.Bulk ask) work within at = at
  work_grown (asks.BulkShard ask) work within at = at

-- ---- the version that it reads

-- lies within what was written then
pub within_grown : (writes more : List Doc) (work : Work) → ReadsWithin writes work → ReadsWithin (writes ++ more) work
within_grown writes more (works.Query q top) within = λ v e. let low = within v e in omega (arith, low, length-append writes more)
within_grown writes more (works.Fetch f hits) within = omega (arith, within, length-append writes more)
within_grown writes more (works.Search s) within = within
within_grown writes more (works.Scroll s) within = within
within_grown writes more (works.Reindex r) within = within
within_grown writes more (works.Slice s) within = within
within_grown writes more (works.Bulk b) within = within
within_grown writes more (works.BulkShard w) within = within

pub fixed_within : (o : Option ℕ) (all : ℕ) → ((v : ℕ) → o ≡ Some v → v ≤ all) → unwrap_or o all ≤ all
fixed_within None all within = omega arith
fixed_within (Some v) all within = within v refl

only_number : (v w : ℕ) → Some v ≡ Some w → v ≡ w
only_number v w e = cc

-- the first turn fixes it within what the shard has
pub within_turned : (writes : List Doc) (work : Work) → ReadsWithin writes work → ReadsWithin writes (with_turn work writes)
within_turned writes (works.Query q top) within = λ v e.
    let is : version_at q writes ≡ v = only_number _ v (sym (queried_version q.ask (version_at q writes) (q.turns + 1) writes) ∙ e) in
    subst (λ n. n ≤ length writes) is (fixed_within q.version (length writes) within)
within_turned writes (works.Fetch f hits) within = within
within_turned writes (works.Search s) within = within
within_turned writes (works.Scroll s) within = within
within_turned writes (works.Reindex r) within = within
within_turned writes (works.Slice s) within = within
within_turned writes (works.Bulk b) within = within
within_turned writes (works.BulkShard w) within = within
