-- What the root of a reindex has done so far, by the work that is kept of it.
use Rattle.std.proofs.Common.{◌≡◌, ℕ, Bool, true, false, cond, List, Option, Some, None, refl, sym, ap, ◌∙◌, arith, eq-eqb}
use Rattle.std.specs.Prelude.{◌==◌, is_some, option_and_then}
use Rattle.std.proofs.lemmas.Bool.Decides.{nat_tests}
use Rattle.task_ids.specs.declared.task_id.TaskId.{TaskId}
use Rattle.task_ids.specs.declared.cluster.Cluster.{Cluster}
use Rattle.task_ids.specs.declared.corpus.Corpus.{Corpus}
use Rattle.task_events.specs.declared.event.Event.{Event}
use Rattle.task_events.specs.declared.reply.Counts.{Counts}
use Rattle.task_events.specs.declared.request.BulkAsk.{BulkAsk}
use Rattle.task_events.specs.declared.request.BulkShardAsk.{BulkShardAsk}
use Rattle.task_events.specs.declared.request.FetchAsk.{FetchAsk}
use Rattle.task_events.specs.declared.request.ReindexAsk.{ReindexAsk}
use Rattle.task_events.specs.declared.request.Request.{Request}
use Rattle.task_events.specs.declared.request.Request.TheVariants as asks
use Rattle.task_events.specs.declared.request.ShardAsk.{ShardAsk}
use Rattle.task_events.specs.declared.request.SliceAsk.{SliceAsk}
use Rattle.task_events.specs.Counting.{answers_in, sums_of}
use Rattle.task_events.specs.Kind.{Progress}
use Rattle.task_events.specs.Readings.{Reading, search_reading}
use Rattle.task_events.specs.ReindexTask.{reindex_counts}
use Rattle.task_events.specs.SliceTask.{slice_counts}
use Rattle.task_events.specs.Steps.{asked_by}
use Rattle.reindex.specs.declared.root.ReindexRoot.TheVariants.{Alone, Cut}
use Rattle.reindex.specs.RootWork.{root_counts}
use Rattle.task_work.specs.declared.work.Work.{Work}
use Rattle.task_work.specs.declared.work.Work.TheVariants as works
use Rattle.node_parts.specs.Starting.{page_in}
use Rattle.command_roots.specs.Results.{status_in}
use Rattle.world_moves.specs.BulkRuns.{RunsBulk, RunsPart}
use Rattle.world_moves.specs.FetchRuns.{RunsFetch}
use Rattle.world_moves.specs.QueryRuns.{RunsQuery}
use Rattle.world_moves.specs.ReindexRuns.{RunsReindex, RunsSlice}
use Rattle.world_moves.specs.SearchRuns.{RunsSearch}
use Rattle.world_moves.specs.Ties.{WorksFor}

-- what the kept work has counted, where it is that of a reindex
abbrev pub counts_kept : Work → Option Counts
counts_kept (works.Reindex root) = Some (root_counts root)
counts_kept _ = None

-- a page has no such numbers
pub none_of_page : (t : TaskId) (h : List Event) (o : Option Request) → is_some (option_and_then page_in o) ≡ true → status_in t h o ≡ None
none_of_page t h None is_page = absurd (cc)
none_of_page t h (Some (asks.Reindex ask)) is_page = absurd (cc)
none_of_page t h (Some _) is_page = refl

module _ (cluster : Cluster) (corpus : Corpus) (t : TaskId) (h : List Event) (new : Bool) (p : Progress) (requests : List Request) (awaited : List (Option ℕ)) where
  of_search : (r : Reading) (work : Work) → RunsSearch cluster corpus r p.asked requests awaited work → counts_kept work ≡ None
  of_search r (works.Reindex root) runs = absurd runs
  of_search r _ runs = refl

  of_query : (ask : ShardAsk) (work : Work) → RunsQuery cluster corpus p.version p.turns awaited ask work → counts_kept work ≡ None
  of_query ask (works.Reindex root) runs = absurd runs
  of_query ask _ runs = refl

  of_fetch : (ask : FetchAsk) (work : Work) → RunsFetch cluster corpus p.turns awaited ask work → counts_kept work ≡ None
  of_fetch ask (works.Reindex root) runs = absurd runs
  of_fetch ask _ runs = refl

  of_slice : (ask : SliceAsk) (work : Work) → RunsSlice cluster.shards t p.asked p.came requests awaited ask work → counts_kept work ≡ None
  of_slice ask (works.Reindex root) runs = absurd runs
  of_slice ask _ runs = refl

  of_bulk : (ask : BulkAsk) (work : Work) → RunsBulk cluster.shards p.asked requests awaited ask work → counts_kept work ≡ None
  of_bulk ask (works.Reindex root) runs = absurd runs
  of_bulk ask _ runs = refl

  of_part : (ask : BulkShardAsk) (work : Work) → RunsPart cluster p awaited ask work → counts_kept work ≡ None
  of_part ask (works.Reindex root) runs = absurd runs
  of_part ask _ runs = refl

  of_reindex : (ask : ReindexAsk) (work : Work) → RunsReindex cluster.shards t p.asked p.came requests awaited ask work → counts_kept work ≡ Some (reindex_counts ask p.asked)
  of_reindex ask (works.Reindex (Alone s)) (one, runs) = ap Some (runs.here.counts_are ∙ sym (ap (λ b. cond b (slice_counts p.asked) (sums_of (answers_in p.asked))) (eq-eqb ask.slices 1 one)))
  of_reindex ask (works.Reindex (Cut c)) (several, runs) =
      let other : (ask.slices == 1) ≡ false = grind (arith, nat_tests, several) in
      ap Some (runs.here.counts_are ∙ sym (ap (λ b. cond b (slice_counts p.asked) (sums_of (answers_in p.asked))) other))
  of_reindex ask _ runs = absurd runs

  -- The work of a task that shows no page tells what it has done.
  pub status_told : (o : Option Request) (work : Work) → p.asked ≡ asked_by t h → is_some (option_and_then page_in o) ≡ false → WorksFor cluster corpus t new p requests awaited o work → counts_kept work ≡ status_in t h o
  status_told None work asked quiet runs = absurd runs
  status_told (Some (asks.Search ask)) work asked quiet runs = of_search (search_reading t ask cluster.shards) work runs
  status_told (Some (asks.Query ask)) work asked quiet runs = of_query ask work runs
  status_told (Some (asks.Fetch ask)) work asked quiet runs = of_fetch ask work runs
  status_told (Some (asks.Scroll ask)) work asked quiet runs = absurd (cc)
  status_told (Some (asks.Reindex ask)) work asked quiet runs = of_reindex ask work runs ∙ ap (λ a. Some (reindex_counts ask a)) asked
  status_told (Some (asks.Slice ask)) work asked quiet runs = of_slice ask work runs
  status_told (Some (asks.Bulk ask)) work asked quiet runs = of_bulk ask work runs
  status_told (Some (asks.BulkShard ask)) work asked quiet runs = of_part ask work runs
