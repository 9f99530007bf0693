-- What a task tells as it ends is of no version below those from which on all reads are: the top of a query, and what a search has counted.
use Rattle.std.proofs.Common.{◌≡◌, ◌≤◌, ℕ, true, false, List, Option, Some, None, sym, ap, subst, ◌∙◌}
use Rattle.std.specs.Prelude.{slice_get}
use Rattle.std.specs.List.{range_with_len}
use Rattle.task_ids.specs.declared.task_id.TaskId.{TaskId}
use Rattle.task_ids.specs.declared.cluster.Cluster.{Cluster}
use Rattle.task_ids.specs.declared.corpus.Corpus.{Corpus}
use Rattle.task_ids.specs.declared.doc.Doc.{Doc}
use Rattle.task_table.specs.Table.{Table}
use Rattle.task_events.specs.declared.event.Event.{Event}
use Rattle.task_events.specs.declared.reply.Reply.{Reply}
use Rattle.task_events.specs.declared.reply.Reply.TheVariants.{Search, Top}
use Rattle.task_events.specs.declared.reply.SearchReply.{SearchReply}
use Rattle.task_events.specs.declared.reply.ShardCount.{ShardCount}
use Rattle.task_events.specs.declared.reply.ShardTop.{ShardTop}
use Rattle.task_events.specs.declared.request.Request.TheVariants as asks
use Rattle.task_events.specs.declared.request.SearchAsk.{SearchAsk}
use Rattle.task_events.specs.declared.request.ShardAsk.{ShardAsk}
use Rattle.task_events.specs.declared.step.Do.TheVariants.{Finish}
use Rattle.task_events.specs.Contexts.{page_of}
use Rattle.task_events.specs.Kind.{Progress}
use Rattle.task_events.specs.Readings.{Reading, search_reading}
use Rattle.task_events.specs.Requests.{request_of}
use Rattle.task_events.specs.Searches.{counts_in}
use Rattle.task_events.specs.Steps.{asked_by, counted}
use Rattle.task_events.specs.Tasks.{is_live, is_new}
use Rattle.search_phase.specs.Searching.{Searching, next_step}
use Rattle.task_work.specs.declared.work.Work.{Work}
use Rattle.task_work.specs.declared.work.Work.TheVariants as works
use Rattle.task_work.specs.Works.{next_of}
use Rattle.node_parts.specs.declared.running.Running.{Running}
use Rattle.node_parts.specs.Running.{DoesNext}
use Rattle.script_lang.specs.declared.command.Script.{Script}
use Rattle.command_roots.specs.Roots.{scripted}
use Rattle.world_moves.specs.declared.flight.Sent.{Sent}
use Rattle.world_moves.specs.declared.state.State.{State}
use Rattle.world_moves.specs.Facts.{facts_of, awaited_by, requested_by}
use Rattle.world_moves.specs.Good.{own_writes, so_far}
use Rattle.world_moves.specs.Plain.{EndsPlainly}
use Rattle.world_moves.specs.Reads.{Oldest, ReadsFrom}
use Rattle.world_moves.specs.SearchRuns.{RunsSearch, SearchesFor}
use Rattle.world_moves.specs.Ties.{Ties, IsTied, WorksFor, RunsAt, progress_from, task_at}
use Rattle.world_moves.proofs.KindLaws.{is_on}
use Rattle.world_moves.proofs.AllKinds.{passed_laws}
use Rattle.world_moves.proofs.PagesEnd.{found_keeps}
use Rattle.world_moves.proofs.PlainEnds.{replies_plainly}
use Rattle.world_moves.proofs.PlanReads.{kept_from}
use Rattle.world_moves.proofs.ReadsAbove.{answers_from, newest_from, query_above}
use Rattle.world_moves.proofs.SearchLaws.{search_ends}
use Rattle.world_moves.proofs.StepsAfter.{kept_running}

module _ (cluster : Cluster) (corpus : Corpus) (script : Script) (h : List Event) (tasks : TaskId → Option Running) (tables : List Table) (flight : List Sent) (ties : Ties cluster corpus script h tasks tables flight)
    (oldest : Oldest) (reads : ReadsFrom oldest cluster corpus script h)
    (t : TaskId) (now : ℕ) (r : Running) (reply : Reply) (live : is_live t h ≡ true) (passed : is_new t h ≡ false) (here : tasks t ≡ Some r) (next : DoesNext (Some r) now (Finish reply)) where
  abbrev look : List Event → Corpus
  look = so_far corpus script

  abbrev own : List Doc
  own = own_writes cluster (look h) (request_of (scripted script) t h)

  abbrev progress : Progress
  progress = progress_from cluster look (facts_of (scripted script) t h)

  runs : RunsAt cluster look h t (facts_of (scripted script) t h) r
  runs = kept_running cluster corpus script h tasks tables flight ties t live r here

  step : next_of r.work own now ≡ Finish reply
  step = next own (is_on (passed_laws cluster look h t (facts_of (scripted script) t h) r passed runs))

  -- the top of a query
  pub top_from : (ask : ShardAsk) (top : ShardTop) → request_of (scripted script) t h ≡ Some (asks.Query ask) → reply ≡ Top top → oldest ask.index ask.shard ≤ top.version
  top_from ask top asked is =
      let plain = replies_plainly cluster corpus script h tasks tables flight ties t now r reply live passed here step in
      let in_time = subst (λ o. EndsPlainly cluster look t (page_of (scripted script) t h) None (counted cluster corpus (scripted script) t h) o h (Top top)) asked
      (subst (λ end. EndsPlainly cluster look t (page_of (scripted script) t h) None (counted cluster corpus (scripted script) t h) (request_of (scripted script) t h) h end) is plain) in
      query_above cluster corpus script h tasks tables flight ties oldest reads t live ask asked top.version (sym in_time)

  -- ---- what a search has counted

  module _ (ask : SearchAsk) where
    abbrev reading : Reading
    reading = search_reading t ask cluster.shards

    search_from : (s : Searching) (found : SearchReply) → SearchesFor cluster (look h) reading (asked_by t h) (requested_by t h) (awaited_by t h) s → next_step s ≡ Finish (Search found)
        → (place : ℕ) (n : ShardCount) → slice_get found.shards place ≡ Some n → oldest ask.index n.shard ≤ n.version
    search_from s found x e place n at =
        let whole = subst (SearchesFor cluster (look h) reading (asked_by t h) (requested_by t h) (awaited_by t h)) x.state_is x in
        let ends = (search_ends _ _ _ (Search found) e).1 in
        let counts : found.shards ≡ counts_in reading (asked_by t h) = found_keeps s.reading s.asked found (sym ends) ∙ ap (λ (z : Searching). counts_in z.reading z.asked) x.state_is in
        kept_from oldest reading (asked_by t h) (newest_from oldest reading (range_with_len 0 cluster.shards)) (answers_from cluster corpus script h tasks tables flight ties oldest reads t live reading whole)
        place n (ap (λ shards. slice_get shards place) (sym counts) ∙ at)

    work_from : (w : Work) (found : SearchReply) (looked : List Doc) → RunsSearch cluster (look h) reading (asked_by t h) (requested_by t h) (awaited_by t h) w → next_of w looked now ≡ Finish (Search found)
        → (place : ℕ) (n : ShardCount) → slice_get found.shards place ≡ Some n → oldest ask.index n.shard ≤ n.version
    work_from (works.Search s) found looked x e = search_from s found x e
    work_from _ found looked x e = absurd x

    pub counts_from : (found : SearchReply) → request_of (scripted script) t h ≡ Some (asks.Search ask) → reply ≡ Search found → (place : ℕ) (n : ShardCount) → slice_get found.shards place ≡ Some n → oldest ask.index n.shard ≤ n.version
    counts_from found asked is =
        work_from r.work found own (subst (λ o. WorksFor cluster (look h) t (is_new t h) progress (requested_by t h) (awaited_by t h) o r.work) asked runs.works) (step ∙ ap Finish is)

-- so it is of a task that ends next in a state that is tied
module _ (s : State) (tied : IsTied s) (t : TaskId) (r : Running) (reply : Reply) (live : is_live t s.history ≡ true) (passed : is_new t s.history ≡ false) (here : task_at s.tasks t ≡ Some r) (next : DoesNext (Some r) s.clock (Finish reply)) where
  pub top_above : (ask : ShardAsk) (top : ShardTop) → request_of (scripted s.script.now) t s.history ≡ Some (asks.Query ask) → reply ≡ Top top → tied.oldest ask.index ask.shard ≤ top.version
  top_above = top_from s.cluster s.corpus.now s.script.now s.history (task_at s.tasks) s.tables.items s.flight tied.ties tied.oldest tied.reads t s.clock r reply live passed here next

  pub opened_above : (ask : SearchAsk) (found : SearchReply) → request_of (scripted s.script.now) t s.history ≡ Some (asks.Search ask) → reply ≡ Search found
      → (place : ℕ) (n : ShardCount) → slice_get found.shards place ≡ Some n → tied.oldest ask.index n.shard ≤ n.version
  opened_above = counts_from s.cluster s.corpus.now s.script.now s.history (task_at s.tasks) s.tables.items s.flight tied.ties tied.oldest tied.reads t s.clock r reply live passed here next
