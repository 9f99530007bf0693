-- What a task has counted is below what a task of its kind can count.
use Rattle.std.proofs.Common.{◌≡◌, true, false, List, Option, Some, None, refl, ap, ◌∙◌}
use Rattle.task_ids.specs.declared.task_id.TaskId.{TaskId}
use Rattle.task_ids.specs.declared.cluster.Cluster.{Cluster}
use Rattle.task_ids.specs.declared.corpus.Corpus.{Corpus}
use Rattle.task_table.specs.Table.{Table}
use Rattle.task_events.specs.declared.event.Event.{Event}
use Rattle.task_events.specs.declared.request.Request.{Request}
use Rattle.task_events.specs.declared.request.Request.TheVariants as asks
use Rattle.task_events.specs.Counting.{are_below}
use Rattle.task_events.specs.Kinds.{kind_of}
use Rattle.task_events.specs.Requests.{request_of}
use Rattle.task_events.specs.Steps.{counted}
use Rattle.task_events.specs.Tasks.{is_live, is_new, no_counts}
use Rattle.script_lang.specs.declared.command.Script.{Script}
use Rattle.node_parts.specs.declared.running.Running.{Running}
use Rattle.task_work.specs.Works.{counts_of}
use Rattle.command_roots.specs.Roots.{scripted}
use Rattle.world_moves.specs.declared.flight.Sent.{Sent}
use Rattle.world_moves.specs.Facts.{facts_of, awaited_by, requested_by}
use Rattle.world_moves.specs.Good.{so_far}
use Rattle.world_moves.specs.Ties.{Ties, progress_from}
use Rattle.world_moves.proofs.AllKinds.{passed_laws}
use Rattle.world_moves.proofs.KindLaws.{KindLaws, has_counted}
use Rattle.world_moves.proofs.StepsAfter.{kept_running}

-- a task of any kind can have counted nothing
pub none_below : (q : Request) → are_below (kind_of q).limit no_counts ≡ true
none_below (asks.Search ask) = refl
none_below (asks.Query ask) = refl
none_below (asks.Fetch ask) = refl
none_below (asks.Reindex ask) = refl
none_below (asks.Slice ask) = refl
none_below (asks.Bulk ask) = refl
none_below (asks.BulkShard ask) = refl
none_below (asks.Scroll ask) = refl

module _ (cluster : Cluster) (corpus : Corpus) (script : Script) (h : List Event) (tasks : TaskId → Option Running) (tables : List Table) (flight : List Sent) (ties : Ties cluster corpus script h tasks tables flight)
    (t : TaskId) (live : is_live t h ≡ true) (passed : is_new t h ≡ false) (r : Running) (here : tasks t ≡ Some r) where
  -- it has counted what its work has
  pub counted_so : counted cluster corpus (scripted script) t h ≡ counts_of r.work
  counted_so = by_request (request_of (scripted script) t h) refl
    where
      laws : KindLaws cluster (so_far corpus script h) t (progress_from cluster (so_far corpus script) (facts_of (scripted script) t h)) (requested_by t h) (awaited_by t h) (request_of (scripted script) t h) r.work
      laws = passed_laws cluster (so_far corpus script) h t (facts_of (scripted script) t h) r passed (kept_running cluster corpus script h tasks tables flight ties t live r here)

      by_request : (o : Option Request) → request_of (scripted script) t h ≡ o → counted cluster corpus (scripted script) t h ≡ counts_of r.work
      by_request None e = rw e (let same = has_counted laws in rw e at same)
      by_request (Some q) e = rw e (let same = has_counted laws in rw e at same)

  pub counts_below : (q : Request) → request_of (scripted script) t h ≡ Some q → are_below (kind_of q).limit (counted cluster corpus (scripted script) t h) ≡ true
  counts_below q asked =
      let laws = passed_laws cluster (so_far corpus script) h t (facts_of (scripted script) t h) r passed (kept_running cluster corpus script h tasks tables flight ties t live r here) in
      ap (are_below (kind_of q).limit) counted_so ∙ (let low = laws.low in rw asked at low)
