-- Each kind of task shows what KindLaws asks of it.
use Rattle.std.proofs.Common.{◌≡◌, ℕ, Bool, true, false, List, [], Option, Some, None, refl, subst}
use Rattle.std.specs.Prelude.{⊤}
use Rattle.task_ids.specs.declared.task_id.TaskId.{TaskId}
use Rattle.task_ids.specs.declared.cluster.Cluster.{Cluster}
use Rattle.task_ids.specs.declared.corpus.Corpus.{Corpus}
use Rattle.task_ids.specs.declared.doc.Doc.{Doc}
use Rattle.task_events.specs.declared.context.Context.{Context}
use Rattle.task_events.specs.declared.event.Event.{Event}
use Rattle.task_events.specs.declared.request.Request.{Request}
use Rattle.task_events.specs.declared.request.Request.TheVariants as asks
use Rattle.task_events.specs.declared.request.ScrollAsk.{ScrollAsk}
use Rattle.task_events.specs.declared.reply.Counts.{Counts}
use Rattle.task_events.specs.declared.reply.Reply.TheVariants.{Cancelled, Rejected}
use Rattle.task_events.specs.Counts.{AreCounts}
use Rattle.task_events.specs.Kind.{Progress}
use Rattle.task_events.specs.Counting.{are_below}
use Rattle.task_events.specs.Kinds.{kind_of}
use Rattle.task_events.specs.Readings.{search_reading}
use Rattle.node_parts.specs.declared.running.Running.{Running}
use Rattle.task_work.specs.declared.work.Work.{Work}
use Rattle.task_work.specs.declared.work.Work.TheVariants as works
use Rattle.task_work.specs.Plans.{no_progress}
use Rattle.task_work.specs.Works.{IsWorkOn, IsNewWork}
use Rattle.world_moves.specs.Facts.{Facts}
use Rattle.world_moves.specs.Good.{IsGoodReply, IsWithin, IsContextWithin, Grows}
use Rattle.world_moves.specs.SearchRuns.{RunsSearch, RunsPage}
use Rattle.world_moves.specs.Ties.{WorksFor, RunsAt, progress_from}
use Rattle.world_moves.proofs.BulkLaws.{bulk_starts, bulk_rejected, bulk_cancelled, bulk_laws}
use Rattle.world_moves.proofs.FetchLaws.{fetch_starts, fetch_rejected, fetch_cancelled, fetch_grows, fetch_laws}
use Rattle.world_moves.proofs.KindLaws.{KindLaws}
use Rattle.world_moves.proofs.PageLaws.{page_starts, page_rejected, page_cancelled, page_grows, page_laws}
use Rattle.world_moves.proofs.PartLaws.{part_starts, part_rejected, part_cancelled, part_laws}
use Rattle.world_moves.proofs.QueryLaws.{query_starts, query_rejected, query_cancelled, query_grows, query_laws}
use Rattle.world_moves.proofs.ReindexLaws.{slice_starts, slice_rejected, slice_cancelled, slice_laws, reindex_starts, reindex_rejected, reindex_cancelled, reindex_laws}
use Rattle.world_moves.proofs.SearchLaws.{search_starts, search_rejected, search_cancelled, search_grows, search_laws}

-- the context of which a request asks for a page has its id, and what it keeps can be kept and was written
abbrev pub IsPageOf : Cluster → Corpus → Option Context → Request → Type 0
IsPageOf cluster corpus None request = ⊤
IsPageOf cluster corpus (Some c) (asks.Scroll ask) = (c.id ≡ ask.id) × AreCounts c.shards × IsContextWithin cluster corpus c
IsPageOf cluster corpus (Some c) _ = ⊤

one_of : (v w : Work) → Some v ≡ Some w → v ≡ w
one_of v w is = cc

module _ (cluster : Cluster) (corpus : Corpus) where
  -- work that has just started is as far as the past says
  pub works_first : (t : TaskId) (new : Bool) (request : Request) (page : Option Context) (w : Work) → IsNewWork t request cluster.shards page w → IsPageOf cluster corpus page request → IsWithin cluster corpus request
      → WorksFor cluster corpus t new (no_progress page) [] [] (Some request) w
  works_first t new (asks.Search ask) page w is sound within = subst (RunsSearch cluster corpus (search_reading t ask cluster.shards) [] [] []) (one_of _ w is) (search_starts cluster corpus ask t within)
  works_first t new (asks.Query ask) page w is sound within = query_starts cluster corpus ask w (one_of _ w is) within
  works_first t new (asks.Fetch ask) page w is sound within = fetch_starts cluster corpus ask w (one_of _ w is) within
  works_first t new (asks.Scroll ask) (Some c) w is sound within = subst (RunsPage cluster corpus ask.id new (Some c) [] [] []) (one_of _ w is) (page_starts cluster corpus ask new c sound.0 sound.1 sound.2)
  works_first t new (asks.Scroll ask) None w is sound within = absurd (cc)
  works_first t new (asks.Reindex ask) page w is sound within = reindex_starts cluster t page ask w is
  works_first t new (asks.Slice ask) page w is sound within = slice_starts cluster t page ask w is
  works_first t new (asks.Bulk ask) page w is sound within = bulk_starts cluster corpus ask t page w is within
  works_first t new (asks.BulkShard ask) page w is sound within = part_starts cluster corpus ask t page page w is within

  -- a page whose task has not passed is none yet
  pub page_first : (t : TaskId) (ask : ScrollAsk) (w : Work) → WorksFor cluster corpus t true (no_progress None) [] [] (Some (asks.Scroll ask)) w
  page_first t ask w = (refl, refl, refl, refl)

  -- each request can be rejected, and cancelled with what a task of it can have counted
  pub good_rejection : (n : ℕ) (request : Request) → IsGoodReply cluster corpus request (Rejected n)
  good_rejection n (asks.Search ask) = search_rejected cluster corpus ask n
  good_rejection n (asks.Query ask) = query_rejected cluster corpus ask n
  good_rejection n (asks.Fetch ask) = fetch_rejected cluster corpus ask n
  good_rejection n (asks.Scroll ask) = page_rejected cluster corpus ask n
  good_rejection n (asks.Reindex ask) = reindex_rejected cluster corpus ask n
  good_rejection n (asks.Slice ask) = slice_rejected cluster corpus ask n
  good_rejection n (asks.Bulk ask) = bulk_rejected cluster corpus ask n
  good_rejection n (asks.BulkShard ask) = part_rejected cluster corpus ask n

  pub good_cancelled : (t : TaskId) (c : ℕ) (counts : Counts) (request : Request) → are_below (kind_of request).limit counts ≡ true → IsGoodReply cluster corpus request (Cancelled t c counts)
  good_cancelled t c counts (asks.Search ask) low = search_cancelled cluster corpus ask t c counts low
  good_cancelled t c counts (asks.Query ask) low = query_cancelled cluster corpus ask t c counts low
  good_cancelled t c counts (asks.Fetch ask) low = fetch_cancelled cluster corpus ask t c counts low
  good_cancelled t c counts (asks.Scroll ask) low = page_cancelled cluster corpus ask t c counts low
  good_cancelled t c counts (asks.Reindex ask) low = reindex_cancelled cluster corpus ask t c counts low
  good_cancelled t c counts (asks.Slice ask) low = slice_cancelled cluster corpus ask t c counts low
  good_cancelled t c counts (asks.Bulk ask) low = bulk_cancelled cluster corpus ask t c counts low
  good_cancelled t c counts (asks.BulkShard ask) low = part_cancelled cluster corpus ask t c counts low

-- it stays as the past says where more is written
pub works_grow : (cluster : Cluster) (corpus later : Corpus) → Grows cluster corpus later → (t : TaskId) (new : Bool) (p : Progress) (requests : List Request) (awaited : List (Option ℕ)) (o : Option Request) (w : Work)
    → WorksFor cluster corpus t new p requests awaited o w → WorksFor cluster later t new p requests awaited o w
works_grow cluster corpus later grows t new p requests awaited (Some (asks.Search ask)) (works.Search s) x = search_grows cluster corpus later grows (search_reading t ask cluster.shards) p.asked requests awaited s x
works_grow cluster corpus later grows t new p requests awaited (Some (asks.Query ask)) w x = query_grows cluster corpus later grows t p awaited ask w x
works_grow cluster corpus later grows t new p requests awaited (Some (asks.Fetch ask)) w x = fetch_grows cluster corpus later grows t p awaited ask w x
works_grow cluster corpus later grows t new p requests awaited (Some (asks.Scroll ask)) w x = page_grows cluster corpus later grows ask.id new p.asked requests awaited p.page w x
works_grow cluster corpus later grows t new p requests awaited (Some (asks.Reindex ask)) w x = x
works_grow cluster corpus later grows t new p requests awaited (Some (asks.Slice ask)) w x = x
works_grow cluster corpus later grows t new p requests awaited (Some (asks.Bulk ask)) w x = x
works_grow cluster corpus later grows t new p requests awaited (Some (asks.BulkShard ask)) w x = x
works_grow cluster corpus later grows t new p requests awaited (Some (asks.Search ask)) _ x = absurd x
works_grow cluster corpus later grows t new p requests awaited None w x = absurd x

module _ (cluster : Cluster) (corpus : Corpus) (t : TaskId) (p : Progress) (requests : List Request) (awaited : List (Option ℕ)) where
  pub kind_laws : (o : Option Request) (w : Work) → WorksFor cluster corpus t false p requests awaited o w → KindLaws cluster corpus t p requests awaited o w
  kind_laws None w x = absurd x
  kind_laws (Some (asks.Search ask)) w x = search_laws cluster corpus t p requests awaited ask w x
  kind_laws (Some (asks.Query ask)) w x = query_laws cluster corpus t p requests awaited ask w x
  kind_laws (Some (asks.Fetch ask)) w x = fetch_laws cluster corpus t p requests awaited ask w x
  kind_laws (Some (asks.Scroll ask)) w x = page_laws cluster corpus t p requests awaited ask w x
  kind_laws (Some (asks.Reindex ask)) w x = reindex_laws cluster corpus t p requests awaited ask w x
  kind_laws (Some (asks.Slice ask)) w x = slice_laws cluster corpus t p requests awaited ask w x
  kind_laws (Some (asks.Bulk ask)) w x = bulk_laws cluster corpus t p requests awaited ask w x
  kind_laws (Some (asks.BulkShard ask)) w x = part_laws cluster corpus t p requests awaited ask w x

-- a kept task that has passed shows it
pub passed_laws : (cluster : Cluster) (look : List Event → Corpus) (h : List Event) (t : TaskId) (facts : Facts) (r : Running) → facts.new ≡ false → RunsAt cluster look h t facts r
    → KindLaws cluster (look h) t (progress_from cluster look facts) facts.requests facts.awaited facts.request r.work
passed_laws cluster look h t facts r passed runs =
    kind_laws cluster (look h) t (progress_from cluster look facts) facts.requests facts.awaited facts.request r.work
    (subst (λ new. WorksFor cluster (look h) t new (progress_from cluster look facts) facts.requests facts.awaited facts.request r.work) passed runs.works)
