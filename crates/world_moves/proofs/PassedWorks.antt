-- The work of a child fits the past when it passes: that of a page is over its context as it stands, and any other goes on as it is.
use Rattle.std.proofs.Common.{◌≡◌, ℕ, true, false, List, [], ◌∷◌, length, map, Option, Some, None, refl, ◌∙◌, cond, Bool}
use Rattle.std.specs.Prelude.{option_and_then}
use Rattle.std.proofs.lemmas.List.{length-map}
use Rattle.task_ids.specs.declared.cluster.Cluster.{Cluster}
use Rattle.task_ids.specs.declared.corpus.Corpus.{Corpus}
use Rattle.task_ids.specs.declared.task_id.TaskId.{TaskId}
use Rattle.task_ids.specs.declared.doc.Doc.{Doc}
use Rattle.task_events.specs.declared.context.Context.{Context}
use Rattle.task_events.specs.declared.event.Event.{Event}
use Rattle.task_events.specs.declared.event.Event.TheVariants.{Ask, Answered}
use Rattle.task_events.specs.declared.request.BulkShardAsk.{BulkShardAsk}
use Rattle.task_events.specs.declared.request.Request.{Request}
use Rattle.task_events.specs.declared.request.Request.TheVariants as asks
use Rattle.task_events.specs.declared.step.Asked.{Asked}
use Rattle.task_events.specs.Asks.{last_ask, answer_of}
use Rattle.task_events.specs.Kind.{Progress}
use Rattle.task_events.specs.Lawful.{Lawful}
use Rattle.task_events.specs.Same.{same_task}
use Rattle.task_events.specs.Steps.{asked_by, with_answer}
use Rattle.task_events.specs.Tasks.{is_new}
use Rattle.task_laws.proofs.Asks.{ask_facts}
use Rattle.task_work.specs.declared.work.Work.{Work}
use Rattle.task_work.specs.declared.work.Work.TheVariants as works
use Rattle.task_work.specs.Plans.{no_progress}
use Rattle.task_work.specs.Works.{IsWorkOn, IsNewWork}
use Rattle.node_parts.specs.Starting.{page_in}
use Rattle.world_moves.specs.BulkRuns.{RunsPart}
use Rattle.world_moves.specs.Facts.{awaited_by, requested_by}
use Rattle.world_moves.specs.Good.{IsWithin}
use Rattle.world_moves.specs.Ties.{WorksFor}
use Rattle.world_moves.proofs.AllKinds.{works_first, page_first}
use Rattle.world_moves.proofs.AsksCounted.{awaited_counted, requested_counted, counted}
use Rattle.world_moves.proofs.BulkLaws.{bulk_starts}
use Rattle.world_moves.proofs.PartLaws.{part_starts}
use Rattle.world_moves.proofs.ReindexLaws.{reindex_starts, slice_starts}

-- ---- a child that has not passed has asked for nothing

none_of : {X : Type 0} (xs : List X) → length xs ≡ 0 → xs ≡ []
none_of [] e = refl
none_of (x ∷ xs) e = absurd (cc)

module _ (cluster : Cluster) (t : TaskId) where
  pub asked_counted : (h : List Event) → Lawful cluster h → length (asked_by t h) ≡ last_ask t h
  asked_counted [] l = refl
  asked_counted (Ask p k n r ∷ h) l = counted t p h (asked_by t h) (record { ask = k; answer = None }) k l.0.next (asked_counted h l.1)
  asked_counted (Answered p k ∷ h) l = as_many (same_task t p) (asked_by t h) (asked_counted h l.1)
    where
      as_many : (b : Bool) (asked : List Asked) → length asked ≡ last_ask t h → length (cond b (map (with_answer k (answer_of p k h)) asked) asked) ≡ last_ask t h
      as_many true asked e = length-map asked (with_answer k (answer_of p k h)) ∙ e
      as_many false asked e = e
  asked_counted (_ ∷ h) l = asked_counted h l.1

  module _ (h : List Event) (lawful : Lawful cluster h) (first : is_new t h ≡ true) where
    none_yet : last_ask t h ≡ 0
    none_yet = (ask_facts cluster h lawful).new_asks t first

    pub asked_none : asked_by t h ≡ []
    asked_none = none_of (asked_by t h) (asked_counted h lawful ∙ none_yet)

    pub requested_none : requested_by t h ≡ []
    requested_none = none_of (requested_by t h) (requested_counted cluster t h lawful ∙ none_yet)

    pub awaited_none : awaited_by t h ≡ []
    awaited_none = none_of (awaited_by t h) (awaited_counted cluster t h lawful ∙ none_yet)

-- ---- its work

module _ (cluster : Cluster) (corpus : Corpus) (t : TaskId) where
  part_works : (p later : Progress) → later.turns ≡ p.turns → later.created ≡ p.created → later.updated ≡ p.updated → (awaited : List (Option ℕ)) (ask : BulkShardAsk) (w : Work) → RunsPart cluster p awaited ask w → RunsPart cluster later awaited ask w
  part_works p later turns created updated awaited ask (works.BulkShard w) x = record { here = rw (turns, created, updated) x.here; asks_nothing = x.asks_nothing; within = x.within }
  part_works p later turns created updated awaited ask _ x = absurd x

  -- work that shows no page
  pub still_works : (new : Bool) (p later : Progress) → later.asked ≡ p.asked → later.came ≡ p.came → later.created ≡ p.created → later.updated ≡ p.updated → later.version ≡ p.version → later.turns ≡ p.turns → (requests : List Request) (awaited : List (Option ℕ)) (o : Option Request) (w : Work) → option_and_then page_in o ≡ None
      → WorksFor cluster corpus t new p requests awaited o w → WorksFor cluster corpus t false later requests awaited o w
  still_works new p later asked came created updated version turns requests awaited None w none x = absurd x
  still_works new p later asked came created updated version turns requests awaited (Some (asks.Search ask)) w none x = rw asked x
  still_works new p later asked came created updated version turns requests awaited (Some (asks.Query ask)) w none x = rw (version, turns) x
  still_works new p later asked came created updated version turns requests awaited (Some (asks.Fetch ask)) w none x = rw turns x
  still_works new p later asked came created updated version turns requests awaited (Some (asks.Reindex ask)) w none x = rw (asked, came) x
  still_works new p later asked came created updated version turns requests awaited (Some (asks.Slice ask)) w none x = rw (asked, came) x
  still_works new p later asked came created updated version turns requests awaited (Some (asks.Bulk ask)) w none x = rw asked x
  still_works new p later asked came created updated version turns requests awaited (Some (asks.BulkShard ask)) w none x = part_works p later turns created updated awaited ask w x
  still_works new p later asked came created updated version turns requests awaited (Some (asks.Scroll ask)) w none x = absurd (cc)

  -- the work with which a child is put: a page is none yet
  pub put_works : (request : Request) (page : Option Context) (w : Work) → IsNewWork t request cluster.shards page w → IsWithin cluster corpus request
      → WorksFor cluster corpus t true (no_progress None) [] [] (Some request) w
  put_works (asks.Scroll ask) page w is within = page_first cluster corpus t ask w
  put_works (asks.Search ask) page w is within = works_first cluster corpus t true (asks.Search ask) None w is tt within
  put_works (asks.Query ask) page w is within = works_first cluster corpus t true (asks.Query ask) None w is tt within
  put_works (asks.Fetch ask) page w is within = works_first cluster corpus t true (asks.Fetch ask) None w is tt within
  put_works (asks.Reindex ask) page w is within = reindex_starts cluster t page ask w is
  put_works (asks.Slice ask) page w is within = slice_starts cluster t page ask w is
  put_works (asks.Bulk ask) page w is within = bulk_starts cluster corpus ask t page w is within
  put_works (asks.BulkShard ask) page w is within = part_starts cluster corpus ask t page None w is within
