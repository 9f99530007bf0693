-- New work is for what its request asks, and keeps what is known of the run.
use Rattle.std.specs.Prelude.{◌≡◌, ℕ, List, [], ◌∷◌, true, Option, Some, None, IfSome, option_map, refl}
use Rattle.std.specs.List.{AllByRecursion, flat_map, range_with_len}
use Rattle.std.proofs.Common.{sym, ◌∙◌, ap, subst}
use Rattle.reindex.specs.RootWork.{IsNewRoot}
use Rattle.reindex.specs.declared.root.ReindexRoot.{ReindexRoot}
use Rattle.reindex.specs.declared.root.ReindexRoot.TheVariants.{Alone, Cut}
use Rattle.search_phase.specs.Searching.{new_search}
use Rattle.task_ids.proofs.Each.{all_joined}
use Rattle.task_ids.specs.declared.doc.Doc.{Doc}
use Rattle.task_ids.specs.declared.task_id.TaskId.{TaskId}
use Rattle.task_events.specs.Answered.{as_answered}
use Rattle.task_events.specs.BulkTask.{docs_in, part_with}
use Rattle.task_events.specs.Readings.{page_reading, search_reading}
use Rattle.task_events.specs.declared.context.Context.{Context}
use Rattle.task_events.specs.declared.request.BulkAsk.{BulkAsk}
use Rattle.task_events.specs.declared.request.BulkShardAsk.{BulkShardAsk}
use Rattle.task_events.specs.declared.request.ReindexAsk.{ReindexAsk}
use Rattle.task_events.specs.declared.request.Request.{Request}
use Rattle.task_events.specs.declared.request.Request.TheVariants as asks
use Rattle.task_events.specs.declared.request.ScrollAsk.{ScrollAsk}
use Rattle.task_events.specs.declared.request.SearchAsk.{SearchAsk}
use Rattle.task_work.specs.Awaiting.{IsSoundSearch}
use Rattle.task_work.specs.Works.{IsNewWork}
use Rattle.task_work.specs.declared.work.Work.{Work}
use Rattle.task_work.specs.declared.work.Work.TheVariants as works
use Rattle.node_link.specs.declared.body.Place.{Place}
use Rattle.node_link.specs.declared.page.Page.{Page}
use Rattle.reply_facts.specs.Letters.{IsPageAt, IsPageFor, IsRequestAt, context_of_page, context_of_start}
use Rattle.reply_facts.specs.Settings.{Setting, Sought, lines_in, sought_at, sought_by}
use Rattle.work_facts.specs.Works.{IsSearchFor, IsWorkOfRun, KeepsReindex}
use Rattle.work_facts.proofs.Looks.{new_query_keeps}
use Rattle.work_facts.proofs.Searches.{new_page_plain, new_search_plain}

one_work : (v w : Work) → Some v ≡ Some w → v ≡ w
one_work v w e = cc

one_context : (c d : Context) → Some c ≡ Some d → c ≡ d
one_context c d e = cc

some_refl : {X Y : Type 0} (o : Option X) (y : Y) → IfSome o (λ x. y ≡ y)
some_refl None y = tt
some_refl (Some x) y = refl

-- each part of a bulk goes to its index
parts_to : (P : List ℕ → Type 0) (ask : BulkAsk) (shards : List ℕ) (count : ℕ) → P ask.dest → AllByRecursion (λ (part : BulkShardAsk). P part.dest) (flat_map (λ shard. part_with ask.dest shard (docs_in ask.docs count shard)) shards)
parts_to P ask [] count p = tt
parts_to P ask (shard ∷ shards) count p = all_joined (λ (part : BulkShardAsk). P part.dest) (part_with ask.dest shard (docs_in ask.docs count shard)) _ (one (docs_in ask.docs count shard)) (parts_to P ask shards count p)
  where
    one : (docs : List Doc) → AllByRecursion (λ (part : BulkShardAsk). P part.dest) (part_with ask.dest shard docs)
    one [] = tt
    one (doc ∷ docs) = (p, tt)

-- the context over which a task is worked, and the page that it shows: those of a search that is known are told with its start
pub record IsOver (run : Setting) (place : Place) (request : Request) (page : Option Page) (context : Option Context) : Type 0 where
  pub shown : IfSome page (IsPageAt run place)
  pub told : IfSome (sought_at run place) (λ q. context ≡ context_of_start request page)

module _ (run : Setting) (place : Place) (id : TaskId) where
  -- ---- a search

  search_of : (ask : SearchAsk) (o : Option Sought) → IfSome o (λ q. sought_by ask ≡ q) → IfSome o (λ q. IsSearchFor run q (new_search (search_reading id ask run.shards)))
  search_of ask None is = tt
  search_of ask (Some q) is = record { looks = is; plain = λ steady. new_search_plain (lines_in run q.index) id ask run.shards }

  -- ---- a page

  module _ (ask : ScrollAsk) (c : Context) where
    abbrev Shows : Option Page → Type 0
    Shows page = Some c ≡ context_of_start (asks.Scroll ask) page

    page_of : (page : Option Page) (q : Sought) → Shows page → IfSome page (λ p. IsPageFor run q p) → IsSearchFor run q (new_search (page_reading c))
    page_of None q is facts = absurd cc
    page_of (Some p) q is facts = subst (λ d. IsSearchFor run q (new_search (page_reading d))) (sym (one_context c (context_of_page ask p) is))
        (record { looks = facts.looks; plain = λ steady. new_page_plain (lines_in run q.index) (context_of_page ask p) (facts.counts steady) })

    page_for : (page : Option Page) (o : Option Sought) → IfSome o (λ q. Shows page) → IfSome page (λ p. IfSome o (λ q. IsPageFor run q p)) → IfSome o (λ q. IsSearchFor run q (new_search (page_reading c)))
    page_for page None is facts = tt
    page_for page (Some q) is facts = page_of page q is facts

    reads_of : (page : Option Page) → Shows page → Some (page_reading c) ≡ option_map (λ p. page_reading (context_of_page ask p)) page
    reads_of None is = absurd cc
    reads_of (Some p) is = ap (λ d. Some (page_reading d)) (one_context c (context_of_page ask p) is)

    reads_for : (page : Option Page) (o : Option Sought) → IfSome o (λ q. Shows page) → IfSome o (λ q. Some (page_reading c) ≡ option_map (λ p. page_reading (context_of_page ask p)) page)
    reads_for page None is = tt
    reads_for page (Some q) is = reads_of page is

  -- ---- a reindex

  new_reindex_keeps : (ask : ReindexAsk) (shards : ℕ) (r : ReindexRoot) → run.is_written ask.dest ≡ true → IsNewRoot id ask shards r → KeepsReindex run r
  new_reindex_keeps ask shards (Alone s) written new = ap run.is_written new.1.dest_is ∙ written
  new_reindex_keeps ask shards (Cut c) written new = ap (λ (a : ReindexAsk). run.is_written a.dest) new.1.ask_is ∙ written

  -- ---- any request

  pub new_work_keeps : (request : Request) (page : Option Page) (context : Option Context) (work : Work) → IsRequestAt run place (as_answered request) → IsOver run place request page context → IsNewWork id request run.shards context work
      → IsSoundSearch work → IsWorkOfRun run place id (as_answered request) page work
  new_work_keeps (asks.Search ask) page context work asked over new sound = subst (IsWorkOfRun run place id (as_answered (asks.Search ask)) page) (one_work _ work new)
      (record { reads = some_refl (sought_at run place) _; looks = refl; keeps = (subst IsSoundSearch (sym (one_work _ work new)) sound, search_of ask (sought_at run place) asked) })
  new_work_keeps (asks.Scroll ask) page (Some c) work asked over new sound = subst (IsWorkOfRun run place id (as_answered (asks.Scroll ask)) page) (one_work _ work new)
      (record {
        reads = reads_for ask c page (sought_at run place) over.told;
        looks = refl;
        keeps = (subst IsSoundSearch (sym (one_work _ work new)) sound, page_for ask c page (sought_at run place) over.told over.shown);
      })
  new_work_keeps (asks.Scroll ask) page None work asked over new sound = absurd cc
  new_work_keeps (asks.Query ask) page context work asked over new sound = subst (IsWorkOfRun run place id (as_answered (asks.Query ask)) page) (one_work _ work new)
      (record { reads = some_refl (sought_at run place) _; looks = refl; keeps = new_query_keeps run place ask asked })
  new_work_keeps (asks.Fetch ask) page context work asked over new sound = subst (IsWorkOfRun run place id (as_answered (asks.Fetch ask)) page) (one_work _ work new)
      (record { reads = some_refl (sought_at run place) _; looks = refl; keeps = tt })
  new_work_keeps (asks.Bulk ask) page context work asked over new sound = subst (IsWorkOfRun run place id (as_answered (asks.Bulk ask)) page) (one_work _ work new)
      (record { reads = some_refl (sought_at run place) _; looks = refl; keeps = parts_to (λ dest. run.is_written dest ≡ true) ask (range_with_len 0 run.shards) run.shards asked })
  new_work_keeps (asks.BulkShard ask) page context work asked over new sound = subst (IsWorkOfRun run place id (as_answered (asks.BulkShard ask)) page) (one_work _ work new)
      (record { reads = some_refl (sought_at run place) _; looks = refl; keeps = asked })
  new_work_keeps (asks.Reindex ask) page context (works.Reindex r) asked over new sound =
      record { reads = some_refl (sought_at run place) _; looks = refl; keeps = (asked.0, new_reindex_keeps ask run.shards r asked.1 new) }
  new_work_keeps (asks.Reindex ask) page context _ asked over new sound = absurd new
  new_work_keeps (asks.Slice ask) page context (works.Slice s) asked over new sound =
      record { reads = some_refl (sought_at run place) _; looks = refl; keeps = (asked.0, ap run.is_written new.dest_is ∙ asked.1) }
  new_work_keeps (asks.Slice ask) page context _ asked over new sound = absurd new
