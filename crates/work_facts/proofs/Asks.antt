-- What work asks for tells for what it is, as its letter is to.
use Rattle.std.specs.Prelude.{◌≡◌, ℕ, Bool, true, false, cond, nat_le, nat_lt, List, [], ◌∷◌, Option, Some, None, IfSome, map, option_map, slice_get, refl}
use Rattle.std.specs.List.{AllByRecursion}
use Rattle.std.proofs.Common.{◌∙◌, ap, subst}
use Rattle.reindex.specs.Roots.{Cutting}
use Rattle.reindex.specs.RootWork.{root_next}
use Rattle.reindex.specs.Slices.{Slicing, next_in}
use Rattle.reindex.specs.declared.phase.Phase.{Phase}
use Rattle.reindex.specs.declared.phase.Phase.TheVariants.{First, Reads, Holds, Writes, Rests, Over}
use Rattle.reindex.specs.declared.root.ReindexRoot.{ReindexRoot}
use Rattle.reindex.specs.declared.root.ReindexRoot.TheVariants.{Alone, Cut}
use Rattle.search_phase.specs.Searching.{Searching, next_step}
use Rattle.task_ids.proofs.Each.{all_here}
use Rattle.task_ids.specs.declared.doc.Doc.{Doc}
use Rattle.task_ids.specs.declared.task_id.TaskId.{TaskId}
use Rattle.task_events.specs.Answered.{as_answered}
use Rattle.task_events.specs.Searches.{requests_of}
use Rattle.task_events.specs.SliceTask.{later_page, page_from}
use Rattle.task_events.specs.Slicing.{slice_at, slice_if}
use Rattle.task_events.specs.declared.request.BulkShardAsk.{BulkShardAsk}
use Rattle.task_events.specs.declared.request.ReindexAsk.{ReindexAsk}
use Rattle.task_events.specs.declared.request.Request.{Request}
use Rattle.task_events.specs.declared.request.Request.TheVariants as asks
use Rattle.task_events.specs.declared.request.SliceAsk.{SliceAsk}
use Rattle.task_events.specs.declared.step.Do.TheVariants.{AskNext, Wait}
use Rattle.task_work.specs.Works.{next_of}
use Rattle.task_work.specs.declared.work.Work.{Work}
use Rattle.task_work.specs.declared.work.Work.TheVariants as works
use Rattle.node_link.specs.Lawful.{is_page}
use Rattle.node_link.specs.declared.body.Place.{Place}
use Rattle.reply_facts.specs.Letters.{IsRequestAt}
use Rattle.reply_facts.specs.Settings.{Setting, Sought, sought_at}
use Rattle.work_facts.specs.Works.{IsSearchFor, Keeps, KeepsReindex, KeepsSearch}
use Rattle.task_work.proofs.Steps.{asking_asks, search_asks, working_asks}
use Rattle.work_facts.proofs.Told.{IsOwn, asks_unknown, own_request, search_asks_for}

one_step : (r request : Request) → AskNext r ≡ AskNext request → r ≡ request
one_step r request e = cc

-- what a child is asked for at a place
pub record IsChildAt (run : Setting) (child : Place) (request : Request) : Type 0 where
  pub request_is : IsRequestAt run child (as_answered request)
  pub page_is : is_page (as_answered request) ≡ true → sought_at run child ≡ None

-- a query and a fetch are no pages
own_no_page : {A : Type 0} (s : Searching) (request : Request) → IsOwn s.reading request → is_page (as_answered request) ≡ true → A
own_no_page s (asks.Query ask) own e = absurd cc
own_no_page s (asks.Fetch ask) own e = absurd cc
own_no_page s (asks.Search ask) own e = absurd own
own_no_page s (asks.Scroll ask) own e = absurd own
own_no_page s (asks.Reindex ask) own e = absurd own
own_no_page s (asks.Slice ask) own e = absurd own
own_no_page s (asks.Bulk ask) own e = absurd own
own_no_page s (asks.BulkShard ask) own e = absurd own

module _ (run : Setting) (place child : Place) (same : sought_at run child ≡ sought_at run place) where
  -- ---- a search

  search_child : (s : Searching) (i : ℕ) (request : Request) → slice_get (requests_of s.reading s.asked) i ≡ Some request → (o : Option Sought) → sought_at run place ≡ o → IfSome o (λ q. IsSearchFor run q s) → IsChildAt run child request
  search_child s i request at None is h =
      record { request_is = asks_unknown run child s.reading request (own_request s i request at) (same ∙ is); page_is = λ e. own_no_page s request (own_request s i request at) e }
  search_child s i request at (Some q) is h =
      record { request_is = search_asks_for run q s h i child request at (same ∙ is); page_is = λ e. own_no_page s request (own_request s i request at) e }

  search_asks_so : (s : Searching) (request : Request) → KeepsSearch run place s → next_step s ≡ AskNext request → IsChildAt run child request
  search_asks_so s request h e = search_child s _ request (search_asks s request e) (sought_at run place) refl h.1

  -- ---- a slice

  module _ (s : Slicing) (none : sought_at run place ≡ None) (written : run.is_written s.dest ≡ true) (now : ℕ) where
    first_so : IsChildAt run child (asks.Search s.first)
    first_so = let unknown : sought_at run child ≡ None = same ∙ none in record { request_is = rw unknown tt; page_is = λ e. absurd cc }

    page_so : (until : ℕ) (o : Option TaskId) (request : Request) → page_from s.task o until now ≡ AskNext request → IsChildAt run child request
    page_so until None request e = absurd cc
    page_so until (Some context) request e = by (nat_le until now) e
      where
        by : (b : Bool) → cond b (AskNext (later_page s.task context)) (Wait (Some until)) ≡ AskNext request → IsChildAt run child request
        by true f = subst (IsChildAt run child) (one_step _ request f) (record { request_is = tt; page_is = λ e. same ∙ none })
        by false f = absurd cc

    slice_asks_so : (phase : Phase) (request : Request) → next_in s now phase ≡ AskNext request → IsChildAt run child request
    slice_asks_so First request e = subst (IsChildAt run child) (one_step _ request e) first_so
    slice_asks_so (Holds docs came) request e = subst (IsChildAt run child) (one_step _ request e) (record { request_is = written; page_is = λ e. absurd cc })
    slice_asks_so (Rests until) request e = by (nat_lt s.made 2000000) e
      where
        by : (b : Bool) → cond b (page_from s.task s.context until now) (Wait None) ≡ AskNext request → IsChildAt run child request
        by true f = page_so until s.context request f
        by false f = absurd cc
    slice_asks_so (Reads ask) request e = absurd cc
    slice_asks_so (Writes ask docs came) request e = absurd cc
    slice_asks_so Over request e = absurd cc

  -- ---- a reindex that is cut, and a bulk

  cut_asks_so : (c : Cutting) (request : Request) → sought_at run place ≡ None → run.is_written c.ask.dest ≡ true → option_map asks.Slice (slice_at c.ask c.made) ≡ Some request → IsChildAt run child request
  cut_asks_so c request none written e = by (nat_lt c.made c.ask.slices) refl e
    where
      some_slice : (ask : SliceAsk) → ask.reindex ≡ c.ask → Some (asks.Slice ask) ≡ Some request → IsChildAt run child request
      some_slice ask of e =
          let is : asks.Slice ask ≡ request = cc in
          subst (IsChildAt run child) is (record { request_is = (same ∙ none, ap (λ (a : ReindexAsk). run.is_written a.dest) of ∙ written); page_is = λ e. absurd cc })

      by : (b : Bool) (is : nat_lt c.made c.ask.slices ≡ b) → option_map asks.Slice (slice_if c.ask c.made b is) ≡ Some request → IsChildAt run child request
      by true is f = some_slice _ refl f
      by false is f = absurd cc

  bulk_asks_so : (parts : List BulkShardAsk) (i : ℕ) (request : Request) → AllByRecursion (λ (part : BulkShardAsk). run.is_written part.dest ≡ true) parts → slice_get (map asks.BulkShard parts) i ≡ Some request → IsChildAt run child request
  bulk_asks_so parts i request all at = all_here (IsChildAt run child) (map asks.BulkShard parts) i request (each parts all) at
    where
      each : (parts : List BulkShardAsk) → AllByRecursion (λ (part : BulkShardAsk). run.is_written part.dest ≡ true) parts → AllByRecursion (IsChildAt run child) (map asks.BulkShard parts)
      each [] all = tt
      each (part ∷ parts) all = (record { request_is = all.0; page_is = λ e. absurd cc }, each parts all.1)

  -- ---- any work

  pub asks_so : (work : Work) (rows : List Doc) (now : ℕ) (request : Request) → Keeps run place work → next_of work rows now ≡ AskNext request → IsChildAt run child request
  asks_so (works.Search s) rows now request h e = search_asks_so s request h e
  asks_so (works.Scroll s) rows now request h e = search_asks_so s request h e
  asks_so (works.Query q top) rows now request h e = absurd (working_asks _ _ request e)
  asks_so (works.Fetch f hits) rows now request h e = absurd (working_asks _ _ request e)
  asks_so (works.Reindex r) rows now request h e = root_asks_so r h.1 e
    where
      root_asks_so : (r : ReindexRoot) → KeepsReindex run r → root_next r now ≡ AskNext request → IsChildAt run child request
      root_asks_so (Alone s) written f = slice_asks_so s h.0 written now s.phase request f
      root_asks_so (Cut c) written f = cut_asks_so c request h.0 written (asking_asks _ _ _ request f)
  asks_so (works.Slice s) rows now request h e = slice_asks_so s h.0 h.1 now s.phase request e
  asks_so (works.Bulk b) rows now request h e = bulk_asks_so b.parts b.made request h (asking_asks _ _ _ request e)
  asks_so (works.BulkShard w) rows now request h e = absurd (working_asks _ _ request e)
