-- What the end of a task makes of contexts, by its work.
use Rattle.std.proofs.Common.{◌≡◌, ◌≢◌, ◌⊎◌, ℕ, Bool, true, false, cond, List, length, Option, Some, None, refl, sym, ap, subst, ◌∙◌, inl, inr, arith}
use Rattle.std.specs.Prelude.{◌&&◌, ◌==◌, IsSome, option_map, option_and_then}
use Rattle.task_ids.specs.declared.cluster.Cluster.{Cluster}
use Rattle.task_ids.specs.declared.corpus.Corpus.{Corpus}
use Rattle.task_ids.specs.declared.task_id.TaskId.{TaskId}
use Rattle.task_ids.specs.declared.doc.Doc.{Doc}
use Rattle.task_events.specs.declared.context.Context.{Context}
use Rattle.task_events.specs.declared.reply.Counts.{Counts}
use Rattle.task_events.specs.declared.reply.Reply.{Reply}
use Rattle.task_events.specs.declared.reply.Reply.TheVariants.{Search, Top, Hits, AllFailed, Wrote, Cancelled, Rejected}
use Rattle.task_events.specs.declared.reply.SearchReply.{SearchReply}
use Rattle.task_events.specs.declared.request.Request.{Request}
use Rattle.task_events.specs.declared.request.Request.TheVariants as asks
use Rattle.task_events.specs.declared.request.ScrollAsk.{ScrollAsk}
use Rattle.task_events.specs.declared.request.SearchAsk.{SearchAsk}
use Rattle.task_events.specs.declared.step.Asked.{Asked}
use Rattle.task_events.specs.declared.step.Do.TheVariants.{Finish}
use Rattle.task_events.specs.Contexts.{opens_context, opened, cursor_in, after_end}
use Rattle.task_events.specs.Counts.{AreCounts}
use Rattle.task_events.specs.Kind.{Progress}
use Rattle.task_events.specs.Readings.{Reading, search_reading}
use Rattle.task_events.specs.Same.{same_task}
use Rattle.task_events.specs.Searches.{search_reply, failed_in, counts_in}
use Rattle.task_laws.proofs.Same.{same_task_tells}
use Rattle.search_phase.specs.Searching.{Searching, next_step}
use Rattle.search_phase.proofs.CountsFit.{counts_fit}
use Rattle.task_work.specs.declared.work.Work.{Work}
use Rattle.task_work.specs.declared.work.Work.TheVariants as works
use Rattle.task_work.specs.Works.{next_of}
use Rattle.node_parts.specs.Opening.{FitsContext, opened_by}
use Rattle.node_parts.specs.Starting.{page_in}
use Rattle.world_moves.specs.Paging.{after_opening, after_return}
use Rattle.world_moves.specs.Good.{IsContextWithin}
use Rattle.world_moves.specs.SearchRuns.{SearchesFor, RunsPage}
use Rattle.world_moves.specs.Ties.{WorksFor}
use Rattle.world_moves.proofs.ContextsRead.{kept_within}
use Rattle.world_moves.proofs.Numbered.{is_searching}
use Rattle.world_moves.proofs.SearchLaws.{search_ends}

-- ---- a search opens its context

opens_alike : (b : Bool) (now : ℕ) (t : TaskId) (ask : SearchAsk) (found : SearchReply) (q : TaskId) (c : Option Context) → after_opening (cond b (Some (opened t ask found now)) None) t q c ≡ cond (same_task t q && b) (Some (opened q ask found now)) c
opens_alike false now t ask found q c = of_test (same_task t q)
  where
    of_test : (d : Bool) → c ≡ cond (d && false) (Some (opened q ask found now)) c
    of_test true = refl
    of_test false = refl
opens_alike true now t ask found q c = of_case (same_task_tells t q)
  where
    of_case : ((same_task t q ≡ true) × (t ≡ q)) ⊎ ((same_task t q ≡ false) × (t ≢ q)) → cond (same_task t q) (Some (opened t ask found now)) c ≡ cond (same_task t q && true) (Some (opened q ask found now)) c
    of_case (inl (is_one, same)) = rw is_one (ap (λ u. Some (opened u ask found now)) same)
    of_case (inr (differs, apart)) = rw differs refl

search_alike : (now : ℕ) (t : TaskId) (ask : SearchAsk) (s : Searching) (reply : Reply) → s.reading.ask ≡ ask → (q : TaskId) (c : Option Context) → after_opening (opened_by (works.Search s) t reply now) t q c ≡ after_end now t (Some (asks.Search ask)) reply q c
search_alike now t ask s (Search found) is q c = ap (λ a. after_opening (cond (opens_context a) (Some (opened t a found now)) None) t q c) is ∙ opens_alike (opens_context ask) now t ask found q c
search_alike now t ask s (Top top) is q c = refl
search_alike now t ask s (Hits hits) is q c = refl
search_alike now t ask s (Wrote counts) is q c = refl
search_alike now t ask s (AllFailed failed) is q c = refl
search_alike now t ask s (Cancelled task cancel counts) is q c = refl
search_alike now t ask s (Rejected node) is q c = refl

-- it has the id of its task
pub opened_id : (w : Work) (t : TaskId) (reply : Reply) (now : ℕ) (c : Context) → opened_by w t reply now ≡ Some c → c.id ≡ t
opened_id (works.Search s) t (Search found) now c e = of_test (opens_context s.reading.ask) e
  where
    of_test : (b : Bool) → cond b (Some (opened t s.reading.ask found now)) None ≡ Some c → c.id ≡ t
    of_test true f = let is : opened t s.reading.ask found now ≡ c = cc in ap (λ (x : Context). x.id) (sym is)
    of_test false f = absurd (cc)
opened_id (works.Search s) t (Top top) now c e = absurd (cc)
opened_id (works.Search s) t (Hits hits) now c e = absurd (cc)
opened_id (works.Search s) t (Wrote counts) now c e = absurd (cc)
opened_id (works.Search s) t (AllFailed failed) now c e = absurd (cc)
opened_id (works.Search s) t (Cancelled task cancel counts) now c e = absurd (cc)
opened_id (works.Search s) t (Rejected node) now c e = absurd (cc)
opened_id (works.Query s top) t reply now c e = absurd (cc)
opened_id (works.Fetch s hits) t reply now c e = absurd (cc)
opened_id (works.Scroll s) t reply now c e = absurd (cc)
opened_id (works.Reindex s) t reply now c e = absurd (cc)
opened_id (works.Slice s) t reply now c e = absurd (cc)
opened_id (works.Bulk s) t reply now c e = absurd (cc)
opened_id (works.BulkShard s) t reply now c e = absurd (cc)

-- a good reply keeps what was counted
pub found_keeps : (r : Reading) (asked : List Asked) (found : SearchReply) → search_reply r asked ≡ Search found → found.shards ≡ counts_in r asked
found_keeps r asked found e = of_test (length (failed_in r asked) == length r.shards) _ refl e
  where
    of_test : (b : Bool) (x : SearchReply) → x.shards ≡ counts_in r asked → cond b (AllFailed (failed_in r asked)) (Search x) ≡ Search found → found.shards ≡ counts_in r asked
    of_test true x is f = absurd (cc)
    of_test false x is f = let same : x ≡ found = cc in ap (λ (y : SearchReply). y.shards) (sym same) ∙ is

one_search : (one other : SearchAsk) → Some (asks.Search one) ≡ Some (asks.Search other) → one ≡ other
one_search one other is = cc

module _ (cluster : Cluster) (corpus : Corpus) (t : TaskId) (p : Progress) (requests : List Request) (awaited : List (Option ℕ)) where
  abbrev Works : Option Request → Work → Type 0
  Works o w = WorksFor cluster corpus t false p requests awaited o w

  -- the context that a task of this request uses, once it has passed
  abbrev pub uses : Option Request → Option TaskId
  uses o = option_map (λ page. page.id) (option_and_then page_in o)

  reads : (r : Reading) (s : Searching) → SearchesFor cluster corpus r p.asked requests awaited s → s.reading ≡ r
  reads r s x = ap (λ (z : Searching). z.reading) x.state_is

  -- work of a page is a page
  page_work : (page : Option Context) (ask : ScrollAsk) (w : Work) → RunsPage cluster corpus ask.id false page p.asked requests awaited w → (s : Searching) × (w ≡ works.Scroll s)
  page_work (Some d) ask (works.Scroll s) x = (s, refl)
  page_work None ask w x = absurd (let f : false ≡ true = x.0 in cc)
  page_work (Some d) ask w x = absurd x

  -- what the end makes of a context is what the past says
  pub ended_alike : (now : ℕ) (reply : Reply) (o : Option Request) (w : Work) → Works o w → (q : TaskId) (c : Option Context)
      → after_opening (opened_by w t reply now) t q (after_return now (uses o) (cursor_in reply) q c) ≡ after_end now t o reply q c
  ended_alike now reply None w x q c = absurd x
  ended_alike now reply (Some (asks.Search ask)) (works.Search s) x q c = search_alike now t ask s reply (ap (λ (r : Reading). r.ask) (reads (search_reading t ask cluster.shards) s x)) q c
  ended_alike now reply (Some (asks.Query ask)) (works.Query s top) x q c = refl
  ended_alike now reply (Some (asks.Fetch ask)) (works.Fetch s hits) x q c = refl
  ended_alike now reply (Some (asks.Reindex ask)) (works.Reindex s) x q c = refl
  ended_alike now reply (Some (asks.Slice ask)) (works.Slice s) x q c = refl
  ended_alike now reply (Some (asks.Bulk ask)) (works.Bulk s) x q c = refl
  ended_alike now reply (Some (asks.BulkShard ask)) (works.BulkShard s) x q c = refl
  ended_alike now reply (Some (asks.Scroll ask)) w x q c = let is = page_work p.page ask w x in rw is.1 refl
  ended_alike now reply (Some (asks.Search ask)) w x q c = absurd x
  ended_alike now reply (Some (asks.Query ask)) w x q c = absurd x
  ended_alike now reply (Some (asks.Fetch ask)) w x q c = absurd x
  ended_alike now reply (Some (asks.Reindex ask)) w x q c = absurd x
  ended_alike now reply (Some (asks.Slice ask)) w x q c = absurd x
  ended_alike now reply (Some (asks.Bulk ask)) w x q c = absurd x
  ended_alike now reply (Some (asks.BulkShard ask)) w x q c = absurd x

  -- a task that opens a context uses none
  pub opens_uses_none : (now : ℕ) (reply : Reply) (o : Option Request) (w : Work) → Works o w → IsSome (opened_by w t reply now) → uses o ≡ None
  opens_uses_none now reply None w x opens = absurd x
  opens_uses_none now reply (Some (asks.Search ask)) w x opens = refl
  opens_uses_none now reply (Some (asks.Query ask)) w x opens = refl
  opens_uses_none now reply (Some (asks.Fetch ask)) w x opens = refl
  opens_uses_none now reply (Some (asks.Reindex ask)) w x opens = refl
  opens_uses_none now reply (Some (asks.Slice ask)) w x opens = refl
  opens_uses_none now reply (Some (asks.Bulk ask)) w x opens = refl
  opens_uses_none now reply (Some (asks.BulkShard ask)) w x opens = refl
  opens_uses_none now reply (Some (asks.Scroll ask)) w x opens = let is = page_work p.page ask w x in absurd (let f : false ≡ true = rw is.1 at opens in cc)

  -- a cancelled end opens none
  pub cancelled_alike : (now : ℕ) (k : ℕ) (counts : Counts) (o : Option Request) (q : TaskId) (c : Option Context) → after_return now (uses o) None q c ≡ after_end now t o (Cancelled t k counts) q c
  cancelled_alike now k counts None q c = refl
  cancelled_alike now k counts (Some (asks.Search ask)) q c = refl
  cancelled_alike now k counts (Some (asks.Query ask)) q c = refl
  cancelled_alike now k counts (Some (asks.Fetch ask)) q c = refl
  cancelled_alike now k counts (Some (asks.Reindex ask)) q c = refl
  cancelled_alike now k counts (Some (asks.Slice ask)) q c = refl
  cancelled_alike now k counts (Some (asks.Bulk ask)) q c = refl
  cancelled_alike now k counts (Some (asks.BulkShard ask)) q c = refl
  cancelled_alike now k counts (Some (asks.Scroll ask)) q c = refl

  -- a task that uses a context is asked for its page
  pub page_asked : (o : Option Request) (id : TaskId) → uses o ≡ Some id → (ask : ScrollAsk) × (o ≡ Some (asks.Scroll ask)) × (ask.id ≡ id)
  page_asked None id e = absurd (cc)
  page_asked (Some (asks.Search ask)) id e = absurd (cc)
  page_asked (Some (asks.Query ask)) id e = absurd (cc)
  page_asked (Some (asks.Fetch ask)) id e = absurd (cc)
  page_asked (Some (asks.Reindex ask)) id e = absurd (cc)
  page_asked (Some (asks.Slice ask)) id e = absurd (cc)
  page_asked (Some (asks.Bulk ask)) id e = absurd (cc)
  page_asked (Some (asks.BulkShard ask)) id e = absurd (cc)
  page_asked (Some (asks.Scroll ask)) id e = (ask, refl, cc)

  -- what a search that ends well has counted can be kept, and was written
  abbrev Sound : Context → Type 0
  Sound c = AreCounts c.shards × IsContextWithin cluster corpus c

  module _ (r : Reading) (s : Searching) (x : SearchesFor cluster corpus r p.asked requests awaited s) (found : SearchReply) (e : next_step s ≡ Finish (Search found)) where
    whole : SearchesFor cluster corpus r p.asked requests awaited (record { reading = r; asked = p.asked })
    whole = subst (SearchesFor cluster corpus r p.asked requests awaited) x.state_is x

    counted_so : found.shards ≡ counts_in r p.asked
    counted_so =
        let ends : Search found ≡ search_reply s.reading s.asked = (search_ends _ _ _ (Search found) e).1 in
        found_keeps s.reading s.asked found (sym ends) ∙ ap (λ (z : Searching). counts_in z.reading z.asked) x.state_is

    search_counts : AreCounts found.shards
    search_counts =
        let some = x.few in
        let most = cluster.shards_in_range.1 in
        subst AreCounts (sym counted_so) (counts_fit (record { reading = r; asked = p.asked }) (is_searching cluster corpus r p.asked requests awaited whole) (omega arith))

    search_sound : (c : Context) → c.shards ≡ found.shards → c.ask ≡ r.ask → Sound c
    search_sound c shards ask = (subst AreCounts (sym shards) search_counts, kept_within cluster corpus r p.asked requests awaited whole c (shards ∙ counted_so) ask)

  pub reads_so : (o : Option Request) (w : Work) → Works o w → (reply : Reply) (looked : List Doc) (now : ℕ) → next_of w looked now ≡ Finish reply
      → (ask : SearchAsk) (found : SearchReply) → o ≡ Some (asks.Search ask) → reply ≡ Search found → (c : Context) → c.shards ≡ found.shards → c.ask ≡ ask → Sound c
  reads_so None w x reply looked now e ask found is good = absurd x
  reads_so (Some (asks.Search other)) (works.Search s) x reply looked now e ask found is good =
      let one : other ≡ ask = one_search other ask is in
      λ c shards own. search_sound (search_reading t other cluster.shards) s x found (e ∙ ap Finish good) c shards (own ∙ sym one)
  reads_so (Some (asks.Query other)) w x reply looked now e ask found is good = absurd (cc)
  reads_so (Some (asks.Fetch other)) w x reply looked now e ask found is good = absurd (cc)
  reads_so (Some (asks.Reindex other)) w x reply looked now e ask found is good = absurd (cc)
  reads_so (Some (asks.Slice other)) w x reply looked now e ask found is good = absurd (cc)
  reads_so (Some (asks.Bulk other)) w x reply looked now e ask found is good = absurd (cc)
  reads_so (Some (asks.BulkShard other)) w x reply looked now e ask found is good = absurd (cc)
  reads_so (Some (asks.Scroll other)) w x reply looked now e ask found is good = absurd (cc)
  reads_so (Some (asks.Search other)) w x reply looked now e ask found is good = absurd x

  pub fits_so : (o : Option Request) (w : Work) → Works o w → (reply : Reply) (looked : List Doc) (now : ℕ) → next_of w looked now ≡ Finish reply → FitsContext w reply
  fits_so None w x reply looked now e = absurd x
  fits_so (Some (asks.Search ask)) (works.Search s) x (Search found) looked now e = λ opens. search_counts (search_reading t ask cluster.shards) s x found e
  fits_so (Some (asks.Search ask)) (works.Search s) x (Top top) looked now e = tt
  fits_so (Some (asks.Search ask)) (works.Search s) x (Hits hits) looked now e = tt
  fits_so (Some (asks.Search ask)) (works.Search s) x (AllFailed failed) looked now e = tt
  fits_so (Some (asks.Search ask)) (works.Search s) x (Wrote counts) looked now e = tt
  fits_so (Some (asks.Search ask)) (works.Search s) x (Cancelled task cancel counts) looked now e = tt
  fits_so (Some (asks.Search ask)) (works.Search s) x (Rejected node) looked now e = tt
  fits_so (Some (asks.Query ask)) (works.Query s top) x reply looked now e = tt
  fits_so (Some (asks.Fetch ask)) (works.Fetch s hits) x reply looked now e = tt
  fits_so (Some (asks.Reindex ask)) (works.Reindex s) x reply looked now e = tt
  fits_so (Some (asks.Slice ask)) (works.Slice s) x reply looked now e = tt
  fits_so (Some (asks.Bulk ask)) (works.Bulk s) x reply looked now e = tt
  fits_so (Some (asks.BulkShard ask)) (works.BulkShard s) x reply looked now e = tt
  fits_so (Some (asks.Scroll ask)) w x reply looked now e = let is = page_work p.page ask w x in rw is.1 tt
  fits_so (Some (asks.Search ask)) w x reply looked now e = absurd x
  fits_so (Some (asks.Query ask)) w x reply looked now e = absurd x
  fits_so (Some (asks.Fetch ask)) w x reply looked now e = absurd x
  fits_so (Some (asks.Reindex ask)) w x reply looked now e = absurd x
  fits_so (Some (asks.Slice ask)) w x reply looked now e = absurd x
  fits_so (Some (asks.Bulk ask)) w x reply looked now e = absurd x
  fits_so (Some (asks.BulkShard ask)) w x reply looked now e = absurd x
