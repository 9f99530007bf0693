-- A request of a page can start where its context may be used.
use Rattle.std.proofs.Common.{◌≡◌, ◌≤◌, ◌-◌, ℕ, true, false, not, List, Option, Some, None, refl, sym, ap, subst, ◌∙◌, arith}
use Rattle.std.specs.Prelude.{◌&&◌, is_some, slice_get, option_and_then, option_map, IsOk, ⊤}
use Rattle.std.specs.FinMap.{FinMap, get}
use Rattle.std.proofs.lemmas.Option.{slice_get_within}
use Rattle.task_ids.specs.TaskIdOrder.{task_id_cmp}
use Rattle.task_ids.specs.declared.cluster.Cluster.{Cluster}
use Rattle.task_ids.specs.declared.corpus.Corpus.{Corpus}
use Rattle.task_ids.specs.declared.task_id.TaskId.{TaskId}
use Rattle.script_lang.specs.declared.command.Command.{Command}
use Rattle.script_lang.specs.declared.command.Command.TheVariants.{Search, Scroll, ClearScroll, Reindex, Cancel, ListTasks, GetTask, ForgetTask, ListResults, Tick, Deliver, Step, ListStep, Settle, Shuffle, WaitFor, History, Summary}
use Rattle.script_lang.specs.declared.command.Script.{Script}
use Rattle.task_events.specs.declared.context.Context.{Context}
use Rattle.task_events.specs.declared.event.Event.{Event}
use Rattle.task_events.specs.declared.request.Request.{Request}
use Rattle.task_events.specs.declared.request.Request.TheVariants as asks
use Rattle.task_events.specs.declared.request.ReindexAsk.{ReindexAsk}
use Rattle.task_events.specs.declared.request.ScrollAsk.{ScrollAsk}
use Rattle.task_events.specs.declared.request.SearchAsk.{SearchAsk}
use Rattle.task_events.specs.Lawful.{Lawful}
use Rattle.task_events.specs.Contexts.{is_busy, is_expired, is_owned_by, asked_page, context_at}
use Rattle.task_work.specs.Works.{is_page}
use Rattle.scroll_table.specs.Contexts.{answer_for}
use Rattle.command_roots.specs.Roots.{command_at, context_named, reindex_of, request_in, root_request, scripted, search_of}
use Rattle.search_phase.proofs.Sorting.{by_test}
use Rattle.world_moves.specs.Good.{so_far}
use Rattle.world_moves.specs.Owning.{MayTakeFree}
use Rattle.world_moves.specs.Paging.{Paging, CanTake, context_in}
use Rattle.world_moves.proofs.AllKinds.{IsPageOf}
use Rattle.world_moves.proofs.ContextsPast.{own_id}
use Rattle.world_moves.proofs.PagesMoved.{IsUsable}

-- who may use a context finds one that no task uses
pub usable_found : (by : Option TaskId) (now : ℕ) (o : Option Context) → IsOk (answer_for by now o) → (c : Context) × (o ≡ Some c) × (is_busy c ≡ false)
usable_found by now None ok = absurd (cc)
usable_found by now (Some c) ok =
    by_test (is_owned_by by c && not (is_expired now c))
    (λ yes. by_test (is_busy c) (λ busy. absurd (let f : false ≡ true = rw (yes, busy) at ok in cc)) (λ free. (c, refl, free)))
    (λ no. absurd (let f : false ≡ true = rw no at ok in cc))

-- and it belongs to the one who may
usable_owned : (by : Option TaskId) (now : ℕ) (c : Context) → IsOk (answer_for by now (Some c)) → is_owned_by by c ≡ true
usable_owned by now c ok = by_test (is_owned_by by c) (λ yes. yes) (λ no. absurd (let f : false ≡ true = rw no at ok in cc))

nobodys : (c : Context) → is_owned_by None c ≡ true → c.owner ≡ None
nobodys c owned = of_owner c.owner refl
  where
    of_owner : (o : Option TaskId) → c.owner ≡ o → c.owner ≡ None
    of_owner None e = e
    of_owner (Some u) e = absurd (let f : false ≡ true = rw e at owned in cc)

-- ---- what commands ask for

-- a page of a context that belongs to no task, a search, or a reindex
abbrev pub IsOfNobody : Request → Type 0
IsOfNobody (asks.Scroll ask) = ask.owner ≡ None
IsOfNobody (asks.Search ask) = ⊤
IsOfNobody (asks.Reindex ask) = ⊤
IsOfNobody _ = ⊥

of_search : (o : Option SearchAsk) (r : Request) → option_map asks.Search o ≡ Some r → IsOfNobody r
of_search None r e = absurd (cc)
of_search (Some ask) r e = let same : asks.Search ask ≡ r = cc in subst IsOfNobody same tt

of_reindex : (o : Option ReindexAsk) (r : Request) → option_map asks.Reindex o ≡ Some r → IsOfNobody r
of_reindex None r e = absurd (cc)
of_reindex (Some ask) r e = let same : asks.Reindex ask ≡ r = cc in subst IsOfNobody same tt

of_scroll : (keep : Option ℕ) (o : Option TaskId) (r : Request) → option_map (λ id. asks.Scroll (record { id = id; keep = keep; owner = None })) o ≡ Some r → IsOfNobody r
of_scroll keep None r e = absurd (cc)
of_scroll keep (Some id) r e = let same : asks.Scroll (record { id = id; keep = keep; owner = None }) ≡ r = cc in subst IsOfNobody same refl

of_command : (command : Command) (h : List Event) (r : Request) → request_in command h ≡ Some r → IsOfNobody r
of_command (Scroll target keep opaque_id) h r e = of_scroll keep (context_named target h) r e
of_command (Search index node scroll body opaque_id) h r e = of_search (search_of (Search index node scroll body opaque_id)) r e
of_command (Reindex node body slices rate opaque_id store) h r e = of_reindex (reindex_of (Reindex node body slices rate opaque_id store)) r e
of_command (ClearScroll target) h r e = absurd (cc)
of_command (Tick ms) h r e = absurd (cc)
of_command (Cancel target reason wait) h r e = absurd (cc)
of_command (ListTasks wanted group detailed) h r e = absurd (cc)
of_command (GetTask task wait) h r e = absurd (cc)
of_command (ForgetTask task) h r e = absurd (cc)
of_command ListResults h r e = absurd (cc)
of_command (Deliver nth) h r e = absurd (cc)
of_command (Step task) h r e = absurd (cc)
of_command (ListStep node parent) h r e = absurd (cc)
of_command Settle h r e = absurd (cc)
of_command (Shuffle seed moves) h r e = absurd (cc)
of_command (WaitFor waited) h r e = absurd (cc)
of_command History h r e = absurd (cc)
of_command Summary h r e = absurd (cc)

pub root_of_nobody : (script : Script) (k : ℕ) (h : List Event) (r : Request) → root_request script k h ≡ Some r → IsOfNobody r
root_of_nobody script k h r asked = at_command (command_at script k) asked
  where
    at_command : (o : Option Command) → option_and_then (λ command. request_in command h) o ≡ Some r → IsOfNobody r
    at_command None e = absurd (cc)
    at_command (Some command) e = of_command command h r e

-- ---- in the world

module _ (cluster : Cluster) (corpus : Corpus) (script : Script) (h : List Event) (tables : List (FinMap task_id_cmp Context)) (p : Paging cluster corpus script h tables) (lawful : Lawful cluster h) where
  pub take_usable : (now : ℕ) (request : Request) → CanTake now tables request → (r : Request) → Some request ≡ Some r → IsUsable cluster corpus script h tables p lawful r
  take_usable now (asks.Search other) can r one ask is = absurd (let same : asks.Search other ≡ r = cc in cc)
  take_usable now (asks.Query other) can r one ask is = absurd (let same : asks.Query other ≡ r = cc in cc)
  take_usable now (asks.Fetch other) can r one ask is = absurd (let same : asks.Fetch other ≡ r = cc in cc)
  take_usable now (asks.Reindex other) can r one ask is = absurd (let same : asks.Reindex other ≡ r = cc in cc)
  take_usable now (asks.Slice other) can r one ask is = absurd (let same : asks.Slice other ≡ r = cc in cc)
  take_usable now (asks.Bulk other) can r one ask is = absurd (let same : asks.Bulk other ≡ r = cc in cc)
  take_usable now (asks.BulkShard other) can r one ask is = absurd (let same : asks.BulkShard other ≡ r = cc in cc)
  take_usable now (asks.Scroll other) can r one ask is =
      let same : other ≡ ask = cc in
      let found = usable_found other.owner now (context_in tables other.id) can in
      (found.0, ap (λ (x : ScrollAsk). context_at (scripted script) x.id h) (sym same) ∙ sym (p.stand other.id) ∙ found.1, found.2)

  -- its context belongs to no task
  pub takes_free : (now k : ℕ) (request : Request) → root_request script k h ≡ Some request → CanTake now tables request → MayTakeFree (scripted script) (root_request script k h) h
  takes_free now k request asked can = subst (λ o. MayTakeFree (scripted script) o h) (sym asked) (of_request request (root_of_nobody script k h request asked) can)
    where
      of_request : (r : Request) → IsOfNobody r → CanTake now tables r → MayTakeFree (scripted script) (Some r) h
      of_request (asks.Search ask) free can = tt
      of_request (asks.Query ask) free can = tt
      of_request (asks.Fetch ask) free can = tt
      of_request (asks.Reindex ask) free can = tt
      of_request (asks.Slice ask) free can = tt
      of_request (asks.Bulk ask) free can = tt
      of_request (asks.BulkShard ask) free can = tt
      of_request (asks.Scroll ask) free can = λ c there.
          let mine = subst (λ by. IsOk (answer_for by now (context_in tables ask.id))) free can in
          nobodys c (usable_owned None now c (subst (λ o. IsOk (answer_for None now o)) (p.stand ask.id ∙ there) mine))

  -- the page that is given is that of the past
  pub page_there : (request : Request) → asked_page (λ id. context_in tables id) (Some request) ≡ asked_page (λ id. context_at (scripted script) id h) (Some request)
  page_there (asks.Search ask) = refl
  page_there (asks.Query ask) = refl
  page_there (asks.Fetch ask) = refl
  page_there (asks.Reindex ask) = refl
  page_there (asks.Slice ask) = refl
  page_there (asks.Bulk ask) = refl
  page_there (asks.BulkShard ask) = refl
  page_there (asks.Scroll ask) = p.stand ask.id

  pub page_given : (now : ℕ) (request : Request) → CanTake now tables request → is_page request ≡ is_some (asked_page (λ id. context_in tables id) (Some request))
  page_given now (asks.Search ask) can = refl
  page_given now (asks.Query ask) can = refl
  page_given now (asks.Fetch ask) can = refl
  page_given now (asks.Reindex ask) can = refl
  page_given now (asks.Slice ask) can = refl
  page_given now (asks.Bulk ask) can = refl
  page_given now (asks.BulkShard ask) can = refl
  page_given now (asks.Scroll ask) can = let found = usable_found ask.owner now (context_in tables ask.id) can in sym (ap is_some found.1)

  of_context : (ask : ScrollAsk) (o : Option Context) → context_at (scripted script) ask.id h ≡ o → IsPageOf cluster (so_far corpus script h) o (asks.Scroll ask)
  of_context ask None e = tt
  of_context ask (Some c) e = (own_id (scripted script) ask.id h c e, p.counts ask.id c e, p.within ask.id c e)

  pub page_sound : (request : Request) → IsPageOf cluster (so_far corpus script h) (asked_page (λ id. context_at (scripted script) id h) (Some request)) request
  page_sound (asks.Search ask) = tt
  page_sound (asks.Query ask) = tt
  page_sound (asks.Fetch ask) = tt
  page_sound (asks.Reindex ask) = tt
  page_sound (asks.Slice ask) = tt
  page_sound (asks.Bulk ask) = tt
  page_sound (asks.BulkShard ask) = tt
  page_sound (asks.Scroll ask) = of_context ask (context_at (scripted script) ask.id h) refl

  -- its context stands on a node of the cluster
  pub page_high : (now : ℕ) (ask : ScrollAsk) → CanTake now tables (asks.Scroll ask) → ask.id.node ≤ cluster.nodes
  page_high now ask can =
      let found = usable_found ask.owner now (context_in tables ask.id) can in
      let there = in_table (slice_get tables (ask.id.node - 1)) found.0 found.1 in
      let within = slice_get_within tables (ask.id.node - 1) there.0 there.1 in
      let low = ask.id.node_in_range.0 in
      omega (arith, within, p.as_many, low)
    where
      in_table : (o : Option (FinMap task_id_cmp Context)) (c : Context) → option_and_then (λ table. get table ask.id) o ≡ Some c → (table : FinMap task_id_cmp Context) × (o ≡ Some table)
      in_table None c e = absurd (cc)
      in_table (Some table) c e = (table, refl)
