-- A child passes: what its work and the tables of contexts are then.
use Rattle.std.proofs.Common.{◌≡◌, ◌≢◌, ◌⊎◌, ℕ, true, false, cond, List, ◌∷◌, length, Option, Some, None, refl, sym, ap, ◌∙◌, inl, inr, arith}
use Rattle.std.specs.Prelude.{option_map, option_and_then, unwrap_or, IsSome, IsOk, Result, Ok}
use Rattle.std.specs.BTreeMap.{is_at}
use Rattle.std.specs.FinMap.{FinMap}
use Rattle.task_ids.specs.TaskIdOrder.{task_id_cmp}
use Rattle.task_ids.specs.declared.cluster.Cluster.{Cluster}
use Rattle.task_ids.specs.declared.corpus.Corpus.{Corpus}
use Rattle.task_ids.specs.declared.task_id.TaskId.{TaskId}
use Rattle.script_lang.specs.declared.command.Script.{Script}
use Rattle.task_table.specs.Table.{Table}
use Rattle.task_events.specs.declared.context.Context.{Context}
use Rattle.task_events.specs.declared.event.Event.{Event}
use Rattle.task_events.specs.declared.event.Event.TheVariants.{Pass}
use Rattle.task_events.specs.declared.request.Request.{Request}
use Rattle.task_events.specs.declared.request.Request.TheVariants as asks
use Rattle.task_events.specs.declared.request.ScrollAsk.{ScrollAsk}
use Rattle.task_events.specs.Allowed.{Allowed}
use Rattle.task_events.specs.Clock.{clock}
use Rattle.task_events.specs.Contexts.{is_expired, is_owned_by, after_taking, asked_page, context_at}
use Rattle.task_events.specs.Readings.{page_reading}
use Rattle.task_events.specs.Requests.{request_of}
use Rattle.task_events.specs.Same.{same_task}
use Rattle.task_events.specs.Tasks.{is_live, is_new}
use Rattle.task_laws.proofs.Same.{same_task_tells, same_tests}
use Rattle.scroll_table.specs.declared.context.PageError.{PageError}
use Rattle.scroll_table.specs.Contexts.{answer_for}
use Rattle.search_phase.specs.Searching.{new_search}
use Rattle.task_work.specs.declared.work.Work.{Work}
use Rattle.task_work.specs.declared.work.Work.TheVariants as works
use Rattle.task_work.specs.Works.{new_work}
use Rattle.node_parts.specs.declared.running.Running.{Running}
use Rattle.node_parts.specs.Starting.{page_in}
use Rattle.command_roots.specs.Roots.{scripted}
use Rattle.world_moves.specs.declared.flight.Sent.{Sent}
use Rattle.world_moves.specs.Facts.{awaited_by, facts_of, requested_by}
use Rattle.world_moves.specs.Good.{so_far}
use Rattle.world_moves.specs.Paging.{Paging, CanTake, context_in, passed}
use Rattle.world_moves.specs.Ties.{Ties, RunsAt, progress_from}
use Rattle.world_moves.proofs.ContextsPast.{own_id}
use Rattle.world_moves.proofs.KeptTasks.{is_at_task}
use Rattle.world_moves.proofs.OwnPages.{FindsFree, finds_free}
use Rattle.world_moves.proofs.PageLaws.{page_starts}
use Rattle.world_moves.proofs.PagesMoved.{child_usable, passed_pages}
use Rattle.world_moves.proofs.PassedWorks.{asked_none, awaited_none, requested_none, still_works}
use Rattle.world_moves.proofs.StepsAfter.{WorksOn, kept_running, passing}

-- the request of a page
page_request : (o : Option Request) (ask : ScrollAsk) → option_and_then page_in o ≡ Some ask → o ≡ Some (asks.Scroll ask)
page_request None ask e = absurd (cc)
page_request (Some (asks.Search other)) ask e = absurd (cc)
page_request (Some (asks.Query other)) ask e = absurd (cc)
page_request (Some (asks.Fetch other)) ask e = absurd (cc)
page_request (Some (asks.Reindex other)) ask e = absurd (cc)
page_request (Some (asks.Slice other)) ask e = absurd (cc)
page_request (Some (asks.Bulk other)) ask e = absurd (cc)
page_request (Some (asks.BulkShard other)) ask e = absurd (cc)
page_request (Some (asks.Scroll other)) ask e = let same : other ≡ ask = cc in ap (λ a. Some (asks.Scroll a)) same

-- what is made of contexts goes by that alone
taken_alike : (now : ℕ) (t : TaskId) (o : Option Request) (q : TaskId) (c : Option Context) → after_taking now t (option_map asks.Scroll (option_and_then page_in o)) q c ≡ after_taking now t o q c
taken_alike now t None q c = refl
taken_alike now t (Some (asks.Search ask)) q c = refl
taken_alike now t (Some (asks.Query ask)) q c = refl
taken_alike now t (Some (asks.Fetch ask)) q c = refl
taken_alike now t (Some (asks.Reindex ask)) q c = refl
taken_alike now t (Some (asks.Slice ask)) q c = refl
taken_alike now t (Some (asks.Bulk ask)) q c = refl
taken_alike now t (Some (asks.BulkShard ask)) q c = refl
taken_alike now t (Some (asks.Scroll ask)) q c = refl

-- a context of a task's own that no task uses is given to it
owned_by_one : (p : TaskId) (c : Context) → c.owner ≡ Some p → same_task p p ≡ true → is_owned_by (Some p) c ≡ true
unfolding same_task
owned_by_one p c owned one = rw owned one

owned_by_itself : (p : TaskId) (c : Context) → c.owner ≡ Some p → is_owned_by (Some p) c ≡ true
owned_by_itself p c owned = owned_by_one p c owned (grind (arith, same_tests))

pub can_take : (p : TaskId) (c : Context) (now : ℕ) → c.owner ≡ Some p → c.keep_ms ≡ None → c.busy ≡ None → answer_for (Some p) now (Some c) ≡ Ok c
can_take p c now owned kept free =
    let own = owned_by_itself p c owned in
    let stays : is_expired now c ≡ false = rw (free, kept) refl in
    rw (own, stays, free) refl

is_given : (answer : Result Context PageError) (c : Context) → answer ≡ Ok c → IsOk answer
is_given answer c e = rw e refl

-- a task that is changed so has passed
pub once_passed : (t : TaskId) (work : Option Work) (r w : Running) (tasks after : TaskId → Option Running) → tasks t ≡ Some r → w ≡ passed work r → ((q : TaskId) → after q ≡ cond (is_at (task_id_cmp t) q) (Some w) (tasks q))
    → (q : TaskId) → after q ≡ cond (is_at (task_id_cmp t) q) (option_map (passed work) (tasks q)) (tasks q)
once_passed t work r w tasks after was is changed q = changed q ∙ of_case (same_task_tells t q)
  where
    of_case : ((same_task t q ≡ true) × (t ≡ q)) ⊎ ((same_task t q ≡ false) × (t ≢ q)) → cond (is_at (task_id_cmp t) q) (Some w) (tasks q) ≡ cond (is_at (task_id_cmp t) q) (option_map (passed work) (tasks q)) (tasks q)
    of_case (inl (is_one, same)) = ap (λ o. cond (is_at (task_id_cmp t) q) o (tasks q)) (ap Some is ∙ sym (ap (option_map (passed work)) (ap tasks (sym same) ∙ was)))
    of_case (inr (differs, apart)) =
        let off = is_at_task t q ∙ differs in
        ap (λ b. cond b (Some w) (tasks q)) off ∙ sym (ap (λ b. cond b (option_map (passed work) (tasks q)) (tasks q)) off)

-- tasks of which one has passed
module _ (t : TaskId) (work : Option Work) (tasks after : TaskId → Option Running) (changed : (q : TaskId) → after q ≡ cond (is_at (task_id_cmp t) q) (option_map (passed work) (tasks q)) (tasks q)) where
  pub passed_here : (r : Running) → tasks t ≡ Some r → after t ≡ Some (passed work r)
  passed_here r was =
      let one : same_task t t ≡ true = grind (arith, same_tests) in
      changed t ∙ ap (λ b. cond b (option_map (passed work) (tasks t)) (tasks t)) (is_at_task t t ∙ one) ∙ ap (option_map (passed work)) was

  pub others_here : (q : TaskId) → same_task t q ≡ false → after q ≡ tasks q
  others_here q differs = changed q ∙ ap (λ b. cond b (option_map (passed work) (tasks q)) (tasks q)) (is_at_task t q ∙ differs)

module _ (cluster : Cluster) (corpus : Corpus) (script : Script) (h : List Event) (tasks : TaskId → Option Running) (tables : List Table) (flight : List Sent) (ties : Ties cluster corpus script h tasks tables flight)
    (contexts : List (FinMap task_id_cmp Context)) (pages : Paging cluster corpus script h contexts) (t : TaskId) (live : is_live t h ≡ true) (first : is_new t h ≡ true) (r : Running) (here : tasks t ≡ Some r) where
  runs : RunsAt cluster (so_far corpus script) h t (facts_of (scripted script) t h) r
  runs = kept_running cluster corpus script h tasks tables flight ties t live r here

  asked_so : (ask : ScrollAsk) → r.page ≡ Some ask → request_of (scripted script) t h ≡ Some (asks.Scroll ask)
  asked_so ask is = page_request (request_of (scripted script) t h) ask (sym runs.page ∙ is)

  module _ (ask : ScrollAsk) (is : r.page ≡ Some ask) where
    finds : FindsFree cluster (scripted script) h ties.lawful pages.owns ask
    finds = finds_free cluster (scripted script) h ties.lawful pages.owns t live first ask (asked_so ask is)

    in_table : context_in contexts ask.id ≡ Some finds.stands.context
    in_table = pages.stand ask.id ∙ finds.stands.there

    pub page_there : IsSome (context_in contexts ask.id)
    page_there = rw in_table refl

    pub page_usable : (now : ℕ) → CanTake now contexts (asks.Scroll ask)
    page_usable now =
        let answers = can_take finds.parent finds.stands.context now finds.stands.owned finds.stands.kept finds.free in
        is_given _ finds.stands.context ((λ i. answer_for (finds.own i) now (in_table i)) ∙ answers)

    -- the work of a page is made over its context
    page_on : WorksOn cluster corpus script t h (works.Scroll (new_search (page_reading finds.stands.context)))
    page_on =
        let c = finds.stands.context in
        let request = asked_so ask is in
        let shows : asked_page (λ id. context_at (scripted script) id h) (request_of (scripted script) t h) ≡ Some c = ap (asked_page (λ id. context_at (scripted script) id h)) request ∙ finds.stands.there in
        let begins = page_starts cluster (so_far corpus script h) ask false c (own_id (scripted script) ask.id h c finds.stands.there) (pages.counts ask.id c finds.stands.there) (pages.within ask.id c finds.stands.there) in
        rw (request, finds.stands.there, asked_none cluster t h ties.lawful first, requested_none cluster t h ties.lawful first, awaited_none cluster t h ties.lawful first) begins

    new_page : (work : Option Work) → work ≡ new_work t (asks.Scroll ask) cluster.shards (context_in contexts ask.id) → work ≡ Some (works.Scroll (new_search (page_reading finds.stands.context)))
    new_page work made = made ∙ ap (new_work t (asks.Scroll ask) cluster.shards) in_table

  pub works_on : (work : Option Work) → work ≡ option_and_then (λ ask. new_work t (asks.Scroll ask) cluster.shards (context_in contexts ask.id)) r.page → WorksOn cluster corpus script t h (unwrap_or work r.work)
  works_on work made = of_page r.page refl
    where
      of_page : (page : Option ScrollAsk) → r.page ≡ page → WorksOn cluster corpus script t h (unwrap_or work r.work)
      of_page None is =
          let none : work ≡ None = made ∙ ap (option_and_then (λ ask. new_work t (asks.Scroll ask) cluster.shards (context_in contexts ask.id))) is in
          rw none (still_works cluster (so_far corpus script h) t (is_new t h) (progress_from cluster (so_far corpus script) (facts_of (scripted script) t h)) (progress_from cluster (so_far corpus script) (passing script t h)) refl refl refl refl refl refl
          (requested_by t h) (awaited_by t h) (request_of (scripted script) t h) r.work (sym runs.page ∙ is) runs.works)
      of_page (Some ask) is =
          let some = new_page ask is work (made ∙ ap (option_and_then (λ ask. new_work t (asks.Scroll ask) cluster.shards (context_in contexts ask.id))) is) in
          rw some (page_on ask is)

  pub pages_after : (now : ℕ) → now ≡ clock h → Allowed cluster (Pass t) h → (after : List (FinMap task_id_cmp Context)) → length after ≡ length contexts
      → ((q : TaskId) → context_in after q ≡ after_taking now t (option_map asks.Scroll r.page) q (context_in contexts q)) → Paging cluster corpus script (Pass t ∷ h) after
  pages_after now moment a after many taken =
      passed_pages cluster corpus script h contexts pages ties.lawful t (request_of (scripted script) t h) (child_usable cluster corpus script h contexts pages ties.lawful t live first (request_of (scripted script) t h) refl) after many
      (λ q. taken q
      ∙ ap (λ page. after_taking now t (option_map asks.Scroll page) q (context_in contexts q)) runs.page
      ∙ taken_alike now t (request_of (scripted script) t h) q (context_in contexts q)
      ∙ ap (λ m. after_taking m t (request_of (scripted script) t h) q (context_in contexts q)) moment)
      refl a
