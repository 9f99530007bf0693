-- The work of each kind of task stays as far as its asks, their answers and its turns say, and so it does and counts what its kind says.
use Rattle.std.proofs.Common.{◌≡◌, ℕ, Result, Ok, Err, ◌+◌, true, false, List, [], ◌∷◌, ◌++◌, length, Option, Some, None, refl, sym, ap, subst, ◌∙◌}
use Rattle.std.specs.Prelude.{IfOk, OnOk}
use Rattle.std.specs.declared.alloc.AllocError.{AllocError}
use Rattle.std.proofs.lemmas.List.{append-nil}
use Rattle.std.proofs.lemmas.Result.{on_ok_weaker}
use Rattle.task_ids.specs.declared.cluster.Cluster.{Cluster}
use Rattle.task_ids.specs.declared.corpus.Corpus.{Corpus}
use Rattle.task_ids.specs.declared.doc.Doc.{Doc}
use Rattle.task_ids.specs.declared.task_id.TaskId.{TaskId}
use Rattle.task_events.specs.declared.context.Context.{Context}
use Rattle.task_events.specs.declared.request.Request.{Request}
use Rattle.task_events.specs.declared.request.Request.TheVariants as asks
use Rattle.task_events.specs.declared.request.ScrollAsk.{ScrollAsk}
use Rattle.task_events.specs.declared.reply.Reply.{Reply}
use Rattle.task_events.specs.declared.step.Asked.{Asked}
use Rattle.task_events.specs.declared.step.Do.{Do}
use Rattle.task_events.specs.Kind.{Progress}
use Rattle.task_events.specs.Kinds.{kind_of}
use Rattle.task_events.specs.ScrollTask.{scroll_step}
use Rattle.search_phase.proofs.Runs.{search_follows, search_asked, search_answered, query_first, query_follows, query_turned, fetch_first, fetch_follows, fetch_turned}
use Rattle.reindex.proofs.BulkRuns.{bulk_first, bulk_follows, bulk_counted, bulk_one_more, bulk_answered}
use Rattle.reindex.proofs.RootRuns.{root_first, root_follows, root_counted, root_one_more, root_answered}
use Rattle.reindex.proofs.SliceRuns.{slice_first, slice_follows, slice_counted, slice_one_more, slice_answered}
use Rattle.reindex.proofs.WritingRuns.{writing_first, writing_follows, writing_turned}
use Rattle.task_work.specs.declared.work.Work.{Work}
use Rattle.task_work.specs.declared.work.Work.TheVariants.{Search, Query, Fetch, Scroll, Reindex, Slice, Bulk, BulkShard}
use Rattle.task_work.specs.Plans.{no_progress, progress_with_ask, progress_with_answer, progress_with_turn, IsQueryWork, IsFetchWork, IsPageAt, IsWorkAt, writes_of_request, plan_of}
use Rattle.task_work.specs.Works.{IsNewWork, IsWorkOn, next_of, with_turn, can_ask, work_with_ask, work_takes, work_with_answer, work_notes, docs_next, counts_of}

-- ---- new work

one_work : (v w : Work) → Some v ≡ Some w → v ≡ w
one_work v w e = cc

module _ (task : TaskId) (shards : ℕ) (writes : List Doc) where
  pub work_first : (request : Request) (context : Option Context) (work : Work) → IsNewWork task request shards context work → IsWorkAt task request shards (no_progress context) writes work
  work_first (asks.Search ask) context work new = subst (IsWorkAt task (asks.Search ask) shards (no_progress context) writes) (one_work _ work new) refl
  work_first (asks.Query ask) context work new = subst (IsWorkAt task (asks.Query ask) shards (no_progress context) writes) (one_work _ work new) (query_first ask writes, refl)
  work_first (asks.Fetch ask) context work new = subst (IsWorkAt task (asks.Fetch ask) shards (no_progress context) writes) (one_work _ work new) (fetch_first ask writes, refl)
  work_first (asks.Scroll ask) (Some c) work new = subst (IsWorkAt task (asks.Scroll ask) shards (no_progress (Some c)) writes) (one_work _ work new) refl
  work_first (asks.Scroll ask) None work new = absurd (cc)
  work_first (asks.Bulk ask) context work new = subst (IsWorkAt task (asks.Bulk ask) shards (no_progress context) writes) (one_work _ work new) (bulk_first ask shards)
  work_first (asks.BulkShard ask) context work new = subst (IsWorkAt task (asks.BulkShard ask) shards (no_progress context) writes) (one_work _ work new) (writing_first ask)
  work_first (asks.Reindex ask) context (Reindex r) new = root_first task ask shards r new
  work_first (asks.Reindex ask) context _ new = absurd new
  work_first (asks.Slice ask) context (Slice s) new = slice_first new
  work_first (asks.Slice ask) context _ new = absurd new

-- ---- what it does and has counted

page_plans : (page : Option Context) (asked : List Asked) (work : Work) (writes : List Doc) (now : ℕ) → IsPageAt page asked work → scroll_step page asked ≡ next_of work writes now
page_plans (Some c) asked (Scroll s) writes now at = search_follows at
page_plans (Some c) asked _ writes now at = absurd at
page_plans None asked work writes now at = absurd at

-- what it does next is what the plan says
pub work_plans : (cluster : Cluster) (corpus : Corpus) (task : TaskId) (request : Request) (p : Progress) (now : ℕ) (work : Work) → IsWorkAt task request cluster.shards p (writes_of_request cluster corpus request) work
    → plan_of cluster corpus task request p now ≡ next_of work (writes_of_request cluster corpus request) now
work_plans cluster corpus task (asks.Search ask) p now (Search s) at = search_follows at
work_plans cluster corpus task (asks.Search ask) p now _ at = absurd at
work_plans cluster corpus task (asks.Query ask) p now (Query q top) at = query_follows at.0
work_plans cluster corpus task (asks.Query ask) p now _ at = absurd at
work_plans cluster corpus task (asks.Fetch ask) p now (Fetch f hits) at = fetch_follows at.0
work_plans cluster corpus task (asks.Fetch ask) p now _ at = absurd at
work_plans cluster corpus task (asks.Scroll ask) p now work at = page_plans p.page p.asked work (writes_of_request cluster corpus (asks.Scroll ask)) now at
work_plans cluster corpus task (asks.Reindex ask) p now (Reindex r) at = root_follows at now
work_plans cluster corpus task (asks.Reindex ask) p now _ at = absurd at
work_plans cluster corpus task (asks.Slice ask) p now (Slice s) at = slice_follows at now
work_plans cluster corpus task (asks.Slice ask) p now _ at = absurd at
work_plans cluster corpus task (asks.Bulk ask) p now (Bulk b) at = bulk_follows at
work_plans cluster corpus task (asks.Bulk ask) p now _ at = absurd at
work_plans cluster corpus task (asks.BulkShard ask) p now (BulkShard w) at = writing_follows p at
work_plans cluster corpus task (asks.BulkShard ask) p now _ at = absurd at

page_counts : (page : Option Context) (asked : List Asked) (work : Work) (ask : ScrollAsk) (p : Progress) → IsPageAt page asked work → (kind_of (asks.Scroll ask)).counts p ≡ counts_of work
page_counts (Some c) asked (Scroll s) ask p at = refl
page_counts (Some c) asked _ ask p at = absurd at
page_counts None asked work ask p at = absurd at

module _ (task : TaskId) (shards : ℕ) where
  -- what it has counted is what its kind says
  pub work_counted : (request : Request) (p : Progress) (writes : List Doc) (work : Work) → IsWorkAt task request shards p writes work → (kind_of request).counts p ≡ counts_of work
  work_counted (asks.Search ask) p writes (Search s) at = refl
  work_counted (asks.Search ask) p writes _ at = absurd at
  work_counted (asks.Query ask) p writes (Query q top) at = refl
  work_counted (asks.Query ask) p writes _ at = absurd at
  work_counted (asks.Fetch ask) p writes (Fetch f hits) at = refl
  work_counted (asks.Fetch ask) p writes _ at = absurd at
  work_counted (asks.Scroll ask) p writes work at = page_counts p.page p.asked work ask p at
  work_counted (asks.Reindex ask) p writes (Reindex r) at = root_counted at
  work_counted (asks.Reindex ask) p writes _ at = absurd at
  work_counted (asks.Slice ask) p writes (Slice s) at = slice_counted at
  work_counted (asks.Slice ask) p writes _ at = absurd at
  work_counted (asks.Bulk ask) p writes (Bulk b) at = bulk_counted at
  work_counted (asks.Bulk ask) p writes _ at = absurd at
  work_counted (asks.BulkShard ask) p writes (BulkShard w) at = λ i. record { total = 0; created = sym at.created_is i; updated = sym at.updated_is i; batches = 0; failures = 0 }
  work_counted (asks.BulkShard ask) p writes _ at = absurd at

  page_on : (page : Option Context) (asked : List Asked) (writes : List Doc) (work : Work) → IsPageAt page asked work → IsWorkOn work writes
  page_on (Some c) asked writes (Scroll s) at = tt
  page_on (Some c) asked writes _ at = absurd at
  page_on None asked writes work at = absurd at

  -- its turns were over these writes
  pub work_on : (request : Request) (p : Progress) (writes : List Doc) (work : Work) → IsWorkAt task request shards p writes work → IsWorkOn work writes
  work_on (asks.Search ask) p writes (Search s) at = tt
  work_on (asks.Search ask) p writes _ at = absurd at
  work_on (asks.Query ask) p writes (Query q top) at = (at.0.on, at.1)
  work_on (asks.Query ask) p writes _ at = absurd at
  work_on (asks.Fetch ask) p writes (Fetch f hits) at = (at.0.on, at.1)
  work_on (asks.Fetch ask) p writes _ at = absurd at
  work_on (asks.Scroll ask) p writes work at = page_on p.page p.asked writes work at
  work_on (asks.Reindex ask) p writes (Reindex r) at = tt
  work_on (asks.Reindex ask) p writes _ at = absurd at
  work_on (asks.Slice ask) p writes (Slice s) at = tt
  work_on (asks.Slice ask) p writes _ at = absurd at
  work_on (asks.Bulk ask) p writes (Bulk b) at = tt
  work_on (asks.Bulk ask) p writes _ at = absurd at
  work_on (asks.BulkShard ask) p writes (BulkShard w) at = tt
  work_on (asks.BulkShard ask) p writes _ at = absurd at

-- ---- an ask, an answer and a turn of a page

page_asked : (page : Option Context) (asked : List Asked) (k : ℕ) (work : Work) → IsPageAt page asked work → IsPageAt page (asked ++ record { ask = k; answer = None } ∷ []) (work_with_ask work k)
page_asked (Some c) asked k (Scroll s) at = search_asked at k
page_asked (Some c) asked k _ at = absurd at
page_asked None asked k work at = absurd at

page_answered : (page : Option Context) (asked : List Asked) (k : ℕ) (reply : Reply) (now : ℕ) (p : Progress) (work : Work) → IsPageAt page asked work → IsPageAt page (progress_with_answer (record p { asked = asked }) k reply now).asked (work_with_answer work k reply now)
page_answered (Some c) asked k reply now p (Scroll s) at = search_answered at k reply
page_answered (Some c) asked k reply now p _ at = absurd at
page_answered None asked k reply now p work at = absurd at

-- ---- an ask

module _ (task : TaskId) (shards : ℕ) (p : Progress) (writes : List Doc) where
  -- the next ask has the next number
  asked_next : (request : Request) (work : Work) → can_ask work (length p.asked + 1) ≡ true → IsWorkAt task request shards p writes work → IsWorkAt task request shards (progress_with_ask p (length p.asked + 1)) writes (work_with_ask work (length p.asked + 1))
  asked_next (asks.Search ask) (Search s) can at = search_asked at (length p.asked + 1)
  asked_next (asks.Search ask) _ can at = absurd at
  asked_next (asks.Query ask) (Query q top) can at = absurd (let f : false ≡ true = can in cc)
  asked_next (asks.Query ask) _ can at = absurd at
  asked_next (asks.Fetch ask) (Fetch f hits) can at = absurd (let f : false ≡ true = can in cc)
  asked_next (asks.Fetch ask) _ can at = absurd at
  asked_next (asks.Scroll ask) work can at = page_asked p.page p.asked (length p.asked + 1) work at
  asked_next (asks.Reindex ask) (Reindex r) can at = root_one_more at can
  asked_next (asks.Reindex ask) _ can at = absurd at
  asked_next (asks.Slice ask) (Slice s) can at = slice_one_more at can
  asked_next (asks.Slice ask) _ can at = absurd at
  asked_next (asks.Bulk ask) (Bulk b) can at = bulk_one_more at can
  asked_next (asks.Bulk ask) _ can at = absurd at
  asked_next (asks.BulkShard ask) (BulkShard w) can at = absurd (let f : false ≡ true = can in cc)
  asked_next (asks.BulkShard ask) _ can at = absurd at

  pub work_asked : (request : Request) (ask : ℕ) (work after : Work) → after ≡ work_with_ask work ask → can_ask work ask ≡ true → ask ≡ length p.asked + 1 → IsWorkAt task request shards p writes work → IsWorkAt task request shards (progress_with_ask p ask) writes after
  work_asked request ask work after is can next at =
      subst (IsWorkAt task request shards (progress_with_ask p ask) writes) (sym is)
      (subst (λ k. IsWorkAt task request shards (progress_with_ask p k) writes (work_with_ask work k)) (sym next) (asked_next request work (subst (λ k. can_ask work k ≡ true) next can) at))

  -- ---- an answer

  answered_so : (request : Request) (ask : ℕ) (reply : Reply) (now : ℕ) (work : Work) → work_takes work ask reply ≡ true → IsWorkAt task request shards p writes work → IsWorkAt task request shards (progress_with_answer p ask reply now) writes (work_with_answer work ask reply now)
  answered_so (asks.Search of) ask reply now (Search s) takes at = search_answered at ask reply
  answered_so (asks.Search of) ask reply now _ takes at = absurd at
  answered_so (asks.Query of) ask reply now (Query q top) takes at = absurd (let f : false ≡ true = takes in cc)
  answered_so (asks.Query of) ask reply now _ takes at = absurd at
  answered_so (asks.Fetch of) ask reply now (Fetch f hits) takes at = absurd (let f : false ≡ true = takes in cc)
  answered_so (asks.Fetch of) ask reply now _ takes at = absurd at
  answered_so (asks.Scroll of) ask reply now work takes at = page_answered p.page p.asked ask reply now p work at
  answered_so (asks.Reindex of) ask reply now (Reindex r) takes at = root_answered at ask reply now takes
  answered_so (asks.Reindex of) ask reply now _ takes at = absurd at
  answered_so (asks.Slice of) ask reply now (Slice s) takes at = slice_answered at ask reply now takes
  answered_so (asks.Slice of) ask reply now _ takes at = absurd at
  answered_so (asks.Bulk of) ask reply now (Bulk b) takes at = bulk_answered at ask reply takes
  answered_so (asks.Bulk of) ask reply now _ takes at = absurd at
  answered_so (asks.BulkShard of) ask reply now (BulkShard w) takes at = absurd (let f : false ≡ true = takes in cc)
  answered_so (asks.BulkShard of) ask reply now _ takes at = absurd at

  pub work_answered : (request : Request) (ask : ℕ) (reply : Reply) (now : ℕ) (work after : Work) → after ≡ work_with_answer work ask reply now → work_takes work ask reply ≡ true → IsWorkAt task request shards p writes work
      → IsWorkAt task request shards (progress_with_answer p ask reply now) writes after
  work_answered request ask reply now work after is takes at = subst (IsWorkAt task request shards (progress_with_answer p ask reply now) writes) (sym is) (answered_so request ask reply now work takes at)

  -- ---- a turn

  page_turned : (page : Option Context) (asked : List Asked) (work : Work) → IsPageAt page asked work → IsPageAt page asked (with_turn work writes)
  page_turned (Some c) asked (Scroll s) at = at
  page_turned (Some c) asked _ at = absurd at
  page_turned None asked work at = absurd at

  -- what looks at its shard writes nothing there
  looked_on : (P : List Doc → Type 0) → P writes → P (writes ++ [])
  looked_on P = subst P (sym (append-nil writes))

  turned_so : (request : Request) (work : Work) → IsWorkAt task request shards p writes work → IsWorkAt task request shards (progress_with_turn p writes (work_notes work writes)) (writes ++ docs_next work) (with_turn work writes)
  turned_so (asks.Search ask) (Search s) at = at
  turned_so (asks.Search ask) _ at = absurd at
  turned_so (asks.Query ask) (Query q top) at = looked_on (λ later. IsQueryWork ask (progress_with_turn p writes []) later (with_turn (Query q top) writes)) (query_turned at.0, refl)
  turned_so (asks.Query ask) _ at = absurd at
  turned_so (asks.Fetch ask) (Fetch f hits) at = looked_on (λ later. IsFetchWork ask (progress_with_turn p writes []) later (with_turn (Fetch f hits) writes)) (fetch_turned at.0, refl)
  turned_so (asks.Fetch ask) _ at = absurd at
  turned_so (asks.Scroll ask) work at = page_turned p.page p.asked work at
  turned_so (asks.Reindex ask) (Reindex r) at = at
  turned_so (asks.Reindex ask) _ at = absurd at
  turned_so (asks.Slice ask) (Slice s) at = at
  turned_so (asks.Slice ask) _ at = absurd at
  turned_so (asks.Bulk ask) (Bulk b) at = at
  turned_so (asks.Bulk ask) _ at = absurd at
  turned_so (asks.BulkShard ask) (BulkShard w) at = writing_turned at writes
  turned_so (asks.BulkShard ask) _ at = absurd at

  pub work_turned : (request : Request) (work after : Work) (later : List Doc) → after ≡ with_turn work writes → later ≡ writes ++ docs_next work → IsWorkAt task request shards p writes work
      → IsWorkAt task request shards (progress_with_turn p writes (work_notes work writes)) later after
  work_turned request work after later is written at =
      subst (λ docs. IsWorkAt task request shards (progress_with_turn p writes (work_notes work writes)) docs after) (sym written)
      (subst (IsWorkAt task request shards (progress_with_turn p writes (work_notes work writes)) (writes ++ docs_next work)) (sym is) (turned_so request work at))

-- ---- what follows for the answers of a work

-- what it does next is planned, where it is what its machine does
pub does_planned : (cluster : Cluster) (corpus : Corpus) (task : TaskId) (request : Request) (p : Progress) (now : ℕ) (work : Work) (result : Result Do AllocError)
    → ((docs : List Doc) → IsWorkOn work docs → IfOk result (λ step. step ≡ next_of work docs now))
    → IsWorkAt task request cluster.shards p (writes_of_request cluster corpus request) work → IfOk result (λ step. step ≡ plan_of cluster corpus task request p now)
does_planned cluster corpus task request p now work (Ok step) does at =
    does (writes_of_request cluster corpus request) (work_on task cluster.shards request p _ work at) ∙ sym (work_plans cluster corpus task request p now work at)
does_planned cluster corpus task request p now work (Err e) does at = tt

-- what it tells of it is planned too
pub tells_planned : {X : Type 0} (tell : Do → X) (cluster : Cluster) (corpus : Corpus) (task : TaskId) (request : Request) (p : Progress) (now : ℕ) (work : Work) (result : X)
    → ((docs : List Doc) → result ≡ tell (next_of work docs now)) → IsWorkAt task request cluster.shards p (writes_of_request cluster corpus request) work → result ≡ tell (plan_of cluster corpus task request p now)
tells_planned tell cluster corpus task request p now work result tells at = tells (writes_of_request cluster corpus request) ∙ ap tell (sym (work_plans cluster corpus task request p now work at))

module _ {T E : Type 0} (task : TaskId) (shards : ℕ) (p : Progress) (writes : List Doc) (request : Request) (work after : Work) where
  pub answered_ok : (result : Result T E) (ask : ℕ) (reply : Reply) (now : ℕ) → OnOk result (after ≡ work_with_answer work ask reply now) → work_takes work ask reply ≡ true → IsWorkAt task request shards p writes work
      → OnOk result (IsWorkAt task request shards (progress_with_answer p ask reply now) writes after)
  answered_ok result ask reply now is takes at = on_ok_weaker result (λ same. work_answered task shards p writes request ask reply now work after same takes at) is

  pub turned_ok : (result : Result T E) (later : List Doc) → OnOk result (after ≡ with_turn work writes) → OnOk result (later ≡ writes ++ docs_next work) → IsWorkAt task request shards p writes work
      → OnOk result (IsWorkAt task request shards (progress_with_turn p writes (work_notes work writes)) later after)
  turned_ok (Ok x) later is written at = work_turned task shards p writes request work after later is written at
  turned_ok (Err e) later is written at = tt
