-- The work of live tasks reads no version of a shard below those from which on all reads are.
use Rattle.std.proofs.Common.{◌≡◌, ◌≤◌, ℕ, zero, suc, ◌+◌, Bool, true, false, List, [], length, map, get_or, Option, Some, None, refl, sym, ap, subst, ◌∙◌, arith}
use Rattle.std.specs.Prelude.{is_some, slice_get, option_map}
use Rattle.std.specs.List.{AllByRecursion, range_with_len}
use Rattle.std.specs.Option.{option_or, option_map_or}
use Rattle.task_ids.specs.declared.task_id.TaskId.{TaskId}
use Rattle.task_ids.specs.declared.cluster.Cluster.{Cluster}
use Rattle.task_ids.specs.declared.corpus.Corpus.{Corpus}
use Rattle.task_table.specs.Table.{Table}
use Rattle.task_events.specs.declared.context.Context.{Context}
use Rattle.task_events.specs.declared.event.Event.{Event}
use Rattle.task_events.specs.declared.reading.ShardRead.TheVariants.{Newest, Kept}
use Rattle.task_events.specs.declared.reply.Reply.TheVariants.{Top}
use Rattle.task_events.specs.declared.reply.ShardTop.{ShardTop}
use Rattle.task_events.specs.declared.request.FetchAsk.{FetchAsk}
use Rattle.task_events.specs.declared.request.Request.{Request}
use Rattle.task_events.specs.declared.request.Request.TheVariants as asks
use Rattle.task_events.specs.declared.request.ShardAsk.{ShardAsk}
use Rattle.task_events.specs.declared.step.Asked.{Asked}
use Rattle.task_events.specs.Asks.{answer_of, is_unanswered, request_of_ask}
use Rattle.task_events.specs.Contexts.{page_of}
use Rattle.task_events.specs.Kind.{Progress}
use Rattle.task_events.specs.Readings.{Reading, search_reading, page_reading, shard_read}
use Rattle.task_events.specs.Requests.{request_of}
use Rattle.task_events.specs.Searches.{query_of, requests_of}
use Rattle.task_events.specs.Steps.{asked_by, before_first_turn}
use Rattle.task_events.specs.Tasks.{is_live, is_new, parent_of, ask_of}
use Rattle.task_laws.proofs.Asks.{AskFacts, ask_facts, child_unanswered, parent_live}
use Rattle.search_phase.specs.Searching.{Searching}
use Rattle.search_phase.proofs.Lookups.{slice_get-take}
use Rattle.search_phase.proofs.QueryTops.{answer_of_top}
use Rattle.search_phase.proofs.Requests.{request_of_query, slice_get_below}
use Rattle.reindex.specs.declared.root.ReindexRoot.TheVariants.{Alone, Cut}
use Rattle.reindex.specs.Bulks.{bulk_takes}
use Rattle.reindex.specs.Roots.{cut_takes}
use Rattle.reindex.specs.Slices.{slice_takes}
use Rattle.task_work.specs.declared.work.Work.{Work}
use Rattle.task_work.specs.declared.work.Work.TheVariants as works
use Rattle.task_work.specs.Works.{place_of}
use Rattle.node_parts.specs.declared.running.Running.{Running}
use Rattle.script_lang.specs.declared.command.Script.{Script}
use Rattle.command_roots.specs.Roots.{command_at, scripted}
use Rattle.world_moves.specs.declared.flight.Sent.{Sent}
use Rattle.world_moves.specs.declared.state.State.{State}
use Rattle.world_moves.specs.Facts.{facts_of, awaited_by, requested_by}
use Rattle.world_moves.specs.Good.{so_far, written}
use Rattle.world_moves.specs.Plain.{read_by}
use Rattle.world_moves.specs.Reads.{Oldest, KeepsFrom, ReadsFrom, WorkReadsFrom}
use Rattle.world_moves.specs.SearchRuns.{SearchesFor, RunsPage}
use Rattle.world_moves.specs.Ties.{Ties, WorksFor, IsTied, progress_from, task_at, version_from}
use Rattle.world_moves.proofs.AsksCounted.{awaited_at, requested_at}
use Rattle.world_moves.proofs.AsksFor.{answer_told}
use Rattle.task_ids.proofs.Each.{all_mapped, all_placed}
use Rattle.world_moves.proofs.Children.{child_request}
use Rattle.world_moves.proofs.KindLaws.{asks_something}
use Rattle.world_moves.proofs.NoParts.{LooksAtShard, root_asks, asks_no_shard, slice_takes_none, cut_takes_none, bulk_takes_none}
use Rattle.world_moves.proofs.PlainEnds.{numbered_at}
use Rattle.world_moves.proofs.PlanReads.{RequestReadsFrom, IsReadFrom, TopsFrom, take_at, plan_from}
use Rattle.world_moves.proofs.RequestsWithin.{by_command}
use Rattle.world_moves.proofs.StepsAfter.{kept_running, kept_some}

-- what looks at no shard reads none
reads_none : (oldest : Oldest) (q : Request) → (LooksAtShard q → ⊥) → RequestReadsFrom oldest q
reads_none oldest (asks.Query ask) none = absurd (none tt)
reads_none oldest (asks.Fetch ask) none = absurd (none tt)
reads_none oldest (asks.Search ask) none = tt
reads_none oldest (asks.Scroll ask) none = tt
reads_none oldest (asks.Reindex ask) none = tt
reads_none oldest (asks.Slice ask) none = tt
reads_none oldest (asks.Bulk ask) none = tt
reads_none oldest (asks.BulkShard ask) none = tt

-- a search reads its shards as they are
pub newest_from : (oldest : Oldest) (r : Reading) (shards : List ℕ) → AllByRecursion (IsReadFrom oldest r) (map Newest shards)
newest_from oldest r shards = all_mapped (IsReadFrom oldest r) Newest shards (all_placed (λ shard. IsReadFrom oldest r (Newest shard)) shards (λ i shard at v e. absurd (cc)))

-- and a page as its context keeps them
pub kept_from : (oldest : Oldest) (c : Context) → KeepsFrom oldest c → AllByRecursion (IsReadFrom oldest (page_reading c)) (map Kept c.shards)
kept_from oldest c keeps =
    all_mapped (IsReadFrom oldest (page_reading c)) Kept c.shards
    (all_placed (λ n. IsReadFrom oldest (page_reading c) (Kept n)) c.shards (λ i n at v e. let same : n.version ≡ v = cc in subst (λ v. oldest c.ask.index n.shard ≤ v) same (keeps i n at)))

module _ (cluster : Cluster) (corpus : Corpus) (script : Script) (h : List Event) (tasks : TaskId → Option Running) (tables : List Table) (flight : List Sent) (ties : Ties cluster corpus script h tasks tables flight)
    (oldest : Oldest) (reads : ReadsFrom oldest cluster corpus script h) where
  abbrev look : List Event → Corpus
  look = so_far corpus script

  facts : AskFacts h
  facts = ask_facts cluster h ties.lawful

  -- ---- what a task asks for

  module _ (p : TaskId) (live : is_live p h ≡ true) where
    module _ (r : Reading) (x : SearchesFor cluster (look h) r (asked_by p h) (requested_by p h) (awaited_by p h) (record { reading = r; asked = asked_by p h })) where
      pub answers_from : TopsFrom oldest r r.shards (asked_by p h)
      answers_from i at a top here there e =
          let answer = answer_of_top a.answer top e in
          let number : a.ask ≡ i + 1 = let n = numbered_at 1 (asked_by p h) x.numbered i a there in omega (arith, n) in
          let told : answer_of p (i + 1) h ≡ Some (Top top) = ap (λ k. answer_of p k h) (sym number) ∙ answer_told cluster p h ties.lawful i a (Top top) there answer in
          let request : request_of_ask p (i + 1) h ≡ Some (asks.Query (query_of r at)) =
          requested_at cluster p i h ties.lawful
          ∙ ap (λ requests. slice_get requests i) x.planned
          ∙ take_at (length (asked_by p h)) (requests_of r (asked_by p h)) i (slice_get_below (asked_by p h) i a there)
          ∙ request_of_query r (asked_by p h) i at here in
          let says = (x.good i a (asks.Query (query_of r at)) (Top top) there (request_of_query r (asked_by p h) i at here) answer).1 in
          let shard : top.shard ≡ shard_read at = ap (λ (top : ShardTop). top.shard) says.says in
          subst (λ shard. oldest r.ask.index shard ≤ top.version) (sym shard) (reads.tops p (i + 1) (query_of r at) top live request told)

      search_asks : AllByRecursion (IsReadFrom oldest r) r.shards → (i : ℕ) (q : Request) → slice_get (requested_by p h) i ≡ Some q → RequestReadsFrom oldest q
      search_asks shards i q at =
          plan_from oldest r (asked_by p h) shards answers_from i q
          (slice_get-take (length (asked_by p h)) i (requests_of r (asked_by p h)) q (ap (λ l. slice_get l i) (sym x.planned) ∙ at)).0

    whole : (r : Reading) (s : Searching) → SearchesFor cluster (look h) r (asked_by p h) (requested_by p h) (awaited_by p h) s
        → SearchesFor cluster (look h) r (asked_by p h) (requested_by p h) (awaited_by p h) (record { reading = r; asked = asked_by p h })
    whole r s x = subst (SearchesFor cluster (look h) r (asked_by p h) (requested_by p h) (awaited_by p h)) x.state_is x

    -- the ask that is awaited
    module _ (i : ℕ) (q : Request) (at : slice_get (requested_by p h) i ≡ Some q) (waits : is_some (get_or (awaited_by p h) i None) ≡ true) where
      page_asks : (id : TaskId) (new : Bool) (page : Option Context) (w : Work) → page_of (scripted script) p h ≡ page → RunsPage cluster (look h) id new page (asked_by p h) (requested_by p h) (awaited_by p h) w → RequestReadsFrom oldest q
      page_asks id new None w is x = absurd (let f : None ≡ Some q = ap (λ requests. slice_get requests i) (sym x.2) ∙ at in cc)
      page_asks id new (Some c) (works.Scroll s) is x = search_asks (page_reading c) (whole (page_reading c) s x.1) (kept_from oldest c (reads.pages p c live is)) i q at
      page_asks id new (Some c) _ is x = absurd x

      -- by its kind
      kind_asks : (new : Bool) (progress : Progress) (o : Option Request) (w : Work) → progress.asked ≡ asked_by p h → progress.page ≡ page_of (scripted script) p h
          → WorksFor cluster (look h) p new progress (requested_by p h) (awaited_by p h) o w → RequestReadsFrom oldest q
      kind_asks new progress None w asked page x = absurd x
      kind_asks new progress (Some (asks.Search ask)) (works.Search s) asked page x =
          let r : Reading = search_reading p ask cluster.shards in
          search_asks r (whole r s (subst (λ xs. SearchesFor cluster (look h) r xs (requested_by p h) (awaited_by p h) s) asked x)) (newest_from oldest r (range_with_len 0 cluster.shards)) i q at
      kind_asks new progress (Some (asks.Scroll ask)) w asked page x = page_asks ask.id new progress.page w (sym page) (subst (λ xs. RunsPage cluster (look h) ask.id new progress.page xs (requested_by p h) (awaited_by p h) w) asked x)
      kind_asks new progress (Some (asks.Query ask)) (works.Query s top) asked page x = absurd (asks_something (awaited_by p h) i waits x.asks_nothing)
      kind_asks new progress (Some (asks.Fetch ask)) (works.Fetch s hits) asked page x = absurd (asks_something (awaited_by p h) i waits x.asks_nothing)
      kind_asks new progress (Some (asks.BulkShard ask)) (works.BulkShard s) asked page x = absurd (asks_something (awaited_by p h) i waits x.asks_nothing)
      kind_asks new progress (Some (asks.Reindex ask)) (works.Reindex (Alone s)) asked page x =
          reads_none oldest q (asks_no_shard cluster.shards (slice_takes s) progress.asked (requested_by p h) (awaited_by p h) x.1.knows (slice_takes_none s) i q at waits)
      kind_asks new progress (Some (asks.Reindex ask)) (works.Reindex (Cut c)) asked page x =
          reads_none oldest q (asks_no_shard cluster.shards (cut_takes c) progress.asked (requested_by p h) (awaited_by p h) x.1.knows (cut_takes_none c) i q at waits)
      kind_asks new progress (Some (asks.Slice ask)) (works.Slice s) asked page x =
          reads_none oldest q (asks_no_shard cluster.shards (slice_takes s) progress.asked (requested_by p h) (awaited_by p h) x.knows (slice_takes_none s) i q at waits)
      kind_asks new progress (Some (asks.Bulk ask)) (works.Bulk b) asked page x =
          reads_none oldest q (asks_no_shard cluster.shards (bulk_takes b) progress.asked (requested_by p h) (awaited_by p h) x.knows (bulk_takes_none b) i q at waits)
      kind_asks new progress (Some (asks.Search ask)) _ asked page x = absurd x
      kind_asks new progress (Some (asks.Query ask)) _ asked page x = absurd x
      kind_asks new progress (Some (asks.Fetch ask)) _ asked page x = absurd x
      kind_asks new progress (Some (asks.BulkShard ask)) _ asked page x = absurd x
      kind_asks new progress (Some (asks.Reindex ask)) _ asked page x = absurd x
      kind_asks new progress (Some (asks.Slice ask)) _ asked page x = absurd x
      kind_asks new progress (Some (asks.Bulk ask)) _ asked page x = absurd x

      awaited_above : RequestReadsFrom oldest q
      awaited_above =
          let running = kept_some cluster corpus script h tasks tables flight ties p live in
          let runs = kept_running cluster corpus script h tasks tables flight ties p live running.0 running.1 in
          kind_asks (is_new p h) (progress_from cluster look (facts_of (scripted script) p h)) (request_of (scripted script) p h) running.0.work refl refl runs.works

    -- what is asked for and not answered, by the number of the ask
    pub open_above : (k : ℕ) (q : Request) → is_unanswered p k h ≡ true → request_of_ask p k h ≡ Some q → RequestReadsFrom oldest q
    open_above zero q waits asked = absurd (let f : false ≡ true = sym (facts.first_ask p) ∙ waits in cc)
    open_above (suc i) q waits asked =
        let number : suc i ≡ i + 1 = omega arith in
        awaited_above i q (sym (requested_at cluster p i h ties.lawful) ∙ ap (λ k. request_of_ask p k h) (sym number) ∙ asked) (sym (awaited_at cluster p i h ties.lawful) ∙ ap (λ k. is_unanswered p k h) (sym number) ∙ waits)

  -- ---- what a live task was asked for

  module _ (t : TaskId) (live : is_live t h ≡ true) where
    pub request_above : (q : Request) → request_of (scripted script) t h ≡ Some q → RequestReadsFrom oldest q
    request_above q asked = by_parent (parent_of t h) refl
      where
        by_parent : (o : Option TaskId) → parent_of t h ≡ o → RequestReadsFrom oldest q
        by_parent (Some p) e = open_above p (parent_live t p h facts e live) (ask_of t h) q (child_unanswered t p h facts e live) (sym (child_request cluster (scripted script) t p h ties.lawful e) ∙ asked)
        by_parent None e = let root = by_command (scripted script) t h q e asked in reads_none oldest q (root_asks (command_at script root.0) root.1 q root.2)

    -- the version that it names, or else what its shard had before its first turn
    module _ (ask : ShardAsk) (asked : request_of (scripted script) t h ≡ Some (asks.Query ask)) where
      begun_above : (o : Option (List Event)) (v : ℕ) → before_first_turn t h ≡ o → option_map (λ past. length (written cluster (look past) ask.index ask.shard)) o ≡ Some v → oldest ask.index ask.shard ≤ v
      begun_above None v e is = absurd (cc)
      begun_above (Some past) v e is = let same : length (written cluster (look past) ask.index ask.shard) ≡ v = cc in subst (λ v. oldest ask.index ask.shard ≤ v) same (reads.begun t ask past live asked e)

      pub query_above : (v : ℕ) → option_or ask.version (read_by cluster look ask.index ask.shard t h) ≡ Some v → oldest ask.index ask.shard ≤ v
      query_above v is = by_version ask.version refl is
        where
          by_version : (o : Option ℕ) → ask.version ≡ o → option_or o (read_by cluster look ask.index ask.shard t h) ≡ Some v → oldest ask.index ask.shard ≤ v
          by_version (Some w) e is = request_above (asks.Query ask) asked v (e ∙ is)
          by_version None e is = begun_above (before_first_turn t h) v refl is

    -- ---- its work

    abbrev placed_index : Option (List ℕ × ℕ) → List ℕ
    placed_index o = option_map_or (λ place. place.0) o []

    abbrev placed_shard : Option (List ℕ × ℕ) → ℕ
    placed_shard o = option_map_or (λ place. place.1) o 0

    module _ (index : List ℕ) (shard : ℕ) where
      -- a page looks at no shard
      page_above : (id : TaskId) (page : Option Context) (asked : List Asked) (w : Work) → RunsPage cluster (look h) id false page asked (requested_by t h) (awaited_by t h) w → WorkReadsFrom (oldest index shard) w
      page_above id (Some c) asked (works.Scroll s) x = tt
      page_above id None asked w x = absurd (let f : false ≡ true = x.0 in cc)
      page_above id (Some c) asked _ x = absurd x

      kind_above : (progress : Progress) (o : Option Request) (w : Work) → progress.version ≡ version_from cluster look o (before_first_turn t h) → request_of (scripted script) t h ≡ o
          → WorksFor cluster (look h) t false progress (requested_by t h) (awaited_by t h) o w → place_of w ≡ Some (index, shard) → WorkReadsFrom (oldest index shard) w
      kind_above progress None w began asked x place = absurd x
      kind_above progress (Some (asks.Query ask)) (works.Query q top) began asked x place = λ v is.
          let own_index : ask.index ≡ index = ap (λ (a : ShardAsk). a.index) (sym x.here.ask_is) ∙ ap placed_index place in
          let own_shard : ask.shard ≡ shard = ap (λ (a : ShardAsk). a.shard) (sym x.here.ask_is) ∙ ap placed_shard place in
          subst (λ i. oldest i shard ≤ v) own_index (subst (λ n. oldest ask.index n ≤ v) own_shard
          (query_above ask asked v (ap (option_or ask.version) (sym began) ∙ sym x.here.version_is ∙ is)))
      kind_above progress (Some (asks.Fetch ask)) (works.Fetch f hits) began asked x place =
          let own_index : ask.index ≡ index = ap (λ (a : FetchAsk). a.index) (sym x.here.ask_is) ∙ ap placed_index place in
          let own_shard : ask.shard ≡ shard = ap (λ (a : FetchAsk). a.shard) (sym x.here.ask_is) ∙ ap placed_shard place in
          subst (λ (a : FetchAsk). oldest index shard ≤ a.version) (sym x.here.ask_is) (subst (λ i. oldest i shard ≤ ask.version) own_index (subst (λ n. oldest ask.index n ≤ ask.version) own_shard
          (request_above (asks.Fetch ask) asked)))
      kind_above progress (Some (asks.Search ask)) (works.Search s) began asked x place = tt
      kind_above progress (Some (asks.Scroll ask)) w began asked x place = page_above ask.id progress.page progress.asked w x
      kind_above progress (Some (asks.Reindex ask)) (works.Reindex s) began asked x place = tt
      kind_above progress (Some (asks.Slice ask)) (works.Slice s) began asked x place = tt
      kind_above progress (Some (asks.Bulk ask)) (works.Bulk s) began asked x place = tt
      kind_above progress (Some (asks.BulkShard ask)) (works.BulkShard s) began asked x place = tt
      kind_above progress (Some (asks.Search ask)) _ began asked x place = absurd x
      kind_above progress (Some (asks.Query ask)) _ began asked x place = absurd x
      kind_above progress (Some (asks.Fetch ask)) _ began asked x place = absurd x
      kind_above progress (Some (asks.Reindex ask)) _ began asked x place = absurd x
      kind_above progress (Some (asks.Slice ask)) _ began asked x place = absurd x
      kind_above progress (Some (asks.Bulk ask)) _ began asked x place = absurd x
      kind_above progress (Some (asks.BulkShard ask)) _ began asked x place = absurd x

      pub work_above : is_new t h ≡ false → (r : Running) → tasks t ≡ Some r → place_of r.work ≡ Some (index, shard) → WorkReadsFrom (oldest index shard) r.work
      work_above passed r here place =
          let runs = kept_running cluster corpus script h tasks tables flight ties t live r here in
          let progress : Progress = progress_from cluster look (facts_of (scripted script) t h) in
          kind_above progress (request_of (scripted script) t h) r.work refl refl
          (subst (λ new. WorksFor cluster (look h) t new progress (requested_by t h) (awaited_by t h) (request_of (scripted script) t h) r.work) passed runs.works) place

-- so it is in a state that is tied
module _ (s : State) (tied : IsTied s) (t : TaskId) (live : is_live t s.history ≡ true) where
  -- and with its work
  pub work_reads : is_new t s.history ≡ false → (r : Running) → task_at s.tasks t ≡ Some r → (index : List ℕ) (shard : ℕ) → place_of r.work ≡ Some (index, shard) → WorkReadsFrom (tied.oldest index shard) r.work
  work_reads passed r here index shard = work_above s.cluster s.corpus.now s.script.now s.history (task_at s.tasks) s.tables.items s.flight tied.ties tied.oldest tied.reads t live index shard passed r here
