-- A search that ends replies with the plain answer, and so does a page; a query that ends read its shard in time; and a task that writes replies with what it has counted.
use Rattle.std.proofs.Common.{◌≡◌, ◌+◌, ℕ, zero, suc, true, Bool, false, cond, List, [], ◌∷◌, map, length, Option, Some, None, refl, sym, ap, subst, ◌∙◌, arith}
use Rattle.std.specs.Prelude.{slice_get, is_some}
use Rattle.std.specs.List.{AllByRecursion, range_with_len}
use Rattle.std.specs.Option.{option_or}
use Rattle.std.proofs.lemmas.List.{take_all}
use Rattle.task_ids.specs.declared.task_id.TaskId.{TaskId}
use Rattle.task_ids.specs.declared.cluster.Cluster.{Cluster}
use Rattle.task_ids.specs.declared.corpus.Corpus.{Corpus}
use Rattle.task_ids.specs.declared.doc.Doc.{Doc}
use Rattle.task_table.specs.Table.{Table}
use Rattle.task_events.specs.declared.request.HitKey.{HitKey}
use Rattle.task_events.specs.declared.context.Context.{Context}
use Rattle.task_events.specs.declared.reading.ShardRead.{ShardRead}
use Rattle.task_events.specs.declared.request.Request.{Request}
use Rattle.task_events.specs.declared.request.ReindexAsk.{ReindexAsk}
use Rattle.task_events.specs.declared.request.SliceAsk.{SliceAsk}
use Rattle.task_events.specs.declared.request.BulkAsk.{BulkAsk}
use Rattle.task_events.specs.declared.request.BulkShardAsk.{BulkShardAsk}
use Rattle.task_events.specs.declared.request.Request.TheVariants as asks
use Rattle.task_events.specs.declared.request.ShardAsk.{ShardAsk}
use Rattle.task_events.specs.declared.reply.Counts.{Counts}
use Rattle.task_events.specs.declared.reply.ShardTop.{ShardTop}
use Rattle.task_events.specs.declared.reply.Reply.{Reply}
use Rattle.task_events.specs.declared.reply.Reply.TheVariants.{Wrote}
use Rattle.task_events.specs.declared.event.Event.{Event}
use Rattle.task_events.specs.declared.step.Asked.{Asked}
use Rattle.task_events.specs.declared.step.Do.TheVariants.{Finish}
use Rattle.task_events.specs.Answers.{plain_answer}
use Rattle.task_events.specs.Asks.{answer_of, request_of_ask}
use Rattle.task_events.specs.Contexts.{page_of}
use Rattle.task_events.specs.Documents.{writes_of}
use Rattle.task_events.specs.Kind.{Progress}
use Rattle.task_events.specs.Lawful.{Lawful}
use Rattle.task_events.specs.Readings.{Reading, search_reading, page_reading, shard_read}
use Rattle.task_events.specs.Requests.{request_of}
use Rattle.task_events.specs.Searches.{query_of, tops_in, fetch_of, winners_among, won_tops, has_queried, requests_of}
use Rattle.task_events.specs.ShardOutcomes.{is_query_of, ask_for, answer_for}
use Rattle.task_events.specs.Steps.{asked_by, before_first_turn, counted}
use Rattle.task_events.specs.Tasks.{is_live, is_new}
use Rattle.search_phase.specs.Searching.{Searching, IsHonest, AllHonest, reply_of, next_step, has_ended}
use Rattle.search_phase.proofs.Plain.{answer_of_top, honest_search_is_plain}
use Rattle.search_phase.proofs.Requests.{HasEnded, ended, list_all-slice_get, request_of_query}
use Rattle.reindex.specs.declared.root.ReindexRoot.TheVariants.{Alone, Cut}
use Rattle.reindex.specs.Writing.{writing_counts}
use Rattle.task_work.specs.declared.work.Work.{Work}
use Rattle.task_work.specs.declared.work.Work.TheVariants as works
use Rattle.task_work.specs.Works.{counts_of, next_of}
use Rattle.node_parts.specs.declared.running.Running.{Running}
use Rattle.script_lang.specs.declared.command.Script.{Script}
use Rattle.command_roots.specs.Roots.{scripted}
use Rattle.world_moves.specs.declared.flight.Sent.{Sent}
use Rattle.world_moves.specs.Facts.{facts_of, awaited_by, requested_by}
use Rattle.world_moves.specs.Plain.{EndsPlainly, IsPlainReply, IsPlainPage, ReadsInTime, AnswersPlainly, read_by}
use Rattle.world_moves.specs.QueryRuns.{RunsQuery}
use Rattle.world_moves.specs.BulkRuns.{RunsBulk, RunsPart}
use Rattle.world_moves.specs.ReindexRuns.{RunsReindex, RunsSlice}
use Rattle.world_moves.specs.SearchRuns.{SearchesFor, RunsPage}
use Rattle.world_moves.specs.Ties.{Ties, WorksFor, version_from, progress_from}
use Rattle.world_moves.specs.Good.{so_far, own_writes, writes_for}
use Rattle.world_moves.proofs.AsksCounted.{requested_at}
use Rattle.world_moves.proofs.AsksFor.{asks_first, answer_told, first_at}
use Rattle.task_ids.proofs.Each.{all_here, all_joined}
use Rattle.world_moves.proofs.CountsKept.{counted_so}
use Rattle.world_moves.proofs.LookingLaws.{work_ends}
use Rattle.world_moves.proofs.SearchLaws.{search_ends}
use Rattle.world_moves.proofs.Numbered.{is_searching}
use Rattle.world_moves.proofs.ReadInTime.{version_told, found_in_time}
use Rattle.world_moves.proofs.ShardsTold.{IsAllTold, failed_told, failures_same, query_asked, counts_same}
use Rattle.world_moves.proofs.SliceLaws as slices
use Rattle.world_moves.proofs.StepsAfter.{kept_running}

-- ---- asks

-- an answered ask has its answer
given : (o : Option Reply) → is_some o ≡ true → (reply : Reply) × (o ≡ Some reply)
given None e = absurd (cc)
given (Some reply) e = (reply, refl)

-- asks that are numbered in order
pub numbered_at : (b : ℕ) (xs : List Asked) → map (λ a. a.ask) xs ≡ range_with_len b (length xs) → (i : ℕ) (a : Asked) → slice_get xs i ≡ Some a → a.ask ≡ b + i
numbered_at b [] e i a at = absurd (cc)
numbered_at b (x ∷ xs) e zero a at = let first : x.ask ≡ b = cc in let same : x ≡ a = cc in let here : a.ask ≡ x.ask = ap (λ (y : Asked). y.ask) (sym same) in omega (arith, first, here)
numbered_at b (x ∷ xs) e (suc i) a at = let later = numbered_at (b + 1) xs (cc) i a at in omega (arith, later)

-- ---- what is asked for

all_reads : {X Y : Type 0} (P : Y → Type 0) (f : X → Y) → ((x : X) → P (f x)) → (xs : List X) → AllByRecursion P (map f xs)
all_reads P f each [] = tt
all_reads P f each (x ∷ xs) = (each x, all_reads P f each xs)

module _ (cluster : Cluster) (corpus : Corpus) (r : Reading) (asked : List Asked) where
  abbrev writes : ℕ → List Doc
  writes = writes_of corpus cluster.shards r.ask.index

  -- the request reads the writes of the shards of the search's index
  abbrev ReadsThem : Request → Type 0
  ReadsThem q = writes_for cluster corpus q ≡ writes

  fetches_read : (b : Bool) (won : List HitKey) (tops : List ShardTop) → AllByRecursion ReadsThem (cond b (map asks.Fetch (map (fetch_of r.ask won) tops)) [])
  fetches_read false won tops = tt
  fetches_read true won [] = tt
  fetches_read true won (top ∷ tops) = (refl, fetches_read true won tops)

  all_read : AllByRecursion ReadsThem (requests_of r asked)
  all_read =
      all_joined ReadsThem _ _
      (all_reads ReadsThem (λ at. asks.Query (query_of r at)) (λ at. refl) r.shards)
      (fetches_read (has_queried (length r.shards) asked) (winners_among r.ask.body (tops_in (length r.shards) asked)) (won_tops r.ask.body (tops_in (length r.shards) asked)))

  abbrev state : Searching
  state = record { reading = r; asked = asked }

  module _ (requests : List Request) (awaited : List (Option ℕ)) (x : SearchesFor cluster corpus r asked requests awaited state) where
    honest : AllHonest writes state
    honest place a request reply at wants answered =
        let same : writes_for cluster corpus request ≡ writes = all_here ReadsThem (requests_of r asked) place request all_read wants in
        subst (λ w. IsHonest w request reply) same (x.good place a request reply at wants answered).1

    -- at its end all was asked for
    all_asked : HasEnded state → requests ≡ requests_of r asked
    all_asked end = x.planned ∙ take_all (length asked) (requests_of r asked) end.asked_all

    module _ (end : HasEnded state) (t : TaskId) (h : List Event) (first : (test : Request → Bool) → ask_for test t h ≡ first_at test 1 requests)
        (told : (i : ℕ) (a : Asked) (reply : Reply) → slice_get asked i ≡ Some a → a.answer ≡ Some reply → answer_of t a.ask h ≡ Some reply) where
      answered : (i : ℕ) (a : Asked) → slice_get asked i ≡ Some a → answer_of t (i + 1) h ≡ a.answer
      answered i a at =
          let reply = given a.answer (list_all-slice_get (λ (a : Asked). is_some a.answer) asked i a end.answered at) in
          let place = numbered_at 1 asked x.numbered i a at in
          let number : i + 1 ≡ a.ask = omega (arith, place) in
          ap (λ k. answer_of t k h) number ∙ told i a reply.0 at reply.1 ∙ sym reply.1

      all_told : IsAllTold t h r asked
      all_told = record {
        apart = x.reading_is.apart;
        first = λ test. first test ∙ ap (first_at test 1) (all_asked end);
        answers = answered;
        queried = end.queried;
        as_many = sym x.as_many ∙ ap length (all_asked end);
        shards = cluster.shards;
        possible = λ i a q at wants.
            let reply = given a.answer (list_all-slice_get (λ (a : Asked). is_some a.answer) asked i a end.answered at) in
            (reply.0, reply.1, (x.good i a q reply.0 at wants reply.1).0);
      }

-- ---- the end

module _ (cluster : Cluster) (corpus : Corpus) (script : Script) (h : List Event) (lawful : Lawful cluster h) (plain : AnswersPlainly cluster corpus script h) (t : TaskId) where
  abbrev look : List Event → Corpus
  look = so_far corpus script

  module _ (r : Reading) (x : SearchesFor cluster (look h) r (asked_by t h) (requested_by t h) (awaited_by t h) (state cluster (look h) r (asked_by t h))) (over : has_ended (next_step (state cluster (look h) r (asked_by t h))) ≡ true) where
    abbrev its : Searching
    its = state cluster (look h) r (asked_by t h)

    told : IsAllTold t h r (asked_by t h)
    told = all_told cluster (look h) r (asked_by t h) (requested_by t h) (awaited_by t h) x (ended its over) t h (λ test. asks_first cluster test t h lawful) (answer_told cluster t h lawful)

    -- the ask of a place is for the query of its shard
    query_wanted : (place : ℕ) (at : ShardRead) → slice_get r.shards place ≡ Some at → request_of_ask t (place + 1) h ≡ Some (asks.Query (query_of r at))
    query_wanted place at here =
        requested_at cluster t place h lawful
        ∙ ap (λ requests. slice_get requests place) (all_asked cluster (look h) r (asked_by t h) (requested_by t h) (awaited_by t h) x (ended its over))
        ∙ request_of_query r (asked_by t h) place at here

    replies : IsPlainReply cluster look t r h (reply_of its)
    replies = record {
      answer =
          let writes = writes_of (look h) cluster.shards r.ask.index in
          honest_search_is_plain writes its (is_searching cluster (look h) r (asked_by t h) (requested_by t h) (awaited_by t h) x) over (honest cluster (look h) r (asked_by t h) (requested_by t h) (awaited_by t h) x)
          ∙ (λ i. plain_answer r writes (sym (counts_same t h r (asked_by t h) told writes) i) (sym (failures_same t h r (asked_by t h) told) i));
      version = λ place at top here found.
          found_in_time cluster corpus script t h lawful plain (query_of r at) top (is_query_of (shard_read at)) (place + 1) (query_asked t h r (asked_by t h) told place at here) (query_wanted place at here)
          (answer_of_top (answer_for (is_query_of (shard_read at)) t h) top found);
      failed = failed_told t h r (asked_by t h) told;
    }

  -- of a search or a page over what it reads
  plain_end : (r : Reading) (s : Searching) (end : Reply) → SearchesFor cluster (look h) r (asked_by t h) (requested_by t h) (awaited_by t h) s → next_step s ≡ Finish end → IsPlainReply cluster look t r h end
  plain_end r s end x e =
      let searches = subst (SearchesFor cluster (look h) r (asked_by t h) (requested_by t h) (awaited_by t h)) x.state_is x in
      let ends : next_step (state cluster (look h) r (asked_by t h)) ≡ Finish end = ap next_step (sym x.state_is) ∙ e in
      subst (IsPlainReply cluster look t r h) (sym (search_ends _ _ _ end ends).1) (replies r searches (ap has_ended ends))

  page_end : (id : TaskId) (page : Option Context) (w : Work) (looked : List Doc) (now : ℕ) (end : Reply) → RunsPage cluster (look h) id false page (asked_by t h) (requested_by t h) (awaited_by t h) w → next_of w looked now ≡ Finish end → IsPlainPage cluster look t page h end
  page_end id None w looked now end x e = absurd (let f : false ≡ true = x.0 in cc)
  page_end id (Some c) (works.Scroll s) looked now end x e = plain_end (page_reading c) s end x.1 e
  page_end id (Some c) _ looked now end x e = absurd x

  query_end : (ask : ShardAsk) (version : Option ℕ) (turns : ℕ) (awaited : List (Option ℕ)) (w : Work) (looked : List Doc) (now : ℕ) (end : Reply) → version ≡ read_by cluster look ask.index ask.shard t h
      → RunsQuery cluster (look h) version turns awaited ask w → next_of w looked now ≡ Finish end → ReadsInTime cluster look t ask h end
  query_end ask version turns awaited (works.Query q top) looked now end began x e =
      let found = version_told q looked end x.here.on.version_fixed e in
      subst (λ reply. ReadsInTime cluster look t ask h reply) (sym found.1) (found.2 ∙ x.here.version_is ∙ ap (option_or ask.version) began)
  query_end ask version turns awaited _ looked now end began x e = absurd x

  reindex_end : (ask : ReindexAsk) (asked : List Asked) (came : List ℕ) (w : Work) (looked : List Doc) (now : ℕ) (end : Reply) → RunsReindex cluster.shards t asked came (requested_by t h) (awaited_by t h) ask w
      → next_of w looked now ≡ Finish end → end ≡ Wrote (counts_of w)
  reindex_end ask asked came (works.Reindex (Alone s)) looked now end x e = slices.ends_so cluster (look h) t ask 0 asked came (requested_by t h) (awaited_by t h) s x.1 now end e
  reindex_end ask asked came (works.Reindex (Cut c)) looked now end x e = (search_ends _ _ (Wrote c.counts) end e).1
  reindex_end ask asked came _ looked now end x e = absurd x

  slice_end : (ask : SliceAsk) (asked : List Asked) (came : List ℕ) (w : Work) (looked : List Doc) (now : ℕ) (end : Reply) → RunsSlice cluster.shards t asked came (requested_by t h) (awaited_by t h) ask w
      → next_of w looked now ≡ Finish end → end ≡ Wrote (counts_of w)
  slice_end ask asked came (works.Slice s) looked now end x e = slices.ends_so cluster (look h) t ask.reindex ask.slice asked came (requested_by t h) (awaited_by t h) s x now end e
  slice_end ask asked came _ looked now end x e = absurd x

  bulk_end : (ask : BulkAsk) (asked : List Asked) (w : Work) (looked : List Doc) (now : ℕ) (end : Reply) → RunsBulk cluster.shards asked (requested_by t h) (awaited_by t h) ask w → next_of w looked now ≡ Finish end → end ≡ Wrote (counts_of w)
  bulk_end ask asked (works.Bulk b) looked now end x e = (search_ends _ _ (Wrote b.counts) end e).1
  bulk_end ask asked _ looked now end x e = absurd x

  part_end : (ask : BulkShardAsk) (p : Progress) (w : Work) (looked : List Doc) (now : ℕ) (end : Reply) → RunsPart cluster p (awaited_by t h) ask w → next_of w looked now ≡ Finish end → end ≡ Wrote (counts_of w)
  part_end ask p (works.BulkShard w) looked now end x e = work_ends _ (Wrote (writing_counts w)) end e
  part_end ask p _ looked now end x e = absurd x

  kind_end : (p : Progress) (counts : Counts) (o : Option Request) (w : Work) (looked : List Doc) (now : ℕ) (end : Reply) → p.asked ≡ asked_by t h → p.version ≡ version_from cluster look o (before_first_turn t h)
      → counts ≡ counts_of w → WorksFor cluster (look h) t false p (requested_by t h) (awaited_by t h) o w → next_of w looked now ≡ Finish end → EndsPlainly cluster look t p.page None counts o h end
  kind_end p counts None w looked now end asked began has x e = absurd x
  kind_end p counts (Some (asks.Search ask)) (works.Search s) looked now end asked began has x e =
      let r : Reading = search_reading t ask cluster.shards in
      plain_end r s end (subst (λ xs. SearchesFor cluster (look h) r xs (requested_by t h) (awaited_by t h) s) asked x) e
  kind_end p counts (Some (asks.Scroll ask)) w looked now end asked began has x e = page_end ask.id p.page w looked now end (subst (λ xs. RunsPage cluster (look h) ask.id false p.page xs (requested_by t h) (awaited_by t h) w) asked x) e
  kind_end p counts (Some (asks.Query ask)) w looked now end asked began has x e = query_end ask p.version p.turns (awaited_by t h) w looked now end began x e
  kind_end p counts (Some (asks.Fetch ask)) w looked now end asked began has x e = tt
  kind_end p counts (Some (asks.Reindex ask)) w looked now end asked began has x e = reindex_end ask p.asked p.came w looked now end x e ∙ ap Wrote (sym has)
  kind_end p counts (Some (asks.Slice ask)) w looked now end asked began has x e = slice_end ask p.asked p.came w looked now end x e ∙ ap Wrote (sym has)
  kind_end p counts (Some (asks.Bulk ask)) w looked now end asked began has x e = bulk_end ask p.asked w looked now end x e ∙ ap Wrote (sym has)
  kind_end p counts (Some (asks.BulkShard ask)) w looked now end asked began has x e = part_end ask p w looked now end x e ∙ ap Wrote (sym has)
  kind_end p counts (Some (asks.Search ask)) _ looked now end asked began has x e = absurd x

module _ (cluster : Cluster) (corpus : Corpus) (script : Script) (h : List Event) (tasks : TaskId → Option Running) (tables : List Table) (flight : List Sent) (ties : Ties cluster corpus script h tasks tables flight) where
  pub replies_plainly : (t : TaskId) (now : ℕ) (r : Running) (reply : Reply) → is_live t h ≡ true → is_new t h ≡ false → tasks t ≡ Some r → next_of r.work (own_writes cluster (so_far corpus script h) (request_of (scripted script) t h)) now ≡ Finish reply
      → EndsPlainly cluster (so_far corpus script) t (page_of (scripted script) t h) None (counted cluster corpus (scripted script) t h) (request_of (scripted script) t h) h reply
  replies_plainly t now r reply live passed here step =
      let p : Progress = progress_from cluster (so_far corpus script) (facts_of (scripted script) t h) in
      let works = (kept_running cluster corpus script h tasks tables flight ties t live r here).works in
      kind_end cluster corpus script h ties.lawful ties.plain t p (counted cluster corpus (scripted script) t h) (request_of (scripted script) t h) r.work (own_writes cluster (so_far corpus script h) (request_of (scripted script) t h)) now reply refl refl
      (counted_so cluster corpus script h tasks tables flight ties t live passed r here)
      (subst (λ new. WorksFor cluster (so_far corpus script h) t new p (requested_by t h) (awaited_by t h) (request_of (scripted script) t h) r.work) passed works) step
