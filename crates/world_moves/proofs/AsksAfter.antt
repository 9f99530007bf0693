-- The tables fit the past after an ask, where they are changed as it says.
use Rattle.std.proofs.Common.{◌≡◌, ◌⊎◌, ◌≤◌, ◌<◌, ℕ, ◌+◌, Bool, true, false, List, [], ◌∷◌, ◌++◌, length, Option, Some, None, refl, sym, ap, subst, ◌∙◌, inl, inr, arith}
use Rattle.std.specs.List.{AllByRecursion}
use Rattle.std.proofs.lemmas.Bool.{cases_lt}
use Rattle.std.proofs.lemmas.List.{map-append}
use Rattle.task_ids.specs.declared.task_id.TaskId.{TaskId}
use Rattle.task_ids.specs.declared.task_info.Headers.{Headers}
use Rattle.task_ids.specs.declared.cluster.Cluster.{Cluster}
use Rattle.task_ids.specs.declared.corpus.Corpus.{Corpus}
use Rattle.child_track.specs.Token.{Token}
use Rattle.child_track.specs.Track.{with_ask}
use Rattle.task_table.specs.Table.{Table}
use Rattle.task_events.specs.declared.request.Request.{Request}
use Rattle.task_events.specs.declared.reply.Reply.{Reply}
use Rattle.task_events.specs.declared.event.Event.{Event}
use Rattle.task_events.specs.declared.event.Event.TheVariants.{Ask}
use Rattle.task_events.specs.Same.{same_task, same_pair}
use Rattle.task_events.specs.Tasks.{is_live, is_new, child_of}
use Rattle.task_events.specs.Asks.{last_ask, request_of_ask, rejection_of, answer_of}
use Rattle.task_events.specs.Requests.{request_of}
use Rattle.task_events.specs.Kind.{Progress}
use Rattle.task_events.specs.Steps.{asked_by, came_by}
use Rattle.task_events.specs.Kinds.{kind_of, node_for}
use Rattle.task_ids.specs.Placing.{node_of}
use Rattle.std.specs.Option.{option_map_or}
use Rattle.world_moves.proofs.AllKinds.{passed_laws}
use Rattle.world_moves.proofs.KindLaws.{Asks}
use Rattle.task_events.specs.Messages.{Message, in_flight}
use Rattle.task_events.specs.Messages.Message.{Request as a_request, Answer as an_answer, Ban as a_ban}
use Rattle.task_events.specs.Laws.{IsTold}
use Rattle.task_events.specs.Lawful.{AwaitsNoMark, Lawful}
use Rattle.task_events.specs.Bans.{mark_of}
use Rattle.task_laws.proofs.Same.{same_tests}
use Rattle.task_laws.proofs.Asks.{AskFacts, ask_facts}
use Rattle.task_laws.proofs.Content.{AnswerFacts, answer_facts, told}
use Rattle.task_laws.proofs.Reach.{reach_facts}
use Rattle.task_work.specs.Works.{can_ask, work_with_ask}
use Rattle.script_lang.specs.declared.command.Script.{Script}
use Rattle.world_moves.specs.declared.flight.Sent.{Sent}
use Rattle.world_moves.specs.declared.flight.Sent.TheVariants as sent
use Rattle.node_parts.specs.declared.running.Running.{Running}
use Rattle.node_parts.specs.Running.{PlansToAsk, next_number, running_with_ask}
use Rattle.world_moves.specs.Facts.{facts_of, awaited_by, requested_by}
use Rattle.world_moves.specs.Flights.{message_of}
use Rattle.command_roots.specs.Roots.{scripted}
use Rattle.world_moves.specs.Owning.{MayAskOwn}
use Rattle.world_moves.specs.Ties.{Ties, RunsAt, WorksFor, IsGood, progress_from}
use Rattle.world_moves.specs.Good.{IsGoodReply, IsWithin}
use Rattle.world_moves.proofs.FactsAfter.{at_ask}
use Rattle.world_moves.proofs.FlightAfter.{all_stay, event_newest}
use Rattle.world_moves.proofs.KeptTasks.{kept_after}
use Rattle.world_moves.proofs.NodeTablesSame.{listed_same}
use Rattle.world_moves.proofs.ByPlace.{all_push}
use Rattle.world_moves.proofs.AskedOwn.{may_ask_own}
use Rattle.world_moves.proofs.AsksCounted.{awaited_counted}
use Rattle.world_moves.proofs.StepsAfter.{kept_running}
use Rattle.world_moves.specs.Good.{so_far}

-- ---- the node of an ask

node_within : (cluster : Cluster) (t : TaskId) (request : Request) → t.node ≤ cluster.nodes → (1 ≤ node_for cluster t request) × (node_for cluster t request ≤ cluster.nodes)
node_within cluster t request l = on_place (kind_of request).place
  where
    on_place : (o : Option (List ℕ × ℕ)) → (1 ≤ option_map_or (λ place. node_of place.1 cluster.nodes) o t.node) × (option_map_or (λ place. node_of place.1 cluster.nodes) o t.node ≤ cluster.nodes)
    on_place None = (t.node_in_range.0, l)
    on_place (Some place) = let some : 0 < cluster.nodes = cluster.nodes_in_range.0 in (omega arith, omega arith)

-- ---- answers in flight

-- an answer is one to an ask that was made
pub answer_asked : (p : TaskId) (k : ℕ) (h : List Event) → AskFacts h → AnswerFacts h → (reply : Reply) → answer_of p k h ≡ Some reply → k ≤ last_ask p h
answer_asked p k h f g reply e = of_parts (rejection_of p k h) refl (child_of p k h) refl (cases_lt (last_ask p h) k)
  where
    of_parts : (o : Option ℕ) → rejection_of p k h ≡ o → (c : Option TaskId) → child_of p k h ≡ c → (last_ask p h < k) ⊎ (k ≤ last_ask p h) → k ≤ last_ask p h
    of_parts o i c j (inr low) = low
    of_parts (Some n) i c j (inl high) = g.rejected_asked p k n i
    of_parts None i c j (inl high) =
        let none = f.no_child p k high in
        absurd (let x = rw (i, none) at e in cc)

good_on : (cluster : Cluster) (corpus : Corpus) (t : TaskId) (k n : ℕ) (r : Request) (h : List Event) → Lawful cluster h → last_ask t h < k → (ms : List Message)
    → AllByRecursion (λ m. IsTold m h) ms → AllByRecursion (IsGood cluster corpus h) ms → AllByRecursion (IsGood cluster corpus (Ask t k n r ∷ h)) ms
good_on cluster corpus t k n r h l new [] x y = tt
good_on cluster corpus t k n r h l new (an_answer p j reply ∷ ms) x y = (here, good_on cluster corpus t k n r h l new ms x.1 y.1)
  where
    other : same_pair p j t k ≡ false
    other =
        let low : j ≤ last_ask p h = answer_asked p j h (ask_facts cluster h l) (answer_facts cluster h l) reply x.0 in
        grind (arith, same_tests)

    here : (r' : Request) → request_of_ask p j (Ask t k n r ∷ h) ≡ Some r' → IsGoodReply cluster corpus r' reply
    here r' e = y.0 r' (let f : request_of_ask p j h ≡ Some r' = rw other at e in f)
good_on cluster corpus t k n r h l new (a_ban p c m ∷ ms) x y = (y.0, good_on cluster corpus t k n r h l new ms x.1 y.1)
good_on cluster corpus t k n r h l new (_ ∷ ms) x y = (tt, good_on cluster corpus t k n r h l new ms x.1 y.1)

-- ---- the ask

module _ (cluster : Cluster) (corpus : Corpus) (script : Script) (h : List Event) (tasks : TaskId → Option Running) (tables : List Table) (flight : List Sent) (ties : Ties cluster corpus script h tasks tables flight) (t : TaskId) (request : Request) (live : is_live t h ≡ true) where
  pub node_of_request : (1 ≤ node_for cluster t request) × (node_for cluster t request ≤ cluster.nodes)
  node_of_request = node_within cluster t request ((reach_facts cluster h ties.lawful).live_in t live)

  module _ (passed : is_new t h ≡ false) (now : ℕ) (r : Running) (here : tasks t ≡ Some r) (planned : PlansToAsk (Some r) now request) where
    abbrev progress : Progress
    progress = progress_from cluster (so_far corpus script) (facts_of (scripted script) t h)

    -- with one ask more
    abbrev progress_with : ℕ → Progress
    progress_with k = record progress { asked = asked_by t h ++ record { ask = k; answer = None } ∷ []; came = came_by t h ++ 0 ∷ [] }

    runs : RunsAt cluster (so_far corpus script) h t (facts_of (scripted script) t h) r
    runs = kept_running cluster corpus script h tasks tables flight ties t live r here

    asks_it : Asks cluster (so_far corpus script h) t progress (requested_by t h) (awaited_by t h) (request_of (scripted script) t h) r.work request
    asks_it = (passed_laws cluster (so_far corpus script) h t (facts_of (scripted script) t h) r passed runs).asks request now planned

    track_asks : length r.track.asks ≡ length (awaited_by t h)
    track_asks = ap (λ z. length z.asks) runs.track

    pub number_is : next_number r ≡ last_ask t h + 1
    number_is = ap (λ m. m + 1) (track_asks ∙ awaited_counted cluster t h ties.lawful)

    pub few_asks : next_number r < 4294967296
    few_asks = let few = asks_it.few in let same = track_asks in omega arith

    pub track_open : mark_of t h ≡ None → r.track.closed ≡ None
    track_open unmarked = ap (λ z. z.closed) runs.track ∙ unmarked

    pub track_of : r.track.task ≡ t
    track_of = ap (λ z. z.task) runs.track

    pub can_now : can_ask r.work (next_number r) ≡ true
    can_now = ap (λ m. can_ask r.work (m + 1)) track_asks ∙ asks_it.may

    works_on : (n : ℕ) → WorksFor cluster (so_far corpus script h) t (is_new t h) (progress_with (last_ask t h + 1)) (requested_by t h ++ request ∷ []) (awaited_by t h ++ Some n ∷ []) (request_of (scripted script) t h) (work_with_ask r.work (next_number r))
    works_on n =
        let counted : length (awaited_by t h) + 1 ≡ last_ask t h + 1 = ap (λ m. m + 1) (awaited_counted cluster t h ties.lawful) in
        let number : length (awaited_by t h) + 1 ≡ next_number r = ap (λ m. m + 1) (sym track_asks) in
        subst (λ new. WorksFor cluster (so_far corpus script h) t new (progress_with (last_ask t h + 1)) (requested_by t h ++ request ∷ []) (awaited_by t h ++ Some n ∷ []) (request_of (scripted script) t h) (work_with_ask r.work (next_number r))) (sym passed)
        (subst (λ k. WorksFor cluster (so_far corpus script h) t false (progress_with k) (requested_by t h ++ request ∷ []) (awaited_by t h ++ Some n ∷ []) (request_of (scripted script) t h) (work_with_ask r.work (next_number r))) counted
        (subst (λ k. WorksFor cluster (so_far corpus script h) t false (progress_with (length (awaited_by t h) + 1)) (requested_by t h ++ request ∷ []) (awaited_by t h ++ Some n ∷ []) (request_of (scripted script) t h) (work_with_ask r.work k)) number (asks_it.after n)))

    -- what is asked for names what was written
    asked_within : (n : ℕ) (p : TaskId) (k : ℕ) (q : Request) → request_of_ask p k (Ask t (last_ask t h + 1) n request ∷ h) ≡ Some q → IsWithin cluster (so_far corpus script h) q
    asked_within n p k q = by_pair (same_pair p k t (last_ask t h + 1)) refl
      where
        by_pair : (b : Bool) → same_pair p k t (last_ask t h + 1) ≡ b → request_of_ask p k (Ask t (last_ask t h + 1) n request ∷ h) ≡ Some q → IsWithin cluster (so_far corpus script h) q
        by_pair true e asked = subst (IsWithin cluster (so_far corpus script h)) (let same : request ≡ q = (let f = rw e at asked in cc) in same) asks_it.within
        by_pair false e asked = ties.within p k q (rw e at asked)

    -- and what it asks for of contexts is of its own
    pub asked_own : MayAskOwn (scripted script) t request h
    asked_own = may_ask_own cluster corpus script h ties.lawful ties.plain t request asks_it.owns

    pub after_ask : (after : TaskId → Option Running) (n : ℕ) (token : Token) (headers : Headers) → AwaitsNoMark h → mark_of t h ≡ None → n ≡ node_for cluster t request → token ≡ record { parent = t; ask = last_ask t h + 1 }
        → after t ≡ Some (running_with_ask r n) → ((q : TaskId) → same_task t q ≡ false → after q ≡ tasks q)
        → Ties cluster corpus script (Ask t (last_ask t h + 1) n request ∷ h) after tables (flight ++ sent.Request token n (length h) headers ∷ [])
    after_ask after n token headers awaits unmarked node is there others = record {
      lawful = (record { goes_on = record { live = live; passed = passed }; unmarked = unmarked; next = refl; low = rw node node_of_request.0; high = rw node node_of_request.1 }, ties.lawful, awaits);
      kept = kept_after cluster corpus (scripted script) t (Ask t (last_ask t h + 1) n request) h tasks after refl refl ties.kept (rw there (subst (λ facts. RunsAt cluster (so_far corpus script) h t facts (running_with_ask r n)) (sym (at_ask (scripted script) t h (last_ask t h + 1) n request)) asked_on)) others;
      listed = λ place. listed_same cluster (Ask t (last_ask t h + 1) n request) h (λ m. refl) refl place _ (ties.listed place);
      sent =
          map-append (message_of (Ask t (last_ask t h + 1) n request ∷ h)) flight (sent.Request token n (length h) headers ∷ [])
          ∙ (λ i. all_stay (Ask t (last_ask t h + 1) n request) h flight (in_flight h) ties.sent i ++ newest i ∷ [])
          ∙ sym (map-append Some (in_flight h) (a_request t (last_ask t h + 1) n request ∷ []));
      good = all_push (IsGood cluster (so_far corpus script h) (Ask t (last_ask t h + 1) n request ∷ h)) (in_flight h) (a_request t (last_ask t h + 1) n request) (good_on cluster (so_far corpus script h) t (last_ask t h + 1) n request h ties.lawful (omega arith) (in_flight h) (told cluster h ties.lawful) ties.good) tt;
      within = asked_within n;
      plain = ties.plain;
    }
      where
        newest : message_of (Ask t (last_ask t h + 1) n request ∷ h) (sent.Request token n (length h) headers) ≡ Some (a_request t (last_ask t h + 1) n request)
        newest = rw is (rw (event_newest (Ask t (last_ask t h + 1) n request) h) refl)

        asked_on : RunsAt cluster (so_far corpus script) h t (record (facts_of (scripted script) t h) { awaited = awaited_by t h ++ Some n ∷ []; requests = requested_by t h ++ request ∷ []; asked = asked_by t h ++ record { ask = last_ask t h + 1; answer = None } ∷ []; came = came_by t h ++ 0 ∷ [] }) (running_with_ask r n)
        asked_on = record {
          live = runs.live;
          id = runs.id;
          token = runs.token;
          track = ap (λ z. with_ask z n) runs.track;
          page = runs.page;
          new = runs.new;
          headers = runs.headers;
          works = works_on n;
        }
