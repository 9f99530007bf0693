-- The tables fit the past after a request has reached its node.
use Rattle.std.proofs.Common.{◌≡◌, ◌≤◌, ℕ, true, false, List, [], ◌∷◌, ◌++◌, length, Option, Some, None, refl, sym, ap, ◌∙◌, map, arith}
use Rattle.std.specs.Prelude.{remove, option_map, option_and_then}
use Rattle.std.proofs.lemmas.List.{map-append}
use Rattle.task_ids.specs.declared.task_id.TaskId.{TaskId}
use Rattle.task_ids.specs.declared.task_info.NewTask.{NewTask}
use Rattle.task_ids.specs.declared.task_info.Headers.{Headers}
use Rattle.task_ids.specs.declared.cluster.Cluster.{Cluster}
use Rattle.task_ids.specs.declared.corpus.Corpus.{Corpus}
use Rattle.task_ids.specs.declared.doc.Doc.{Doc}
use Rattle.child_track.specs.Token.{Token}
use Rattle.task_table.specs.Table.{Table}
use Rattle.task_work.specs.Works.{IsWorkOn, IsNewWork}
use Rattle.script_lang.specs.declared.command.Script.{Script}
use Rattle.task_events.specs.declared.reply.Reply.TheVariants.{Rejected}
use Rattle.task_events.specs.declared.context.Context.{Context}
use Rattle.task_events.specs.declared.event.Event.{Event}
use Rattle.task_events.specs.declared.event.Event.TheVariants.{Put, Reject}
use Rattle.task_events.specs.Same.{same_task}
use Rattle.task_events.specs.Tasks.{live_on}
use Rattle.task_events.specs.Asks.{request_of_ask}
use Rattle.task_events.specs.TaskRows.{headers_of}
use Rattle.task_events.specs.Allowed.{TakesSlot}
use Rattle.task_events.specs.Lawful.{AwaitsNoMark}
use Rattle.task_events.specs.Messages.{Message, in_flight}
use Rattle.task_events.specs.Messages.Message.{Request, Answer}
use Rattle.world_moves.specs.declared.flight.Sent.{Sent}
use Rattle.world_moves.specs.declared.flight.Sent.TheVariants as sent
use Rattle.node_parts.specs.declared.running.Running.{Running}
use Rattle.world_moves.specs.Facts.{Facts, facts_of}
use Rattle.world_moves.specs.Flights.{message_of, reply_in}
use Rattle.world_moves.specs.Moves.{Delivers}
use Rattle.command_roots.specs.Roots.{scripted}
use Rattle.world_moves.specs.Ties.{Ties, IsGood}
use Rattle.world_moves.proofs.AllKinds.{good_rejection}
use Rattle.world_moves.proofs.RequestsInFlight.{Arrives}
use Rattle.world_moves.proofs.FactsAfter.{at_put}
use Rattle.world_moves.proofs.FlightAfter.{all_stay, event_newest}
use Rattle.world_moves.proofs.KeptTasks.{kept_after, kept_same}
use Rattle.world_moves.proofs.NodeTablesSame.{listed_same}
use Rattle.world_moves.proofs.ByPlace.{pairs_left, all_left, all_push}
use Rattle.world_moves.proofs.FirstRuns.{started, first, runs_first}
use Rattle.world_moves.proofs.PassedWorks.{put_works}
use Rattle.world_moves.proofs.Tables.{IsPutOn, put_node, put_takes, put_listed}
use Rattle.world_moves.proofs.UnbornTasks.{blank, unborn}
use Rattle.world_moves.specs.Good.{so_far}

-- the answer to a request that is rejected by an event at this place
abbrev pub rejected : Token → ℕ → Sent
rejected token at = sent.Answer (record { task = None; parent = Some token.parent; ask = token.ask }) at

module _ (cluster : Cluster) (corpus : Corpus) (script : Script) (h : List Event) (tasks : TaskId → Option Running) (tables : List Table) (flight : List Sent) (ties : Ties cluster corpus script h tasks tables flight) (awaits : AwaitsNoMark h) (nth : ℕ) (token : Token) (to at : ℕ) (arrives : Arrives cluster h nth token to at) where
  -- the child takes a slot
  module _ (t : TaskId) (task : NewTask) (after : List Table) (put : IsPutOn tables to t task after) where
    node_is : t.node ≡ to
    node_is = put_node cluster h tables ties.listed to arrives.low arrives.high t task after put

    pub delivers_put : Delivers cluster h nth (Put t token.parent token.ask ∷ h)
    delivers_put = (Request token.parent token.ask to arrives.asked, Put t token.parent token.ask, arrives.here, (put_takes cluster h tables ties.listed to arrives.low arrives.high t task after put ties.lawful, node_is, refl, refl), refl)

    pub after_put : (running : Running) (kept : TaskId → Option Running) (headers : Headers) → running ≡ first t (Some token) true arrives.asked running.work headers → (page : Option Context) → IsNewWork t arrives.asked cluster.shards page running.work → headers ≡ headers_of (scripted script) token.parent h
        → kept t ≡ Some running → ((q : TaskId) → same_task t q ≡ false → kept q ≡ tasks q)
        → Ties cluster corpus script (Put t token.parent token.ask ∷ h) kept after (remove flight nth)
    after_put running kept headers is page work carried here others = record {
      lawful = (record { requested = arrives.requested; node = arrives.node ∙ ap Some (sym node_is); takes = takes }, ties.lawful, awaits);
      kept = kept_after cluster corpus (scripted script) t event h tasks kept refl refl ties.kept (rw here (runs_first cluster (so_far corpus script) h t (Some token) true arrives.asked None headers _ running facts is (put_works cluster (so_far corpus script h) t arrives.asked page running.work work (ties.within token.parent token.ask arrives.asked arrives.request)))) others;
      listed = put_listed cluster h tables ties.listed to arrives.low arrives.high t task after put event (record { last = λ n. refl; live = refl });
      sent = all_stay event h (remove flight nth) (remove (in_flight h) nth) (pairs_left (message_of h) flight (in_flight h) nth ties.sent) ∙ ap (map Some) (sym arrives.taken);
      good = rw arrives.taken (all_left (IsGood cluster (so_far corpus script h) h) (in_flight h) nth ties.good);
      within = ties.within;
      plain = ties.plain;
    }
      where
        event : Event
        event = Put t token.parent token.ask

        takes : TakesSlot cluster t h
        takes = put_takes cluster h tables ties.listed to arrives.low arrives.high t task after put ties.lawful

        facts : facts_of (scripted script) t (Put t token.parent token.ask ∷ h) ≡ started (Some token) true arrives.asked None headers
        facts =
            let none = unborn cluster t (scripted script) h ties.lawful (let next = takes.next in omega arith) in
            at_put (scripted script) t h token.parent token.ask
            ∙ ap (λ (f : Facts). record f { live = true; new = true; parent = Some token.parent; ask = token.ask; request = request_of_ask token.parent token.ask h; headers = headers_of (scripted script) token.parent h }) none
            ∙ (λ i. record blank { live = true; new = true; parent = Some token.parent; ask = token.ask; request = arrives.request i; headers = sym carried i })

  -- no slot is free
  module _ (full : cluster.slots ≤ live_on to h) where
    pub delivers_reject : Delivers cluster h nth (Reject to token.parent token.ask ∷ h)
    delivers_reject = (Request token.parent token.ask to arrives.asked, Reject to token.parent token.ask, arrives.here, (full, refl, refl, refl), refl)

    abbrev answer : Sent
    answer = rejected token (length h)

    pub after_reject : Ties cluster corpus script (Reject to token.parent token.ask ∷ h) tasks tables (remove flight nth ++ rejected token (length h) ∷ [])
    after_reject = record {
      lawful = (record { requested = arrives.requested; node = arrives.node; full = full }, ties.lawful, awaits);
      kept = kept_same cluster corpus (scripted script) event h tasks refl refl ties.kept;
      listed = λ place. listed_same cluster event h (λ n. refl) refl place _ (ties.listed place);
      sent = map-append (message_of (event ∷ h)) (remove flight nth) (answer ∷ []) ∙ ap (λ ms. ms ++ message_of (event ∷ h) answer ∷ []) others ∙ ap (λ m. map Some (remove (in_flight h) nth) ++ m ∷ []) this
          ∙ sym (map-append Some (remove (in_flight h) nth) (said ∷ [])) ∙ ap (λ ms. map Some (ms ++ said ∷ [])) (sym arrives.taken);
      good = rw arrives.taken (all_push (IsGood cluster (so_far corpus script h) (event ∷ h)) (remove (in_flight h) nth) said (all_left (IsGood cluster (so_far corpus script h) h) (in_flight h) nth ties.good) (λ r e. good_rejection cluster (so_far corpus script h) to r));
      within = ties.within;
      plain = ties.plain;
    }
      where
        event : Event
        event = Reject to token.parent token.ask

        said : Message
        said = Answer token.parent token.ask (Rejected to)

        this : message_of (event ∷ h) answer ≡ Some said
        this = ap (λ o. option_map (λ r. Answer token.parent token.ask r) (option_and_then reply_in o)) (event_newest event h)

        others : map (message_of (event ∷ h)) (remove flight nth) ≡ map Some (remove (in_flight h) nth)
        others = all_stay event h (remove flight nth) (remove (in_flight h) nth) (pairs_left (message_of h) flight (in_flight h) nth ties.sent)
