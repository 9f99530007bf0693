-- The tables fit the past after an answer has come, where they are changed as it says.
use Rattle.std.proofs.Common.{◌≡◌, ◌≤◌, ℕ, zero, suc, ◌+◌, ◌-◌, Bool, true, false, List, ◌∷◌, map, get_or, Option, Some, None, refl, sym, ap, subst, ◌∙◌, arith}
use Rattle.std.specs.Prelude.{is_some, IsSome, slice_get, slice_set, remove, option_map, option_and_then}
use Rattle.task_ids.specs.declared.task_id.TaskId.{TaskId}
use Rattle.task_ids.specs.declared.cluster.Cluster.{Cluster}
use Rattle.task_ids.specs.declared.corpus.Corpus.{Corpus}
use Rattle.child_track.specs.Token.{ReceiptParts}
use Rattle.child_track.specs.Track.{Answers}
use Rattle.child_track.specs.Track.{with_answer as track_with_answer}
use Rattle.task_table.specs.Table.{Table}
use Rattle.task_events.specs.declared.request.Request.{Request}
use Rattle.task_events.specs.declared.reply.Reply.{Reply}
use Rattle.task_events.specs.declared.event.Event.{Event}
use Rattle.task_events.specs.declared.event.Event.TheVariants.{Answered}
use Rattle.task_events.specs.Clock.{clock}
use Rattle.task_events.specs.Kind.{Progress}
use Rattle.task_events.specs.Same.{same_task}
use Rattle.task_events.specs.Lawful.{AwaitsNoMark}
use Rattle.task_events.specs.Tasks.{is_live, is_new}
use Rattle.task_events.specs.Asks.{last_ask, request_of_ask, answer_of, is_unanswered}
use Rattle.task_events.specs.Requests.{request_of}
use Rattle.task_events.specs.Steps.{asked_by, came_by}
use Rattle.task_events.specs.Steps.{with_answer as asked_with_answer}
use Rattle.task_events.specs.Messages.{Message, in_flight, is_answer}
use Rattle.task_events.specs.Messages.Message.{Answer}
use Rattle.task_events.specs.Laws.{IsTold, IsDeliveredAt}
use Rattle.task_laws.proofs.Same.{same_pair_refl}
use Rattle.task_laws.proofs.InFlight.{answers_in_flight}
use Rattle.task_laws.proofs.Asks.{AskFacts, ask_facts}
use Rattle.task_laws.proofs.Bans.{ban_facts}
use Rattle.task_laws.proofs.Once.{once_each}
use Rattle.task_laws.proofs.Places.{at_place}
use Rattle.task_laws.proofs.Content.{told}
use Rattle.task_work.specs.Works.{work_takes, work_with_answer}
use Rattle.script_lang.specs.declared.command.Script.{Script}
use Rattle.world_moves.specs.declared.flight.Sent.{Sent}
use Rattle.world_moves.specs.declared.flight.Sent.TheVariants as sent
use Rattle.node_parts.specs.declared.running.Running.{Running}
use Rattle.node_parts.specs.Running.{running_with_answer}
use Rattle.world_moves.specs.Facts.{facts_of, awaited_by, requested_by}
use Rattle.world_moves.specs.Flights.{event_at, message_of, reply_in}
use Rattle.world_moves.specs.Moves.{Delivers}
use Rattle.command_roots.specs.Roots.{scripted}
use Rattle.world_moves.specs.Ties.{Ties, RunsAt, WorksFor, IsGood, progress_from}
use Rattle.world_moves.specs.Good.{IsGoodReply}
use Rattle.world_moves.proofs.AllKinds.{passed_laws}
use Rattle.world_moves.proofs.KindLaws.{Takes}
use Rattle.world_moves.proofs.SearchAnswers.{has_at, within}
use Rattle.task_ids.proofs.Each.{all_here}
use Rattle.world_moves.proofs.ByPlace.{pair_at, pairs_left, all_left}
use Rattle.world_moves.proofs.FactsAfter.{at_answered}
use Rattle.world_moves.proofs.FlightAfter.{all_stay}
use Rattle.world_moves.proofs.KeptTasks.{kept_after}
use Rattle.world_moves.proofs.NodeTablesSame.{listed_same}
use Rattle.world_moves.proofs.AsksCounted.{awaited_at, awaited_counted, requested_at, requested_counted}
use Rattle.world_moves.proofs.StepsAfter.{kept_running}
use Rattle.world_moves.specs.Good.{so_far}

-- ---- the answer

module _ (cluster : Cluster) (corpus : Corpus) (script : Script) (h : List Event) (tasks : TaskId → Option Running) (tables : List Table) (flight : List Sent) (ties : Ties cluster corpus script h tasks tables flight)
    (nth : ℕ) (receipt : ReceiptParts) (at : ℕ) (taken : slice_get flight nth ≡ Some (sent.Answer receipt at)) where
  the_message : (m : Message) × (slice_get (in_flight h) nth ≡ Some m) × (message_of h (sent.Answer receipt at) ≡ Some m)
  the_message = pair_at (message_of h) flight (in_flight h) nth (sent.Answer receipt at) ties.sent taken

  pub has_parent : receipt.parent ≡ None → ⊥
  has_parent e = let f : None ≡ Some the_message.0 = sym (ap (λ o. option_and_then (λ p. option_map (λ r. Answer p receipt.ask r) (option_and_then reply_in (event_at at h))) o) e) ∙ the_message.2 in cc

  says : (p : TaskId) (o : Option Reply) (m : Message) → option_map (λ r. Answer p receipt.ask r) o ≡ Some m → is_some o ≡ true
  says p None m e = absurd (cc)
  says p (Some r) m e = refl

  pub has_reply : (p : TaskId) → receipt.parent ≡ Some p → IsSome (option_and_then reply_in (event_at at h))
  has_reply p e = says p _ the_message.0 (sym (ap (λ o. option_and_then (λ p. option_map (λ r. Answer p receipt.ask r) (option_and_then reply_in (event_at at h))) o) e) ∙ the_message.2)

  -- a task of which an answer is in flight
  module _ (t : TaskId) (parent : receipt.parent ≡ Some t) where
    is_message : (reply : Reply) → option_and_then reply_in (event_at at h) ≡ Some reply → the_message.0 ≡ Answer t receipt.ask reply
    is_message reply reads =
        let f : Some the_message.0 ≡ Some (Answer t receipt.ask reply) =
        sym the_message.2
        ∙ ap (λ o. option_and_then (λ p. option_map (λ r. Answer p receipt.ask r) (option_and_then reply_in (event_at at h))) o) parent
        ∙ ap (option_map (λ r. Answer t receipt.ask r)) reads in
        cc

    module _ (reply : Reply) (reads : option_and_then reply_in (event_at at h) ≡ Some reply) where
      facts : AskFacts h
      facts = ask_facts cluster h ties.lawful

      arrives : slice_get (in_flight h) nth ≡ Some (Answer t receipt.ask reply)
      arrives = the_message.1 ∙ ap Some (is_message reply reads)

      taken_away : IsDeliveredAt nth (is_answer t receipt.ask) h
      taken_away = at_place (is_answer t receipt.ask) h nth (Answer t receipt.ask reply) ((once_each h facts (ban_facts cluster h ties.lawful)).answer t receipt.ask) arrives (same_pair_refl t receipt.ask)

      answered_with : answer_of t receipt.ask h ≡ Some reply
      answered_with = all_here (λ m. IsTold m h) (in_flight h) nth (Answer t receipt.ask reply) (told cluster h ties.lawful) arrives

      still_open : is_unanswered t receipt.ask h ≡ true
      still_open = let away = taken_away.0 in grind (arith, answers_in_flight t receipt.ask h, facts.place t receipt.ask)

      pub asker_live : is_live t h ≡ true
      asker_live = facts.live_asker t receipt.ask still_open

      from_one : 1 ≤ receipt.ask
      from_one = of_number receipt.ask still_open
        where
          of_number : (k : ℕ) → is_unanswered t k h ≡ true → 1 ≤ k
          of_number zero e = absurd (let f : false ≡ true = sym (facts.first_ask t) ∙ e in cc)
          of_number (suc k) e = omega arith

      number_is : receipt.ask ≡ 1 + (receipt.ask - 1)
      number_is = let l = from_one in omega arith

      is_open : is_some (get_or (awaited_by t h) (receipt.ask - 1) None) ≡ true
      is_open =
          let number : receipt.ask ≡ receipt.ask - 1 + 1 = (let l = from_one in omega arith) in
          sym (awaited_at cluster t (receipt.ask - 1) h ties.lawful) ∙ ap (λ k. is_unanswered t k h) (sym number) ∙ still_open

      the_request : (r : Request) × (slice_get (requested_by t h) (receipt.ask - 1) ≡ Some r)
      the_request = has_at (requested_by t h) (receipt.ask - 1) (let l = within (awaited_by t h) (receipt.ask - 1) is_open in omega (arith, awaited_counted cluster t h ties.lawful, requested_counted cluster t h ties.lawful))

      good_reply : IsGoodReply cluster (so_far corpus script h) the_request.0 reply
      good_reply =
          let number : receipt.ask ≡ receipt.ask - 1 + 1 = (let l = from_one in omega arith) in
          all_here (IsGood cluster (so_far corpus script h) h) (in_flight h) nth (Answer t receipt.ask reply) ties.good arrives the_request.0
          (ap (λ k. request_of_ask t k h) number ∙ requested_at cluster t (receipt.ask - 1) h ties.lawful ∙ the_request.1)

      pub delivers : Delivers cluster h nth (Answered t receipt.ask ∷ h)
      delivers = (Answer t receipt.ask reply, Answered t receipt.ask, arrives, (refl, refl), refl)

      module _ (r : Running) (here : tasks t ≡ Some r) where
        runs : RunsAt cluster (so_far corpus script) h t (facts_of (scripted script) t h) r
        runs = kept_running cluster corpus script h tasks tables flight ties t asker_live r here

        pub own : Answers receipt r.track
        own = (parent ∙ ap Some (sym (ap (λ z. z.task) runs.track)), (from_one, ap (λ z. is_some (get_or z.asks (receipt.ask - 1) None)) runs.track ∙ is_open))

        abbrev progress : Progress
        progress = progress_from cluster (so_far corpus script) (facts_of (scripted script) t h)

        -- a task that awaits an answer has passed
        passed : is_new t h ≡ false
        passed = by_case (is_new t h) refl
          where
            by_case : (b : Bool) → is_new t h ≡ b → b ≡ false
            by_case false e = refl
            by_case true e =
                let none : last_ask t h ≡ 0 = facts.new_asks t e in
                let f : false ≡ true = sym (facts.not_asked t receipt.ask (let low = from_one in omega (arith, none))) ∙ still_open in
                cc

        takes_it : (now : ℕ) → Takes cluster (so_far corpus script h) t progress (requested_by t h) (awaited_by t h) (request_of (scripted script) t h) r.work (receipt.ask - 1) reply now
        takes_it now = (passed_laws cluster (so_far corpus script) h t (facts_of (scripted script) t h) r passed runs).takes_answer (receipt.ask - 1) the_request.0 reply now the_request.1 is_open good_reply

        pub takes_reply : work_takes r.work receipt.ask reply ≡ true
        takes_reply = ap (λ k. work_takes r.work k reply) number_is ∙ (takes_it 0).takes

        -- with this answer
        abbrev progress_with : ℕ → Progress
        progress_with k = record progress { asked = map (asked_with_answer k (answer_of t receipt.ask h)) (asked_by t h); came = slice_set (came_by t h) (receipt.ask - 1) (clock h) }

        works_after : WorksFor cluster (so_far corpus script h) t (is_new t h) (progress_with receipt.ask) (requested_by t h) (slice_set (awaited_by t h) (receipt.ask - 1) None) (request_of (scripted script) t h) (work_with_answer r.work receipt.ask reply (clock h))
        works_after =
            subst (λ new. WorksFor cluster (so_far corpus script h) t new (progress_with receipt.ask) (requested_by t h) (slice_set (awaited_by t h) (receipt.ask - 1) None) (request_of (scripted script) t h) (work_with_answer r.work receipt.ask reply (clock h))) (sym passed)
            (subst (λ k. WorksFor cluster (so_far corpus script h) t false (progress_with k) (requested_by t h) (slice_set (awaited_by t h) (receipt.ask - 1) None) (request_of (scripted script) t h) (work_with_answer r.work k reply (clock h))) (sym number_is)
            ((takes_it (clock h)).after (answer_of t receipt.ask h) answered_with))

        runs_after : RunsAt cluster (so_far corpus script) h t (record (facts_of (scripted script) t h) { awaited = slice_set (awaited_by t h) (receipt.ask - 1) None; asked = map (asked_with_answer receipt.ask (answer_of t receipt.ask h)) (asked_by t h); came = slice_set (came_by t h) (receipt.ask - 1) (clock h) }) (running_with_answer r receipt.ask reply (clock h))
        runs_after = record {
          live = runs.live;
          id = runs.id;
          token = runs.token;
          track = ap (λ z. track_with_answer z receipt.ask) runs.track;
          page = runs.page;
          new = runs.new;
          headers = runs.headers;
          works = works_after;
        }

        pub after_answer : AwaitsNoMark h → (after : TaskId → Option Running) → after t ≡ Some (running_with_answer r receipt.ask reply (clock h)) → ((q : TaskId) → same_task t q ≡ false → after q ≡ tasks q)
            → Ties cluster corpus script (Answered t receipt.ask ∷ h) after tables (remove flight nth)
        after_answer awaits after there others = record {
          lawful = (taken_away.0, ties.lawful, awaits);
          kept = kept_after cluster corpus (scripted script) t (Answered t receipt.ask) h tasks after refl refl ties.kept (rw there (subst (λ facts. RunsAt cluster (so_far corpus script) h t facts (running_with_answer r receipt.ask reply (clock h))) (sym (at_answered (scripted script) t h receipt.ask)) runs_after)) others;
          listed = λ place. listed_same cluster (Answered t receipt.ask) h (λ m. refl) refl place _ (ties.listed place);
          sent = rw taken_away.1 (all_stay (Answered t receipt.ask) h (remove flight nth) (remove (in_flight h) nth) (pairs_left (message_of h) flight (in_flight h) nth ties.sent));
          good = rw taken_away.1 (all_left (IsGood cluster (so_far corpus script h) h) (in_flight h) nth ties.good);
          within = ties.within;
          plain = ties.plain;
        }
