-- The tables fit the past after a task has left.
use Rattle.std.proofs.Common.{◌≡◌, ℕ, ◌-◌, ◌≤◌, Bool, true, false, not, cond, List, [], ◌∷◌, ◌++◌, length, map, filter, get_or, Option, Some, None, refl, sym, ap, subst, ◌∙◌, arith, append_assoc}
use Rattle.std.specs.Prelude.{slice_get, slice_set, is_some, count_by, option_map, Any, ◌&&◌}
use Rattle.std.specs.List.{AllByRecursion}
use Rattle.std.proofs.lemmas.List.{map-append}
use Rattle.std.proofs.lemmas.Option.{get_or_from_slice_get}
use Rattle.child_track.specs.Token.{ReceiptParts}
use Rattle.child_track.specs.Track.{Track, unanswered as still_open, sealed}
use Rattle.task_ids.specs.declared.task_id.TaskId.{TaskId}
use Rattle.task_ids.specs.declared.cluster.Cluster.{Cluster}
use Rattle.task_ids.specs.declared.corpus.Corpus.{Corpus}
use Rattle.task_table.specs.Table.{Table, without_task, IsLive}
use Rattle.task_events.specs.declared.reply.Reply.{Reply}
use Rattle.task_events.specs.declared.reply.Reply.TheVariants.{Cancelled}
use Rattle.task_events.specs.declared.event.Event.{Event}
use Rattle.task_events.specs.declared.event.Event.TheVariants.{Refuse, End}
use Rattle.task_events.specs.Same.{same_task}
use Rattle.task_events.specs.Lawful.{Lawful}
use Rattle.task_events.specs.Messages.{Message, in_flight, answer_from, unbans_from, ack_over}
use Rattle.task_events.specs.Messages.Message.{Answer, Unban}
use Rattle.task_events.specs.Bans.{mark_of, banned_nodes, unbans_are_sent}
use Rattle.task_events.specs.Tasks.{is_live, has_ended, parent_of, ask_of, live_tasks, last_number, no_counts}
use Rattle.task_laws.proofs.Reach.{reach_facts}
use Rattle.task_laws.proofs.Same.{same_tests}
use Rattle.script_lang.specs.declared.command.Script.{Script}
use Rattle.world_moves.specs.declared.flight.Sent.{Sent}
use Rattle.node_parts.specs.declared.running.Running.{Running}
use Rattle.task_events.specs.Asks.{request_of_ask}
use Rattle.world_moves.specs.Facts.{facts_of, awaited_by, none_awaited, about, is_write}
use Rattle.world_moves.specs.Flights.{message_of, told_parent, reply_in}
use Rattle.world_moves.specs.Plain.{AnswersPlainly}
use Rattle.command_roots.specs.Roots.{scripted}
use Rattle.world_moves.specs.Ties.{Ties, RunsAt, IsGood}
use Rattle.world_moves.proofs.AcksSent.{over_good}
use Rattle.world_moves.proofs.LiveRows.{row_of_task}
use Rattle.world_moves.proofs.NoneAwaited.{none_counted}
use Rattle.world_moves.proofs.EndsListed.{end_listed}
use Rattle.world_moves.proofs.FlightAfter.{all_stay, event_newest}
use Rattle.world_moves.proofs.KeptTasks.{kept_after}
use Rattle.task_ids.proofs.Each.{all_joined}
use Rattle.world_moves.proofs.StepsAfter.{kept_running}
use Rattle.world_moves.proofs.Tables.{table_of, node_has_table}
use Rattle.world_moves.specs.Good.{so_far, IsWithin}
use Rattle.world_moves.proofs.FactsAfter.{lines_same}

-- ---- the event with which a task leaves

-- the task leaves with the event, and this is what it replies
pub record IsLeave (cluster : Cluster) (corpus : Corpus) (t : TaskId) (reply : Reply) (e : Event) (h : List Event) : Type 0 where
  pub of_task : about e ≡ Some t
  pub no_write : is_write e ≡ false
  pub ended : is_live t (e ∷ h) ≡ false
  pub asked_same : (p : TaskId) (k : ℕ) → request_of_ask p k (e ∷ h) ≡ request_of_ask p k h
  pub says : reply_in e ≡ Some reply
  pub sends : in_flight (e ∷ h) ≡ in_flight h ++ answer_from (parent_of t h) (ask_of t h) reply ++ unbans_from t (e ∷ h) ++ ack_over (parent_of t h) t.node h (e ∷ h)
  pub left : live_tasks (e ∷ h) ≡ filter (λ u. not (same_task t u)) (live_tasks h)
  pub last : (n : ℕ) → last_number n (e ∷ h) ≡ last_number n h
  pub as_good : (m : Message) → IsGood cluster corpus h m → IsGood cluster corpus (e ∷ h) m

pub itself : (t : TaskId) → same_task t t ≡ true
itself t = grind (arith, same_tests)

module _ (cluster : Cluster) (corpus : Corpus) (t : TaskId) (h : List Event) where
  pub ends : (reply : Reply) → IsLeave cluster corpus t reply (End t reply) h
  ends reply = record { of_task = refl; no_write = refl; ended = rw (itself t) refl; asked_same = λ p k. refl; says = refl; sends = refl; left = refl; last = λ n. refl; as_good = λ m good. good }

  pub refuses : (c : ℕ) → IsLeave cluster corpus t (Cancelled t c no_counts) (Refuse t c) h
  refuses c = record { of_task = refl; no_write = refl; ended = rw (itself t) refl; asked_same = λ p k. refl; says = refl; sends = refl; left = refl; last = λ n. refl; as_good = λ m good. good }

only : (x y : Table) → Some x ≡ Some y → x ≡ y
only x y e = cc

-- ---- the answer to the task that asked, the unbans, and the acknowledgement of the ban of its parent

answer_at : (e : Event) (h : List Event) (reply : Reply) → reply_in e ≡ Some reply → (o : Option TaskId) (k : ℕ) (track : Track) (receipt : ReceiptParts) → receipt ≡ sealed track (option_map (λ p. record { parent = p; ask = k }) o)
    → map (message_of (e ∷ h)) (told_parent receipt (length h)) ≡ map Some (answer_from o k reply)
answer_at e h reply says None k track receipt is = rw is refl
answer_at e h reply says (Some p) k track receipt is = rw is (rw (event_newest e h) (rw says refl))

-- an unmarked task has no bans to take away
pub no_unbans : (t : TaskId) (h : List Event) → mark_of t h ≡ None → unbans_from t h ≡ []
no_unbans t h unmarked = rw unmarked (none (has_ended t h))
  where
    none : (b : Bool) → cond (b && false) (map (Unban t) (banned_nodes t h)) [] ≡ []
    none true = refl
    none false = refl

module _ (cluster : Cluster) (corpus : Corpus) where
  answer_good : (h : List Event) (o : Option TaskId) (k : ℕ) (reply : Reply) → ((p : TaskId) → o ≡ Some p → IsGood cluster corpus h (Answer p k reply)) → AllByRecursion (IsGood cluster corpus h) (answer_from o k reply)
  answer_good h None k reply good = tt
  answer_good h (Some p) k reply good = (good p refl, tt)

  each_unban : (h : List Event) (t : TaskId) (ns : List ℕ) → AllByRecursion (IsGood cluster corpus h) (map (Unban t) ns)
  each_unban h t [] = tt
  each_unban h t (n ∷ ns) = (tt, each_unban h t ns)

  unbans_good : (h : List Event) (t : TaskId) (past : List Event) (b : Bool) → unbans_are_sent t past ≡ b → AllByRecursion (IsGood cluster corpus h) (unbans_from t past)
  unbans_good h t past true e = rw e (each_unban h t (banned_nodes t past))
  unbans_good h t past false e = rw e tt

  all_good_after : (e : Event) (h : List Event) → ((m : Message) → IsGood cluster corpus h m → IsGood cluster corpus (e ∷ h) m) → (ms : List Message) → AllByRecursion (IsGood cluster corpus h) ms → AllByRecursion (IsGood cluster corpus (e ∷ h)) ms
  all_good_after e h after [] all = tt
  all_good_after e h after (m ∷ ms) all = (after m all.0, all_good_after e h after ms all.1)

module _ (cluster : Cluster) (corpus : Corpus) (script : Script) (h : List Event) (tasks : TaskId → Option Running) (tables : List Table) (flight : List Sent) (ties : Ties cluster corpus script h tasks tables flight)
    (t : TaskId) (live : is_live t h ≡ true) where
  pub in_cluster : t.node ≤ cluster.nodes
  in_cluster = (reach_facts cluster h ties.lawful).live_in t live

  pub has_table : t.node ≤ length tables
  has_table = node_has_table cluster h tables ties.listed t.node t.node_in_range.0 in_cluster

  -- the table of its node
  pub table_is : (table : Table) → table ≡ get_or tables (t.node - 1) table → slice_get tables (t.node - 1) ≡ Some table
  table_is table e = let its = table_of cluster h tables ties.listed t.node t.node_in_range.0 in_cluster in its.1 ∙ ap Some (sym (e ∙ get_or_from_slice_get tables (t.node - 1) its.0 table its.1))

  module _ (r : Running) (here : tasks t ≡ Some r) where
    pub runs : RunsAt cluster (so_far corpus script) h t (facts_of (scripted script) t h) r
    runs = kept_running cluster corpus script h tasks tables flight ties t live r here

    pub own_track : r.track.task ≡ r.ticket.id
    own_track = ap (λ track. track.task) runs.track ∙ sym runs.id

    pub nothing_open : none_awaited (awaited_by t h) ≡ true → still_open r.track ≡ 0
    nothing_open all_come = ap (λ track. count_by is_some track.asks) runs.track ∙ none_counted (awaited_by t h) all_come

    pub stands : (table : Table) → slice_get tables (t.node - 1) ≡ Some table → IsLive table r.ticket.id
    stands table e =
        let its = table_of cluster h tables ties.listed t.node t.node_in_range.0 in_cluster in
        let same : its.0 ≡ table = only its.0 table (sym its.1 ∙ e) in
        subst (λ x. IsLive x r.ticket.id) same (subst (λ u. Any (λ row. row.id ≡ u) its.0.live) (sym runs.id) (row_of_task cluster t.node h its.0 ties.lawful its.2 t refl live))

    -- what it sends beside the answer
    abbrev pub sent_with : Event → List Message
    sent_with e = unbans_from t (e ∷ h) ++ ack_over (parent_of t h) t.node h (e ∷ h)

    -- its row goes, the task that asked for it is told, and its unbans are sent, and the acknowledgement that falls due
    pub after_leave : (reply : Reply) (e : Event) → IsLeave cluster (so_far corpus script h) t reply e h → Lawful cluster (e ∷ h) → AnswersPlainly cluster corpus script (e ∷ h)
        → ((p : TaskId) → parent_of t h ≡ Some p → IsGood cluster (so_far corpus script h) h (Answer p (ask_of t h) reply))
        → (table : Table) (receipt : ReceiptParts) (after : TaskId → Option Running) (more : List Sent) → slice_get tables (t.node - 1) ≡ Some table → receipt ≡ sealed r.track r.ticket.token
        → after t ≡ None → ((q : TaskId) → same_task t q ≡ false → after q ≡ tasks q) → map (message_of (e ∷ h)) more ≡ map Some (sent_with e)
        → Ties cluster corpus script (e ∷ h) after (slice_set tables (t.node - 1) (without_task table t.number)) (flight ++ told_parent receipt (length h) ++ more)
    after_leave reply e leaves lawful plain good table receipt after more its_table sealed_is gone others more_are = record {
      within = λ p k r asked. subst (λ now. IsWithin cluster now r) (sym (lines_same (scripted script) corpus e h leaves.no_write)) (ties.within p k r (sym (leaves.asked_same p k) ∙ asked));
      lawful = lawful;
      kept = kept_after cluster corpus (scripted script) t e h tasks after leaves.of_task leaves.no_write ties.kept (rw gone leaves.ended) others;
      listed = end_listed t cluster e h leaves.left leaves.last tables table ties.listed t.node_in_range.0 its_table;
      sent = map-append said (flight ++ told) more ∙ ap (λ ms. ms ++ map said more) told_too ∙ ap (λ ms. map Some (in_flight h ++ answer) ++ ms) more_are
          ∙ sym (map-append Some (in_flight h ++ answer) (sent_with e)) ∙ ap (map Some) (sym (append_assoc (in_flight h ++ answer) (unbans_from t (e ∷ h)) ack)) ∙ ap (map Some) (sym leaves.sends);
      good = subst (λ now. AllByRecursion (IsGood cluster now (e ∷ h)) (in_flight (e ∷ h))) (sym (lines_same (scripted script) corpus e h leaves.no_write))
          (subst (λ ms. AllByRecursion (IsGood cluster (so_far corpus script h) (e ∷ h)) ms) (sym leaves.sends)
          (all_good_after cluster (so_far corpus script h) e h leaves.as_good (in_flight h ++ answer ++ unbans_from t (e ∷ h) ++ ack) all_good));
      plain = plain;
    }
      where
        said : Sent → Option Message
        said = message_of (e ∷ h)

        told : List Sent
        told = told_parent receipt (length h)

        answer : List Message
        answer = answer_from (parent_of t h) (ask_of t h) reply

        ack : List Message
        ack = ack_over (parent_of t h) t.node h (e ∷ h)

        told_too : map said (flight ++ told) ≡ map Some (in_flight h ++ answer)
        told_too = map-append said flight told ∙ ap (λ ms. ms ++ map said told) (all_stay e h flight (in_flight h) ties.sent)
            ∙ ap (λ ms. map Some (in_flight h) ++ ms) (answer_at e h reply leaves.says (parent_of t h) (ask_of t h) r.track receipt (sealed_is ∙ ap (sealed r.track) runs.token))
            ∙ sym (map-append Some (in_flight h) answer)

        now : Corpus
        now = so_far corpus script h

        all_good : AllByRecursion (IsGood cluster now h) (in_flight h ++ answer ++ unbans_from t (e ∷ h) ++ ack)
        all_good = all_joined (IsGood cluster now h) (in_flight h ++ answer ++ unbans_from t (e ∷ h)) ack
            (all_joined (IsGood cluster now h) (in_flight h ++ answer) (unbans_from t (e ∷ h))
            (all_joined (IsGood cluster now h) (in_flight h) answer ties.good (answer_good cluster now h (parent_of t h) (ask_of t h) reply good))
            (unbans_good cluster now h t (e ∷ h) (unbans_are_sent t (e ∷ h)) refl))
            (over_good cluster now h (parent_of t h) t.node h (e ∷ h))
