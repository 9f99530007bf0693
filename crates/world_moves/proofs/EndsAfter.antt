-- The tables fit the past after the plain end of a task.
use Rattle.std.proofs.Common.{◌≡◌, ℕ, ◌-◌, true, false, List, [], ◌∷◌, ◌++◌, length, map, Option, Some, None, sym, ap, subst, ◌∙◌}
use Rattle.std.specs.Prelude.{slice_get, slice_set, option_map}
use Rattle.std.proofs.lemmas.List.{append-nil}
use Rattle.child_track.specs.Token.{ReceiptParts}
use Rattle.child_track.specs.Track.{sealed}
use Rattle.task_ids.specs.declared.task_id.TaskId.{TaskId}
use Rattle.task_ids.specs.declared.cluster.Cluster.{Cluster}
use Rattle.task_ids.specs.declared.corpus.Corpus.{Corpus}
use Rattle.task_ids.specs.declared.doc.Doc.{Doc}
use Rattle.task_table.specs.Table.{Table, without_task}
use Rattle.task_work.specs.Works.{next_of}
use Rattle.task_events.specs.declared.reply.Reply.{Reply}
use Rattle.task_events.specs.declared.step.Do.TheVariants.{Finish}
use Rattle.task_events.specs.declared.event.Event.{Event}
use Rattle.task_events.specs.declared.event.Event.TheVariants.{End}
use Rattle.task_events.specs.Contexts.{page_of}
use Rattle.task_events.specs.Same.{same_task}
use Rattle.task_events.specs.Allowed.{EndAllowed}
use Rattle.task_events.specs.Bans.{mark_of}
use Rattle.task_events.specs.Lawful.{AwaitsNoMark}
use Rattle.task_events.specs.Messages.Message.{Answer}
use Rattle.task_events.specs.Requests.{request_of}
use Rattle.task_events.specs.Steps.{counted}
use Rattle.task_events.specs.Tasks.{is_live, is_new, parent_of, ask_of}
use Rattle.task_laws.proofs.Dues.{unmarked_end}
use Rattle.script_lang.specs.declared.command.Script.{Script}
use Rattle.world_moves.specs.declared.flight.Sent.{Sent}
use Rattle.node_parts.specs.declared.running.Running.{Running}
use Rattle.corpus_shards.specs.Placed.{AreFew}
use Rattle.world_moves.specs.Facts.{facts_of, awaited_by, requested_by, none_awaited}
use Rattle.world_moves.specs.Flights.{told_parent}
use Rattle.world_moves.specs.Plain.{EndsPlainly}
use Rattle.command_roots.specs.Roots.{scripted}
use Rattle.world_moves.specs.Ties.{Ties, IsGood, progress_from}
use Rattle.node_parts.specs.Running.{DoesNext}
use Rattle.world_moves.proofs.NoneAwaited.{none_unanswered}
use Rattle.world_moves.proofs.Children.{child_request}
use Rattle.world_moves.proofs.AllKinds.{passed_laws}
use Rattle.world_moves.proofs.KindLaws.{KindLaws, IsGoodEnd, is_on}
use Rattle.world_moves.proofs.TasksAfterLeave.{ends, runs, after_leave, no_unbans}
use Rattle.world_moves.proofs.PlainEnds.{replies_plainly}
use Rattle.world_moves.specs.Good.{so_far, own_writes}

module _ (cluster : Cluster) (corpus : Corpus) (script : Script) (h : List Event) (tasks : TaskId → Option Running) (tables : List Table) (flight : List Sent) (ties : Ties cluster corpus script h tasks tables flight) (few : AreFew (so_far corpus script h).lines cluster.shards)
    (t : TaskId) (now : ℕ) (r : Running) (reply : Reply) (live : is_live t h ≡ true) (passed : is_new t h ≡ false) (unmarked : mark_of t h ≡ None) (here : tasks t ≡ Some r) (next : DoesNext (Some r) now (Finish reply)) where
  abbrev own : List Doc
  own = own_writes cluster (so_far corpus script h) (request_of (scripted script) t h)

  laws : KindLaws cluster (so_far corpus script h) t (progress_from cluster (so_far corpus script) (facts_of (scripted script) t h)) (requested_by t h) (awaited_by t h) (request_of (scripted script) t h) r.work
  laws = passed_laws cluster (so_far corpus script) h t (facts_of (scripted script) t h) r passed (runs cluster corpus script h tasks tables flight ties t live r here)

  pub step : next_of r.work own now ≡ Finish reply
  step = next own (is_on laws)

  pub all_come : none_awaited (awaited_by t h) ≡ true
  all_come = laws.none_left own now reply step

  answer_good : (p : TaskId) → parent_of t h ≡ Some p → IsGood cluster (so_far corpus script h) h (Answer p (ask_of t h) reply)
  answer_good p e = λ q asked.
      let request : request_of (scripted script) t h ≡ Some q = child_request cluster (scripted script) t p h ties.lawful e ∙ asked in
      subst (λ o. IsGoodEnd cluster (so_far corpus script h) o reply) request (laws.ends_well few now reply step)

  allowed : EndAllowed t reply h
  allowed =
      let untouched = laws.plain own now reply step in
      record {
        goes_on = record { live = live; passed = passed };
        answered = none_unanswered cluster t h ties.lawful all_come;
        cancelled = untouched.0 ∙ sym (ap (option_map (λ c. (t, c))) unmarked);
        no_rejection = untouched.1;
      }

  replies : EndsPlainly cluster (so_far corpus script) t (page_of (scripted script) t h) (mark_of t h) (counted cluster corpus (scripted script) t h) (request_of (scripted script) t h) h reply
  replies = rw unmarked (replies_plainly cluster corpus script h tasks tables flight ties t now r reply live passed here step)

  pub after_finish : AwaitsNoMark h → (table : Table) (receipt : ReceiptParts) (after : TaskId → Option Running) → slice_get tables (t.node - 1) ≡ Some table → receipt ≡ sealed r.track r.ticket.token
      → after t ≡ None → ((q : TaskId) → same_task t q ≡ false → after q ≡ tasks q)
      → Ties cluster corpus script (End t reply ∷ h) after (slice_set tables (t.node - 1) (without_task table t.number)) (flight ++ told_parent receipt (length h))
  after_finish awaits table receipt after its_table sealed_is gone others =
      subst (λ queue. Ties cluster corpus script (End t reply ∷ h) after (slice_set tables (t.node - 1) (without_task table t.number)) queue) (append-nil (flight ++ told_parent receipt (length h)))
      (after_leave cluster corpus script h tasks tables flight ties t live r here reply (End t reply) (ends cluster (so_far corpus script h) t h reply) (allowed, ties.lawful, awaits) (replies, ties.plain) answer_good
      table receipt after [] its_table sealed_is gone others (sym (ap (map Some) (λ i. no_unbans t (End t reply ∷ h) unmarked i ++ unmarked_end cluster t reply h (allowed, ties.lawful, awaits) unmarked i))))
