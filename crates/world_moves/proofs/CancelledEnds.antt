-- The tables fit the past after a task has left that a cancellation has stopped.
use Rattle.std.proofs.Common.{◌≡◌, ℕ, ◌+◌, ◌-◌, true, false, List, [], ◌∷◌, ◌++◌, length, map, Option, Some, None, refl, sym, ap, subst, ◌∙◌, arith, append_assoc}
use Rattle.std.specs.Prelude.{slice_get, slice_set, option_map, ◌==◌}
use Rattle.std.specs.List.{list_any}
use Rattle.std.proofs.lemmas.List.{append-nil}
use Rattle.child_track.specs.Token.{ReceiptParts}
use Rattle.child_track.specs.Track.{sealed, unanswered as still_open}
use Rattle.task_ids.specs.declared.task_id.TaskId.{TaskId}
use Rattle.task_ids.specs.declared.cluster.Cluster.{Cluster}
use Rattle.task_ids.specs.declared.corpus.Corpus.{Corpus}
use Rattle.task_table.specs.Table.{Table, without_task}
use Rattle.task_events.specs.declared.reply.Reply.{Reply}
use Rattle.task_events.specs.declared.reply.Reply.TheVariants.{Cancelled}
use Rattle.task_events.specs.declared.event.Event.{Event}
use Rattle.task_events.specs.declared.event.Event.TheVariants.{Refuse, End}
use Rattle.task_events.specs.Same.{same_task}
use Rattle.task_events.specs.Allowed.{cancellation_in}
use Rattle.task_events.specs.Asks.{is_unanswered, last_ask}
use Rattle.task_events.specs.Bans.{mark_of}
use Rattle.task_events.specs.Lawful.{AwaitsNoMark, Lawful}
use Rattle.task_events.specs.Messages.{unbans_from, ack_over}
use Rattle.task_events.specs.Contexts.{page_of}
use Rattle.task_events.specs.Requests.{request_of}
use Rattle.task_events.specs.Tasks.{is_live, parent_of, no_counts}
use Rattle.task_laws.proofs.Asks.{ask_facts}
use Rattle.task_laws.proofs.Pending.{is_pending}
use Rattle.script_lang.specs.declared.command.Script.{Script}
use Rattle.world_moves.specs.declared.flight.Sent.{Sent}
use Rattle.node_parts.specs.declared.running.Running.{Running}
use Rattle.world_moves.specs.Facts.{awaited_by, none_awaited}
use Rattle.world_moves.specs.Flights.{message_of, told_parent}
use Rattle.world_moves.specs.Moves.{IsPartOf, MayLeave}
use Rattle.world_moves.specs.Plain.{AnswersPlainly, EndsPlainly}
use Rattle.command_roots.specs.Roots.{scripted}
use Rattle.world_moves.specs.Reads.{Oldest}
use Rattle.world_moves.specs.Ties.{Ties}
use Rattle.task_events.specs.declared.request.Request.{Request}
use Rattle.task_events.specs.declared.reply.Counts.{Counts}
use Rattle.task_events.specs.Counting.{are_below}
use Rattle.task_events.specs.Kinds.{kind_of}
use Rattle.task_events.specs.Steps.{counted}
use Rattle.world_moves.specs.Good.{so_far}
use Rattle.world_moves.proofs.Children.{child_request}
use Rattle.corpus_shards.specs.Stored.{HasWritten}
use Rattle.corpus_shards.specs.declared.Shards.{Shards}
use Rattle.world_moves.proofs.CountsKept.{none_below, counts_below}
use Rattle.world_moves.proofs.AllKinds.{good_cancelled}
use Rattle.world_moves.proofs.NoneAwaited.{none_from}
use Rattle.world_moves.proofs.CancelsAfterLeave.{Leaves, mark_stays, none_acked}
use Rattle.world_moves.proofs.TasksAfterLeave.{IsLeave, ends, refuses, nothing_open, after_leave, no_unbans}
use Rattle.world_moves.proofs.AsksCounted.{awaited_at}

-- no ask is awaited where none is unanswered
none_to_await : (cluster : Cluster) (t : TaskId) (h : List Event) → Lawful cluster h → ((k : ℕ) → is_unanswered t (k + 1) h ≡ false) → none_awaited (awaited_by t h) ≡ true
none_to_await cluster t h l none = none_from (awaited_by t h) (λ k. sym (awaited_at cluster t k h l) ∙ none k)

-- a marked task replies with its mark
marked_reply : (t : TaskId) (c : ℕ) (o : Option ℕ) (said : Option (TaskId × ℕ)) → said ≡ Some (t, c) → said ≡ option_map (λ d. (t, d)) o → o ≡ Some c
marked_reply t c None said e f = absurd (cc)
marked_reply t c (Some d) said e f = ap (option_map (λ (p : TaskId × ℕ). p.1)) (sym f ∙ e)

module _ (counts : Counts) (t : TaskId) (h : List Event) where
  pub leaves_so : (e : Event) → MayLeave counts t e h → Leaves t e
  leaves_so (Refuse u c) m = m.0
  leaves_so (End u reply) m = m.0
  leaves_so _ m = absurd m

  pub leaver_lives : (e : Event) → MayLeave counts t e h → is_live t h ≡ true
  leaver_lives (Refuse u c) m = m.1.live
  leaver_lives (End u reply) m = m.1.2.goes_on.live
  leaver_lives _ m = absurd m

  pub awaits_none : (e : Event) → MayLeave counts t e h → AwaitsNoMark (e ∷ h)
  awaits_none (Refuse u c) m = tt
  awaits_none (End u reply) m = tt
  awaits_none _ m = absurd m

  -- what is written stays
  pub shards_left : (corpus : Corpus) (script : Script) (cluster : Cluster) (oldest : Oldest) (shards : Shards) (e : Event) → MayLeave counts t e h → HasWritten (so_far corpus script h) cluster.shards oldest shards → HasWritten (so_far corpus script (e ∷ h)) cluster.shards oldest shards
  shards_left corpus script cluster oldest shards (Refuse u c) m has = has
  shards_left corpus script cluster oldest shards (End u reply) m has = has
  shards_left corpus script cluster oldest shards _ m has = absurd m

  -- what its reply tells: a child that is refused has counted nothing
  abbrev pub told_counts : (e : Event) → MayLeave counts t e h → Counts
  told_counts (Refuse u c) m = no_counts
  told_counts _ m = counts

  -- the number in its reply
  abbrev pub number_of : (e : Event) → MayLeave counts t e h → ℕ
  number_of (Refuse u c) m = c
  number_of (End u reply) m = m.1.0
  number_of _ m = 0

  module _ (cluster : Cluster) (l : Lawful cluster h) where
    pub leaver_awaits_none : (e : Event) → MayLeave counts t e h → none_awaited (awaited_by t h) ≡ true
    leaver_awaits_none (Refuse u c) m = none_to_await cluster t h l asked_nothing
      where
        asked_nothing : (k : ℕ) → is_unanswered t (k + 1) h ≡ false
        asked_nothing k =
            let none : last_ask t h ≡ 0 = (ask_facts cluster h l).new_asks t m.1.first in
            (ask_facts cluster h l).not_asked t (k + 1) (omega (arith, none))
    leaver_awaits_none (End u reply) m = none_to_await cluster t h l (λ k. is_pending t (k + 1) h ∙ ap (list_any (λ a. a.ask == k + 1)) m.1.2.answered)
    leaver_awaits_none _ m = absurd m

    pub left_lawful : AwaitsNoMark h → (e : Event) → MayLeave counts t e h → Lawful cluster (e ∷ h)
    left_lawful awaits (Refuse u c) m = rw m.0 (m.1, l, awaits)
    left_lawful awaits (End u reply) m = rw m.0 (m.1.2, l, awaits)
    left_lawful awaits _ m = absurd m

    refused_so : (corpus : Corpus) (u : TaskId) (c : ℕ) → u ≡ t → IsLeave cluster corpus t (Cancelled t c no_counts) (Refuse u c) h
    refused_so corpus u c same = rw same (refuses cluster corpus t h c)

    ended_so : (corpus : Corpus) (u : TaskId) (reply : Reply) (c : ℕ) → u ≡ t → reply ≡ Cancelled t c counts → IsLeave cluster corpus t (Cancelled t c counts) (End u reply) h
    ended_so corpus u reply c same says = rw (same, says) (ends cluster corpus t h (Cancelled t c counts))

    pub is_leave : (corpus : Corpus) (e : Event) (m : MayLeave counts t e h) → IsLeave cluster corpus t (Cancelled t (number_of e m) (told_counts e m)) e h
    is_leave corpus (Refuse u c) m = refused_so corpus u c m.0
    is_leave corpus (End u reply) m = ended_so corpus u reply m.1.0 m.0 m.1.1
    is_leave corpus _ m = absurd m

-- where it tells what it has counted, it leaves as it should
pub left_plain : (cluster : Cluster) (corpus : Corpus) (script : Script) (t : TaskId) (h : List Event) (e : Event) → MayLeave (counted cluster corpus (scripted script) t h) t e h → AnswersPlainly cluster corpus script h → AnswersPlainly cluster corpus script (e ∷ h)
left_plain cluster corpus script t h (Refuse u c) m plain = plain
left_plain cluster corpus script t h (End u reply) m plain =
    let mark : mark_of t h ≡ Some m.1.0 = marked_reply t m.1.0 (mark_of t h) (cancellation_in reply) (ap cancellation_in m.1.1) m.1.2.cancelled in
    rw m.0 (subst (λ o. EndsPlainly cluster (so_far corpus script) t (page_of (scripted script) t h) o (counted cluster corpus (scripted script) t h) (request_of (scripted script) t h) h reply) (sym mark) m.1.1, plain)
left_plain cluster corpus script t h _ m plain = absurd m

-- the answers that come with it are a later part of the move
pub none_part : (h due : List Event) (e : Event) → IsPartOf h h (due ++ (e ∷ h))
none_part h due e = (due ++ e ∷ [], [], sym (append_assoc due (e ∷ []) h), refl)

pub first_part : (h due : List Event) (e : Event) → IsPartOf h (e ∷ h) (due ++ (e ∷ h))
first_part h due e = (due, e ∷ [], refl, refl)

module _ (cluster : Cluster) (corpus : Corpus) (script : Script) (h : List Event) (tasks : TaskId → Option Running) (tables : List Table) (flight : List Sent) (ties : Ties cluster corpus script h tasks tables flight)
    (t : TaskId) (e : Event) (m : MayLeave (counted cluster corpus (scripted script) t h) t e h) (r : Running) (here : tasks t ≡ Some r) where
  -- what it tells is below what a task of its kind can count
  low_counts : (e : Event) (m : MayLeave (counted cluster corpus (scripted script) t h) t e h) (q : Request) → request_of (scripted script) t h ≡ Some q → are_below (kind_of q).limit (told_counts (counted cluster corpus (scripted script) t h) t h e m) ≡ true
  low_counts (Refuse u c) m q asked = none_below q
  low_counts (End u reply) m q asked = counts_below cluster corpus script h tasks tables flight ties t (leaver_lives (counted cluster corpus (scripted script) t h) t h (End u reply) m) m.1.2.goes_on.passed r here q asked
  low_counts _ m q asked = absurd m

  pub leaver_open : still_open r.track ≡ 0
  leaver_open = nothing_open cluster corpus script h tasks tables flight ties t (leaver_lives (counted cluster corpus (scripted script) t h) t h e m) r here (leaver_awaits_none (counted cluster corpus (scripted script) t h) t h cluster ties.lawful e m)

  pub after_cancelled : AwaitsNoMark h → (table : Table) (receipt : ReceiptParts) (after : TaskId → Option Running) (more : List Sent) → slice_get tables (t.node - 1) ≡ Some table → receipt ≡ sealed r.track r.ticket.token
      → after t ≡ None → ((q : TaskId) → same_task t q ≡ false → after q ≡ tasks q) → map (message_of (e ∷ h)) more ≡ map Some (unbans_from t (e ∷ h) ++ ack_over (parent_of t h) t.node h (e ∷ h))
      → Ties cluster corpus script (e ∷ h) after (slice_set tables (t.node - 1) (without_task table t.number)) (flight ++ told_parent receipt (length h) ++ more)
  after_cancelled awaits =
      after_leave cluster corpus script h tasks tables flight ties t (leaver_lives (counted cluster corpus (scripted script) t h) t h e m) r here _ e (is_leave (counted cluster corpus (scripted script) t h) t h cluster ties.lawful (so_far corpus script h) e m)
      (left_lawful (counted cluster corpus (scripted script) t h) t h cluster ties.lawful awaits e m) (left_plain cluster corpus script t h e m ties.plain)
      (λ p parent q asked. good_cancelled cluster (so_far corpus script h) t (number_of (counted cluster corpus (scripted script) t h) t h e m) (told_counts (counted cluster corpus (scripted script) t h) t h e m) q (low_counts e m q (child_request cluster (scripted script) t p h ties.lawful parent ∙ asked)))

  -- where it is not marked there are no unbans, and no acknowledgement falls due
  pub after_unmarked : AwaitsNoMark h → mark_of t h ≡ None → (table : Table) (receipt : ReceiptParts) (after : TaskId → Option Running) → slice_get tables (t.node - 1) ≡ Some table → receipt ≡ sealed r.track r.ticket.token
      → after t ≡ None → ((q : TaskId) → same_task t q ≡ false → after q ≡ tasks q)
      → Ties cluster corpus script (e ∷ h) after (slice_set tables (t.node - 1) (without_task table t.number)) (flight ++ told_parent receipt (length h))
  after_unmarked awaits none table receipt after its_table sealed_is gone others =
      subst (λ queue. Ties cluster corpus script (e ∷ h) after (slice_set tables (t.node - 1) (without_task table t.number)) queue) (append-nil (flight ++ told_parent receipt (length h)))
      (after_cancelled awaits table receipt after [] its_table sealed_is gone others (sym (ap (map Some) (λ i. no_unbans t (e ∷ h) (mark_stays t h e leaves t ∙ none) i ++ none_acked t h e leaves cluster lawful none i))))
    where
      leaves : Leaves t e
      leaves = leaves_so (counted cluster corpus (scripted script) t h) t h e m

      lawful : Lawful cluster (e ∷ h)
      lawful = left_lawful (counted cluster corpus (scripted script) t h) t h cluster ties.lawful awaits e m
