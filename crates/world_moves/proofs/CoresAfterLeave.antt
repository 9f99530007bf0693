-- What the core of its node knows of a task that leaves, and what it then has to do.
use Rattle.std.proofs.Common.{◌≡◌, ℕ, zero, suc, Bool, true, false, not, List, [], ◌∷◌, ◌++◌, ◌-◌, map, get_or, Option, Some, None, refl, sym, ap, subst, ◌∙◌}
use Rattle.std.specs.Prelude.{is_some, ◌&&◌, unwrap_or, slice_get, slice_set}
use Rattle.std.specs.BTreeSet.{BTreeSet}
use Rattle.std.specs.FinMap.{FinMap, get}
use Rattle.std.proofs.lemmas.Option.{get_or_from_slice_get}
use Rattle.task_ids.specs.declared.task_id.TaskId.{TaskId}
use Rattle.task_ids.specs.declared.cluster.Cluster.{Cluster}
use Rattle.task_ids.specs.declared.corpus.Corpus.{Corpus}
use Rattle.task_ids.specs.TaskIdOrder.{task_id_cmp}
use Rattle.child_track.specs.Token.{ReceiptParts}
use Rattle.task_table.specs.Table.{Table}
use Rattle.cancel_core.specs.declared.act.Act.{Act}
use Rattle.cancel_core.specs.Acts.{due_acts}
use Rattle.cancel_core.specs.Cancellation.{Cancellation, opened, with_receipt}
use Rattle.cancel_core.specs.Cancellations.{Cancellations, has_entry, entry_of}
use Rattle.cancel_core.specs.Listings.{leaving_acts}
use Rattle.task_events.specs.declared.event.Event.{Event}
use Rattle.task_events.specs.Bans.{mark_of, bans_are_placed}
use Rattle.task_events.specs.Messages.{unbans_from, ack_over}
use Rattle.task_events.specs.Lawful.{Lawful}
use Rattle.task_events.specs.Tasks.{has_ended, is_live, parent_of}
use Rattle.task_laws.proofs.Asks.{ask_facts}
use Rattle.task_laws.proofs.Reach.{reach_facts}
use Rattle.task_laws.proofs.Stops.{stop_facts}
use Rattle.script_lang.specs.declared.command.Script.{Script}
use Rattle.node_parts.specs.declared.listing.Listing.{Listing}
use Rattle.world_moves.specs.Acts.{messages_in, offered_in, left_after, answers_of, answers_in}
use Rattle.world_moves.specs.Cancels.{waiting_for, answer_to, with_answers}
use Rattle.world_moves.specs.Left.{HasLeft}
use Rattle.world_moves.specs.Cancelling.{Cancelling, IsEntryOf, IsCancellationOf, KnowsListings}
use Rattle.world_moves.specs.Flights.{message_of}
use Rattle.world_moves.specs.Moves.{IsPartOf}
use Rattle.world_moves.specs.Plain.{AnswersPlainly}
use Rattle.world_moves.proofs.AcksSent.{acts_say, offers_no_more}
use Rattle.world_moves.proofs.CancelAnswersAfter.{kept}
use Rattle.world_moves.proofs.CountsAfter.{let_go, answers_then, counts_then}
use Rattle.world_moves.proofs.DueActs.{due_answered, due_sent}
use Rattle.world_moves.proofs.CancelsAfterLeave.{Leaves, leaves_at, leave_stops, stopped_now, known_ended, core_there, entry_there, nobody_waits}
use Rattle.world_moves.proofs.WaitsAfter.{acks_due, core_knows}
use Rattle.world_moves.specs.Owning.{OneAtATime}
use Rattle.task_events.specs.Requests.{Scripted}

-- what is written where it stands changes nothing
pub set_again : {X : Type 0} (xs : List X) (k : ℕ) (x : X) → slice_get xs k ≡ Some x → slice_set xs k x ≡ xs
set_again [] k x e = refl
set_again (y ∷ xs) zero x e = cc
set_again (y ∷ xs) (suc k) x e = ap (λ later. y ∷ later) (set_again xs k x e)

-- an entry that is there, and one that is not
entry_is : (o : Option Cancellation) → is_some o ≡ true → o ≡ Some (unwrap_or o (opened 0 []))
entry_is None e = absurd (cc)
entry_is (Some x) e = refl

no_entry : (o : Option Cancellation) → is_some o ≡ false → o ≡ None
no_entry None e = refl
no_entry (Some x) e = absurd (cc)

not_marked : (mark : Option ℕ) (ended placed : Bool) → (is_some mark && not (ended && placed)) ≡ false → ended ≡ false → mark ≡ None
not_marked None ended placed way open_task = refl
not_marked (Some c) false placed way open_task = absurd (cc)
not_marked (Some c) true placed way open_task = absurd (cc)

-- the core of the node of a live task
module _ (cluster : Cluster) (h : List Event) (tables : List Table) (roots : ℕ → Option TaskId) (bans : List (FinMap task_id_cmp ℕ)) (cores : List Cancellations) (listings : BTreeSet Listing)
    (noted : Cancelling cluster (λ u. waiting_for u h) h tables roots bans cores listings) (lawful : Lawful cluster h) (t : TaskId) (live : is_live t h ≡ true) (core : Cancellations) (read : core ≡ get_or cores (t.node - 1) core) where
  pub core_is : slice_get cores (t.node - 1) ≡ Some core
  core_is =
      let there = core_there t h cluster tables roots bans cores listings noted ((reach_facts cluster h lawful).live_in t live) in
      there.1 ∙ ap Some (sym (read ∙ get_or_from_slice_get cores (t.node - 1) there.0 core there.1))

  -- it knows which listings wait
  pub listings_there : KnowsListings t.node h core
  listings_there = core_knows t.node t.node_in_range.0 h cores core core_is noted.waits_are

  entry : IsEntryOf (waiting_for t h) t h (get core.entries t)
  entry = entry_there t h cluster tables roots bans cores listings core core_is noted

  open_still : has_ended t h ≡ false
  open_still = (ask_facts cluster h lawful).live_or_ended t live

  pub known_there : has_entry core t ≡ true → IsCancellationOf (waiting_for t h) t h (entry_of core t)
  known_there has = (subst (λ o. IsEntryOf (waiting_for t h) t h o) (entry_is (get core.entries t) has) entry).1

  pub no_receipt : has_entry core t ≡ true → is_some (entry_of core t).receipt ≡ false
  no_receipt has = (known_there has).4 ∙ open_still

  pub unmarked_there : has_entry core t ≡ false → mark_of t h ≡ None
  unmarked_there none =
      let way = subst (λ o. IsEntryOf (waiting_for t h) t h o) (no_entry (get core.entries t) none) entry in
      not_marked (mark_of t h) (has_ended t h) (bans_are_placed t h) way.0 open_still

  pub nobody_there : has_entry core t ≡ false → waiting_for t h ≡ []
  nobody_there none = nobody_waits t h (unmarked_there none) (waiting_for t h) (get core.entries t) entry

module _ (cluster : Cluster) (t : TaskId) (e : Event) (h : List Event) (leaves : Leaves t e) (lawful : Lawful cluster h) (left : ℕ → ℕ) (has : HasLeft None h left) (x : Cancellation) (receipt : ReceiptParts) (known : IsCancellationOf (waiting_for t h) t h x) (core : Cancellations) (acts : List Act)
    (are : acts ≡ due_acts t (with_receipt x receipt) ++ leaving_acts core t true) where
  offered : offered_in acts ≡ map (answer_to (e ∷ h)) (let_go t e h)
  offered = ap offered_in are ∙ offers_no_more core t true (due_acts t (with_receipt x receipt)) ∙ due_answered (waiting_for t h) t (e ∷ h) (with_receipt x receipt) (known_ended t h e leaves x receipt known)

  pub answered_then : answers_in acts left ++ (e ∷ h) ≡ with_answers t (e ∷ h)
  answered_then = ap (λ es. answers_of es left ++ (e ∷ h)) offered ∙ answers_then cluster t e h lawful (leaves_at t h e leaves) left has

  pub counted_then : (after : ℕ → ℕ) → ((c : ℕ) → after c ≡ left_after (offered_in acts) left c) → HasLeft None (with_answers t (e ∷ h)) after
  counted_then after is = counts_then cluster t e h lawful (leaves_at t h e leaves) left has after (λ c. is c ∙ ap (λ es. left_after es left c) offered)

  pub sent_then : Lawful cluster (e ∷ h) → KnowsListings t.node h core → map (message_of (e ∷ h)) (messages_in t.node acts) ≡ map Some (unbans_from t (e ∷ h) ++ ack_over (parent_of t h) t.node h (e ∷ h))
  sent_then then knows = ap (λ xs. map (message_of (e ∷ h)) (messages_in t.node xs)) are
      ∙ acts_say (e ∷ h) t.node (due_acts t (with_receipt x receipt)) (leaving_acts core t true) (unbans_from t (e ∷ h)) (ack_over (parent_of t h) t.node h (e ∷ h))
      (due_sent (waiting_for t h) t (e ∷ h) (with_receipt x receipt) (known_ended t h e leaves x receipt known) t.node (e ∷ h))
      (ap (λ b. map (message_of (e ∷ h)) (messages_in t.node (leaving_acts core t b))) (sym (stopped_now t h e leaves)) ∙ acks_due t h (e ∷ h) (stop_facts cluster h lawful) (leave_stops t h e leaves cluster then) core knows (e ∷ h))

  pub part_then : (past new : List Event) → past ≡ e ∷ h → IsPartOf past new (answers_in acts left ++ past) → IsPartOf (e ∷ h) new (with_answers t (e ∷ h))
  part_then past new is part = subst (λ whole. IsPartOf (e ∷ h) new whole) answered_then (subst (λ p. IsPartOf p new (answers_in acts left ++ p)) is part)

-- the answers keep the replies plain
pub answers_plain : (cluster : Cluster) (corpus : Corpus) (script : Script) (t : TaskId) (h : List Event) → AnswersPlainly cluster corpus script h → AnswersPlainly cluster corpus script (with_answers t h)
answers_plain cluster corpus script t h plain = kept (AnswersPlainly cluster corpus script) (λ c past p. p) (λ c past p. p) t h plain

pub answers_alone : (said : Scripted) (t : TaskId) (h : List Event) → OneAtATime said h → OneAtATime said (with_answers t h)
answers_alone said t h alone = kept (OneAtATime said) (λ c past p. p) (λ c past p. p) t h alone
