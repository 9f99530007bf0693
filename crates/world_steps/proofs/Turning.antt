-- No move begins a command, so what a command does is its turn.
use Rattle.std.proofs.Common.{cond, ◌≡◌, ℕ, zero, suc, Bool, reverse, map, true, false, ◌||◌, List, [], ◌∷◌, ◌++◌, Option, Some, None, refl, sym, ap, subst, ◌∙◌, inl, inr, ◌-◌}
use Rattle.std.specs.Prelude.{option_map, is_some, if◌then◌else◌}
use Rattle.std.specs.List.{list_any}
use Rattle.std.specs.Option.{option_map_or}
use Rattle.std.proofs.lemmas.List.{append_assoc, reverse-append}
use Rattle.std.proofs.lemmas.List.Folds.{list_any-append}
use Rattle.task_ids.specs.declared.task_id.TaskId.{TaskId}
use Rattle.task_ids.specs.declared.cluster.Cluster.{Cluster}
use Rattle.task_ids.specs.declared.corpus.Corpus.{Corpus}
use Rattle.task_events.specs.declared.step.Do.{Do}
use Rattle.task_events.specs.declared.step.Do.TheVariants.{AskNext, Turn, Wait, Finish}
use Rattle.task_events.specs.declared.event.Event.{Event}
use Rattle.task_events.specs.declared.event.Event.TheVariants.{Begin, Refuse, Cancel, NotFound, Mark, Listed, Acked, Work, End, AnswerPlaced, AnswerDone, Tick as TickEvent}
use Rattle.task_events.specs.declared.reply.Counts.{Counts}
use Rattle.task_events.specs.declared.request.WriteNote.{WriteNote}
use Rattle.task_events.specs.Clock.{clock}
use Rattle.task_events.specs.Written.{corpus_at, turn_notes, with_notes, write_of}
use Rattle.task_events.specs.Asks.{Pending, unanswered}
use Rattle.task_events.specs.Bans.{mark_of, ban_over}
use Rattle.task_events.specs.Cancels.{last_command}
use Rattle.task_events.specs.Messages.{Message}
use Rattle.task_events.specs.Messages.Message.{Request, Answer, Ban, Ack, Unban}
use Rattle.task_events.specs.Requests.{request_of}
use Rattle.task_events.specs.Steps.{counted, event_of, first_step, cancelled_step, step_of_passed, planned_step, turns_of}
use Rattle.task_events.specs.Tasks.{is_live, is_new}
use Rattle.task_events.specs.Turns.{is_begin}
use Rattle.script_lang.specs.declared.command.Script.{Script}
use Rattle.script_lang.specs.declared.command.Command.{Command}
use Rattle.script_lang.specs.declared.command.Command.TheVariants.{Search, Scroll, ClearScroll, Reindex, Cancel, ListTasks, GetTask, ForgetTask, ListResults, Tick, Deliver, Step, ListStep, Settle, Shuffle, WaitFor, History, Summary}
use Rattle.world_steps.specs.declared.acting.Stepped.{Stepped}
use Rattle.world_steps.specs.declared.acting.Stepped.TheVariants.{Done, Waiting, NotRunning}
use Rattle.script_lang.specs.declared.command.CancelTarget.{CancelTarget}
use Rattle.script_lang.specs.declared.command.CancelTarget.TheVariants.{Task, Matching, Command as Of}
use Rattle.node_parts.specs.declared.listing.Listing.{Listing}
use Rattle.world_moves.specs.declared.listings.ListStep.{ListStep as ListingAnswer}
use Rattle.world_moves.specs.declared.listings.ListStep.TheVariants.{Done as Listing_done, NoListing}
use Rattle.world_moves.specs.Cancels.{after_cancel, after_cancel_of, after_naming, answer_to, due_for, is_due, targets, waits_for_end, with_answers, with_cancel, with_cancels, with_due}
use Rattle.world_moves.specs.Listings.{AnswersListing, IsListStep, ListSteps}
use Rattle.world_moves.specs.Moves.{IsDelivery, Delivers, IsStart, Starts}
use Rattle.command_roots.specs.Roots.{root_of, scripted}
use Rattle.world_steps.specs.Draining.{Empties, StartsAgain, ticked_to}
use Rattle.script_lang.specs.Generator.{next_number}
use Rattle.world_steps.specs.declared.shuffling.Move.{Move}
use Rattle.world_steps.specs.declared.shuffling.Move.TheVariants as moves
use Rattle.world_steps.specs.Runs.{after_step, AnswersStep, FirstMoves, Passes, Settles}
use Rattle.world_steps.specs.Shuffling.{Makes, Shuffles}
use Rattle.world_steps.specs.Scripts.{can_copy, can_start, can_page, page_node, StartsWhere, DeliversWhere, ListsWhere, Does, Commands, Drains, IsTurn, closing}

-- some events came after, with none of which a command began
abbrev pub Follows : List Event → List Event → Type 0
Follows h new = (events : List Event) × (new ≡ events ++ h) × (list_any is_begin events ≡ false)

pub stays : (h new : List Event) → new ≡ h → Follows h new
stays h new same = ([], same, refl)

pub one_event : (h new : List Event) (e : Event) → is_begin e ≡ false → new ≡ e ∷ h → Follows h new
one_event h new e begins same = (e ∷ [], same, rw begins refl)

after_both : (h m new : List Event) → Follows h m → Follows m new → Follows h new
after_both h m new (first, is_m, none) (later, is_new, nor) =
    (later ++ first, is_new ∙ ap (λ x. later ++ x) is_m ∙ sym (append_assoc later first h), list_any-append is_begin later first ∙ rw nor none)

-- ---- answers that come due

-- no answer begins a command
none_begins : (h : List Event) (cs : List ℕ) → list_any is_begin (reverse (map (answer_to h) cs)) ≡ false
none_begins h [] = refl
none_begins h (c ∷ cs) = ap (list_any is_begin) (reverse-append (answer_to h c ∷ []) (map (answer_to h) cs)) ∙ list_any-append is_begin (reverse (map (answer_to h) cs)) (answer_to h c ∷ []) ∙ rw (none_begins h cs) (by_kind (waits_for_end c h))
  where
    by_kind : (b : Bool) → (is_begin (if b then AnswerDone c else AnswerPlaced c) || false) ≡ false
    by_kind true = refl
    by_kind false = refl

answered_after : (t : TaskId) (h : List Event) → Follows h (with_answers t h)
answered_after t h = (reverse (map (answer_to h) (due_for t h)), refl, none_begins h (due_for t h))

pub due_after : (e : Event) (h : List Event) → is_begin e ≡ false → Follows h (with_due e h)
due_after (Refuse t c) h b = after_both h (Refuse t c ∷ h) _ (one_event h _ (Refuse t c) refl refl) (answered_after t (Refuse t c ∷ h))
due_after (End t reply) h b = after_both h (End t reply ∷ h) _ (one_event h _ (End t reply) refl refl) (answered_after t (End t reply ∷ h))
due_after (Acked p n) h b = after_both h (Acked p n ∷ h) _ (one_event h _ (Acked p n) refl refl) (answered_after p (Acked p n ∷ h))
due_after e h b = one_event h _ e b refl

-- ---- cancels

named_by_mark : (b : Bool) (c : ℕ) (t : TaskId) (wait : Bool) (h : List Event) → Follows h (if b then Cancel c t wait ∷ h else Mark t c ∷ Cancel c t wait ∷ h)
named_by_mark true c t wait h = (Cancel c t wait ∷ [], refl, refl)
named_by_mark false c t wait h = (Mark t c ∷ Cancel c t wait ∷ [], refl, refl)

names_after : (c : ℕ) (wait : Bool) (ts : List TaskId) (h : List Event) → Follows h (with_cancels c wait ts h)
names_after c wait [] h = stays h h refl
names_after c wait (t ∷ ts) h = after_both h (with_cancel c t wait h) _ (named_by_mark (is_some (mark_of t h)) c t wait h) (names_after c wait ts (with_cancel c t wait h))

answer_after : (b wait : Bool) (c : ℕ) (h : List Event) → Follows h (if b then (if wait then AnswerDone c else AnswerPlaced c) ∷ h else h)
answer_after true true c h = (AnswerDone c ∷ [], refl, refl)
answer_after true false c h = (AnswerPlaced c ∷ [], refl, refl)
answer_after false wait c h = stays h h refl

naming_after : (c : ℕ) (wait : Bool) (ts : List TaskId) (h : List Event) → Follows h (after_naming c wait ts h)
naming_after c wait ts h = after_both h (with_cancels c wait ts h) _ (names_after c wait ts h) (answer_after (is_due (with_cancels c wait ts h) c) wait c (with_cancels c wait ts h))

cancelled_after : (c : ℕ) (wait : Bool) (o : Option TaskId) (h : List Event) → Follows h (after_cancel_of c wait o h)
cancelled_after c wait None h = (NotFound c ∷ [], refl, refl)
cancelled_after c wait (Some t) h = by_live (is_live t h)
  where
    by_live : (b : Bool) → Follows h (if b then after_naming c wait (t ∷ []) h else NotFound c ∷ h)
    by_live true = naming_after c wait (t ∷ []) h
    by_live false = (NotFound c ∷ [], refl, refl)

by_target : (cluster : Cluster) (script : Script) (c : ℕ) (target : CancelTarget) (wait : Bool) (h : List Event) → Follows h (after_cancel cluster script c target wait h)
by_target cluster script c (Task t) wait h = cancelled_after c wait (Some t) h
by_target cluster script c (Of k) wait h = cancelled_after c wait (root_of k h) h
by_target cluster script c (Matching wanted) wait h = naming_after c wait (targets cluster script wanted h) h

pub cancel_after : (cluster : Cluster) (script : Script) (c : ℕ) (target : CancelTarget) (wait : Bool) (h new : List Event) → new ≡ after_cancel cluster script c target wait h → Follows h new
cancel_after cluster script c target wait h new same = subst (Follows h) (sym same) (by_target cluster script c target wait h)

-- ---- listings

by_listing : (l : Listing) (h : List Event) (e : Event) → IsListStep l h e → is_begin e ≡ false
by_listing l h (Mark t c) s = refl
by_listing l h (Listed n p) s = refl
by_listing l h _ s = absurd s

pub listed_after : (l : Listing) (h new : List Event) → ListSteps l h new → Follows h new
listed_after l h new (e, opened, is, same) = one_event h new e (by_listing l h e is) same

pub listed_where : (l : Listing) (h new : List Event) → ListsWhere l h new → Follows h new
listed_where l h new (inl s) = listed_after l h new s
listed_where l h new (inr (closed, same)) = stays h new same

pub listing_answered : (l : Listing) (h : List Event) (stepped : ListingAnswer) (new : List Event) → AnswersListing l h stepped new → Follows h new
listing_answered l h Listing_done new s = listed_after l h new s
listing_answered l h NoListing new (closed, same) = stays h new same

module _ (cluster : Cluster) (h : List Event) where
  not_begun : (m : Message) (k : ℕ) → IsDelivery cluster h m (Begin k) → ⊥
  not_begun (Request p j n r) k d = d
  not_begun (Answer p j reply) k d = d
  not_begun (Ban p c n) k d = d
  not_begun (Ack p n) k d = d
  not_begun (Unban p n) k d = d

  by_delivery : (m : Message) (e : Event) → IsDelivery cluster h m e → is_begin e ≡ false
  by_delivery m (Begin k) d = absurd (not_begun m k d)
  by_delivery m _ d = refl

  by_start : (command node : ℕ) (started : Bool) (e : Event) → IsStart cluster h command node started e → is_begin e ≡ false
  by_start command node true (Begin k) s = absurd s
  by_start command node false (Begin k) s = absurd s
  by_start command node started _ s = refl

  pub delivered : (nth : ℕ) (new : List Event) → Delivers cluster h nth new → Follows h new
  delivered nth new (m, e, at, is, same) = subst (Follows h) (sym same) (due_after e h (by_delivery m e is))

  pub started_there : (command node : ℕ) (started : Bool) (new : List Event) → Starts cluster h command node started new → Follows h new
  started_there command node started new (e, is, same) = one_event h new e (by_start command node started e is) same

module _ (cluster : Cluster) (t : TaskId) (h : List Event) where
  begins_none : (e d : Event) → is_begin d ≡ false → Some d ≡ Some e → is_begin e ≡ false
  begins_none e d begins same = subst (λ o. option_map_or is_begin o false ≡ false) same begins

  by_first : (ban : Option ℕ) (e : Event) → Some (first_step t ban) ≡ Some e → is_begin e ≡ false
  by_first None e same = begins_none e (first_step t None) refl same
  by_first (Some c) e same = begins_none e (first_step t (Some c)) refl same

  by_mark : (c : ℕ) (counts : Counts) (asks : List Pending) (e : Event) → cancelled_step t c counts asks ≡ Some e → is_begin e ≡ false
  by_mark c counts [] e same = subst (λ o. option_map_or is_begin o false ≡ false) same refl
  by_mark c counts (ask ∷ asks) e same = absurd (cc)

  by_plan : (d : Do) (e : Event) → event_of cluster t h d ≡ Some e → is_begin e ≡ false
  by_plan (AskNext request) e same = subst (λ o. option_map_or is_begin o false ≡ false) same refl
  by_plan Turn e same = subst (λ o. option_map_or is_begin o false ≡ false) same refl
  by_plan (Wait due) e same = absurd (cc)
  by_plan (Finish reply) e same = subst (λ o. option_map_or is_begin o false ≡ false) same refl

  by_step : (new : Bool) (mark : Option ℕ) (counts : Counts) (plan : Option Do) (e : Event) → cond new (Some (first_step t (ban_over t h))) (step_of_passed cluster t h mark counts plan) ≡ Some e → is_begin e ≡ false
  by_step true mark counts plan e same = by_first (ban_over t h) e same
  by_step false (Some c) counts plan e same = by_mark c counts (unanswered t h) e same
  by_step false None counts None e same = absurd (cc)
  by_step false None counts (Some d) e same = by_plan d e same

-- ---- writes

noted_after : (notes : List WriteNote) (h : List Event) → Follows h (with_notes notes h)
noted_after [] h = stays h h refl
noted_after (note ∷ notes) h = after_both h (write_of note ∷ h) _ (one_event h _ (write_of note) refl refl) (noted_after notes (write_of note ∷ h))

module _ (cluster : Cluster) (corpus : Corpus) (script : Script) where
  pub step_follows : (e : Event) (h : List Event) → is_begin e ≡ false → Follows h (after_step cluster corpus script e h)
  step_follows (Work t) h b =
      after_both h (Work t ∷ h) _ (one_event h _ (Work t) refl refl)
      (noted_after (option_map_or (λ request. turn_notes cluster (corpus_at corpus (scripted script) h) request (turns_of t h)) (request_of (scripted script) t h) []) (Work t ∷ h))
  step_follows e h b = due_after e h b

  pub stepped_there : (t : TaskId) (h new : List Event) (stepped : Stepped) → AnswersStep cluster corpus script t h stepped new → Follows h new
  stepped_there t h new Done (e, live, next, same) =
      subst (Follows h) (sym same) (step_follows e h (by_step cluster t h (is_new t h) (mark_of t h) (counted cluster corpus (scripted script) t h) (option_map (λ request. planned_step cluster corpus (scripted script) t request h) (request_of (scripted script) t h)) e next))
  stepped_there t h new Waiting (live, waits, same) = stays h new same
  stepped_there t h new NotRunning (gone, same) = stays h new same

  pub moved : (h new : List Event) → FirstMoves cluster corpus script h new → Follows h new
  moved h new (inl d) = delivered cluster h 0 new d
  moved h new (inr (inl (none, (l, first, lists)))) = listed_after l h new lists
  moved h new (inr (inr (none, closed, (t, first, steps)))) = stepped_there t h new Done steps

  passed : (h : List Event) (between : List (List Event)) (new : List Event) → Passes cluster corpus script h between new → Follows h new
  passed h [] new same = stays h new (sym same)
  passed h (next ∷ later) new (m, p) = after_both h next new (moved h next m) (passed next later new p)

  pub settled : (h new : List Event) → Settles cluster corpus script h new → Follows h new
  settled h new (rests, (between, p)) = passed h between new p

  made : (move : Move) (h new : List Event) → Makes cluster corpus script move h new → Follows h new
  made (moves.Deliver nth) h new d = delivered cluster h nth new d
  made (moves.List l) h new lists = listed_after l h new lists
  made (moves.Step t) h new steps = stepped_there t h new Done steps

  pub shuffled : (chance moves : ℕ) (h new : List Event) → Shuffles cluster corpus script chance moves h new → Follows h new
  shuffled chance zero h new same = stays h new same
  shuffled chance (suc more) h new (inl (rests, same)) = stays h new same
  shuffled chance (suc more) h new (inr (next, (move, chosen, m), later)) = after_both h next new (made move h next m) (shuffled (next_number chance) more next new later)

  pub started_where : (b : Bool) (k node : ℕ) (h new : List Event) → StartsWhere cluster b k node h new → Follows h new
  started_where true k node h new (started, s) = started_there cluster h k node started new s
  started_where false k node h new same = stays h new same

  pub delivered_where : (nth : ℕ) (h new : List Event) → DeliversWhere cluster nth h new → Follows h new
  delivered_where nth h new (inl d) = delivered cluster h nth new d
  delivered_where nth h new (inr (none, same)) = stays h new same

  done : (k : ℕ) (command : Command) (h new : List Event) → Does cluster corpus script k command h new → Follows h new
  done k (Search index node scroll body opaque_id) h new d = started_where (can_start corpus script.commands index scroll body) k node h new d
  done k (Scroll target keep opaque_id) h new d = started_where (can_page script target h) k (page_node target h) h new d
  done k (ClearScroll target) h new same = stays h new same
  done k (Reindex node body slices rate opaque_id store) h new d = started_where (can_copy corpus script.commands body) k node h new d
  done k (Tick ms) h new same = one_event h new (TickEvent ms) refl same
  done k (Cancel target reason wait) h new d = cancel_after cluster script k target wait h new d
  done k (ListTasks wanted group detailed) h new same = stays h new same
  done k (GetTask task wait) h new same = stays h new same
  done k (ForgetTask task) h new same = stays h new same
  done k ListResults h new same = stays h new same
  done k (Deliver nth) h new d = delivered_where nth h new d
  done k (Step task) h new (stepped, a) = stepped_there task h new stepped a
  done k (ListStep node parent) h new d = listed_where (record { node = node; parent = parent }) h new d
  done k Settle h new d = settled h new d
  done k (Shuffle seed moves) h new d = shuffled seed moves h new d
  done k (WaitFor command) h new d = settled h new d
  done k History h new same = stays h new same
  done k Summary h new same = stays h new same

  pub turn_of_command : (k : ℕ) (h new : List Event) → Commands cluster corpus script k h new → IsTurn k h new
  turn_of_command k h new (command, at, d) = done k command (Begin k ∷ h) new d

  -- and so it is while it drains
  again : (h : List Event) (between : List (List Event)) (start : List Event) → StartsAgain cluster corpus script h between start → Follows h start
  again h [] start same = stays h start same
  again h (now ∷ later) start (settles, (due, next, starts)) =
      after_both h now start (settled h now settles) (after_both now (ticked_to due now) start (one_event now _ (TickEvent (due - clock now)) refl refl) (again (ticked_to due now) later start starts))

  pub emptied : (h new : List Event) → Empties cluster corpus script h new → Follows h new
  emptied h new (none, (between, start, starts, settles)) = after_both h start new (again h between start starts) (settled start new settles)

  pub turn_of_drain : (h new : List Event) → Drains cluster corpus script h new → IsTurn (closing script) h new
  turn_of_drain h new d = emptied (Begin (closing script) ∷ h) new d

-- the command that began last is that of the turn
pub last_over : (events h : List Event) → list_any is_begin events ≡ false → last_command (events ++ h) ≡ last_command h
last_over [] h none = refl
last_over (Begin k ∷ events) h none = absurd (cc)
last_over (_ ∷ events) h none = last_over events h none

pub last_in_turn : (k : ℕ) (h new : List Event) → IsTurn k h new → last_command new ≡ k
last_in_turn k h new (events, same, none) = ap last_command same ∙ last_over events (Begin k ∷ h) none
