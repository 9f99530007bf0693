-- What is so of each run: it is so at the start, and every event that is no step of a task, every root that starts, every step and every turn of work leave it so.
-- A move that is cut short leaves what is so of each first part of a history.
use Rattle.std.proofs.Common.{◌≡◌, ℕ, zero, suc, Bool, true, false, ◌||◌, reverse, map, List, [], ◌∷◌, ◌++◌, length, Option, Some, None, refl, sym, ap, subst, ◌∙◌, inl, inr}
use Rattle.std.specs.List.{list_any}
use Rattle.std.specs.Prelude.{is_some, if◌then◌else◌}
use Rattle.std.proofs.lemmas.List.{reverse-append}
use Rattle.std.proofs.lemmas.List.Folds.{list_any-append}
use Rattle.task_ids.specs.declared.cluster.Cluster.{Cluster}
use Rattle.task_ids.specs.declared.corpus.Corpus.{Corpus}
use Rattle.task_ids.specs.declared.task_id.TaskId.{TaskId}
use Rattle.task_ids.specs.declared.text.Text.{Text}
use Rattle.task_events.specs.declared.event.Event.{Event}
use Rattle.task_events.specs.declared.event.Event.TheVariants.{Begin, Root, Ask, Refuse, Cancel, NotFound, Mark, Listed, Acked, Work, Write, End, AnswerPlaced, AnswerDone, Tick as TickEvent}
use Rattle.task_events.specs.declared.event.Outcome.{Outcome}
use Rattle.task_events.specs.declared.reply.Reply.{Reply}
use Rattle.task_events.specs.declared.request.Request.{Request as AskedFor}
use Rattle.task_events.specs.Bans.{mark_of}
use Rattle.task_events.specs.Messages.{Message}
use Rattle.task_events.specs.Messages.Message.{Request, Answer, Ban, Ack, Unban}
use Rattle.task_events.specs.Steps.{after_turn}
use Rattle.task_events.specs.Tasks.{is_live}
use Rattle.script_lang.specs.declared.command.CancelTarget.{CancelTarget}
use Rattle.script_lang.specs.declared.command.CancelTarget.TheVariants.{Task, Matching, Command as Of}
use Rattle.script_lang.specs.declared.command.Command.{Command}
use Rattle.script_lang.specs.declared.command.Command.TheVariants.{Search, Scroll, ClearScroll, Reindex, Cancel as CancelTasks, ListTasks, GetTask, ForgetTask, ListResults, Tick, Deliver, Step, ListStep, Settle, Shuffle, WaitFor, History, Summary}
use Rattle.script_lang.specs.declared.command.Script.{Script}
use Rattle.script_lang.specs.Generator.{next_number}
use Rattle.command_roots.specs.Roots.{command_at, reindex_of, root_of, scripted, search_of}
use Rattle.node_parts.specs.declared.listing.Listing.{Listing}
use Rattle.world_moves.specs.Cancels.{after_cancel, after_cancel_of, after_naming, answer_to, due_for, is_due, targets, waits_for_end, with_answers, with_cancel, with_cancels, with_due}
use Rattle.world_moves.specs.Listings.{IsListStep, ListSteps}
use Rattle.world_moves.specs.Moves.{IsDelivery, Delivers, IsPartly, IsStart}
use Rattle.world_steps.specs.declared.acting.Stepped.{Stepped}
use Rattle.world_steps.specs.declared.acting.Stepped.TheVariants.{Done, Waiting, NotRunning}
use Rattle.world_steps.specs.declared.shuffling.Move.{Move}
use Rattle.world_steps.specs.declared.shuffling.Move.TheVariants as moves
use Rattle.world_steps.specs.Draining.{StartsAgain, ticked_to}
use Rattle.world_steps.specs.Runs.{after_step, next_of, AnswersStep, FirstMoves, PartlySettles, Passes, Settles}
use Rattle.world_steps.specs.Scripts.{can_copy, can_start, can_page, closing, page_node, StartsWhere, DeliversWhere, ListsWhere, Does, HasRun, IsRunSoFar, PartlyDoes, PartlyCommands, PartlyDrains}
use Rattle.world_steps.specs.Shuffling.{Makes, MovesBy, PartlyShuffles, Shuffles}
use Rattle.write_laws.proofs.RootsStart.{StartFits, command_fits, page_fits, reindex_fits, search_fits}

-- an event that only a step of a task leads to
abbrev pub is_own : Event → Bool
is_own (Ask p k n child) = true
is_own (Work t) = true
is_own (Write index shard outcome id) = true
is_own (End t reply) = true
is_own _ = false

abbrev pub is_work : Event → Bool
is_work (Work t) = true
is_work _ = false

-- one to which such a step leads, or a command that starts a root
abbrev pub is_led : Event → Bool
is_led (Root k t) = true
is_led e = is_own e

module _ (Holds HoldsOfPart : List Event → Type 0) (of_part : (h : List Event) → Holds h → HoldsOfPart h) (earlier : (e : Event) (h : List Event) → HoldsOfPart (e ∷ h) → HoldsOfPart h)
    (one : (e : Event) (h : List Event) → is_led e ≡ false → Holds h → Holds (e ∷ h)) where
  -- what was so before a move is so after it
  abbrev pub Keeps : List Event → List Event → Type 0
  Keeps h new = Holds h → Holds new

  stays : (h new : List Event) → new ≡ h → Keeps h new
  stays h new same keeps = subst Holds (sym same) keeps

  one_event : (h new : List Event) (e : Event) → is_led e ≡ false → new ≡ e ∷ h → Keeps h new
  one_event h new e quiet same keeps = subst Holds (sym same) (one e h quiet keeps)

  all_kept : (es h : List Event) → list_any is_led es ≡ false → Keeps h (es ++ h)
  all_kept [] h quiet keeps = keeps
  all_kept (e ∷ es) h quiet keeps = let parts = both (is_led e) (list_any is_led es) quiet in one e (es ++ h) parts.0 (all_kept es h parts.1 keeps)
    where
      both : (a b : Bool) → (a || b) ≡ false → (a ≡ false) × (b ≡ false)
      both false b e = (refl, e)
      both true b e = absurd (cc)

  -- so it was at each earlier moment
  earlier_kept : (later h : List Event) → HoldsOfPart (later ++ h) → HoldsOfPart h
  earlier_kept [] h keeps = keeps
  earlier_kept (e ∷ later) h keeps = earlier_kept later h (earlier e (later ++ h) keeps)

  part_kept : (Moves : List Event → List Event → Type 0) (h new : List Event) → ((whole : List Event) → Moves h whole → Keeps h whole) → IsPartly Moves h new → Holds h → HoldsOfPart new
  part_kept Moves h new each (inl same) keeps = of_part new (stays h new same keeps)
  part_kept Moves h new each (inr (whole, made, (later, before, split, rest))) keeps = earlier_kept later new (subst HoldsOfPart split (of_part whole (each whole made keeps)))

  -- ---- answers that come due

  none_asks : (h : List Event) (cs : List ℕ) → list_any is_led (reverse (map (answer_to h) cs)) ≡ false
  none_asks h [] = refl
  none_asks h (c ∷ cs) = ap (list_any is_led) (reverse-append (answer_to h c ∷ []) (map (answer_to h) cs)) ∙ list_any-append is_led (reverse (map (answer_to h) cs)) (answer_to h c ∷ []) ∙ rw (none_asks h cs) (by_kind (waits_for_end c h))
    where
      by_kind : (b : Bool) → (is_led (if b then AnswerDone c else AnswerPlaced c) || false) ≡ false
      by_kind true = refl
      by_kind false = refl

  answered_after : (t : TaskId) (h : List Event) → Keeps h (with_answers t h)
  answered_after t h = all_kept (reverse (map (answer_to h) (due_for t h))) h (none_asks h (due_for t h))

  due_after : (e : Event) (h : List Event) → Holds (e ∷ h) → Holds (with_due e h)
  due_after (Refuse t c) h keeps = answered_after t (Refuse t c ∷ h) keeps
  due_after (End t reply) h keeps = answered_after t (End t reply ∷ h) keeps
  due_after (Acked p n) h keeps = answered_after p (Acked p n ∷ h) keeps
  due_after e h keeps = keeps

  -- ---- cancels

  named_by_mark : (b : Bool) (c : ℕ) (t : TaskId) (wait : Bool) (h : List Event) → Keeps h (if b then Cancel c t wait ∷ h else Mark t c ∷ Cancel c t wait ∷ h)
  named_by_mark true c t wait h keeps = one (Cancel c t wait) h refl keeps
  named_by_mark false c t wait h keeps = one (Mark t c) (Cancel c t wait ∷ h) refl (one (Cancel c t wait) h refl keeps)

  names_after : (c : ℕ) (wait : Bool) (ts : List TaskId) (h : List Event) → Keeps h (with_cancels c wait ts h)
  names_after c wait [] h keeps = keeps
  names_after c wait (t ∷ ts) h keeps = names_after c wait ts (with_cancel c t wait h) (named_by_mark (is_some (mark_of t h)) c t wait h keeps)

  answer_after : (b wait : Bool) (c : ℕ) (h : List Event) → Keeps h (if b then (if wait then AnswerDone c else AnswerPlaced c) ∷ h else h)
  answer_after true true c h keeps = one (AnswerDone c) h refl keeps
  answer_after true false c h keeps = one (AnswerPlaced c) h refl keeps
  answer_after false wait c h keeps = keeps

  naming_after : (c : ℕ) (wait : Bool) (ts : List TaskId) (h : List Event) → Keeps h (after_naming c wait ts h)
  naming_after c wait ts h keeps = answer_after (is_due (with_cancels c wait ts h) c) wait c (with_cancels c wait ts h) (names_after c wait ts h keeps)

  cancelled_after : (c : ℕ) (wait : Bool) (o : Option TaskId) (h : List Event) → Keeps h (after_cancel_of c wait o h)
  cancelled_after c wait None h keeps = one (NotFound c) h refl keeps
  cancelled_after c wait (Some t) h keeps = by_live (is_live t h)
    where
      by_live : (b : Bool) → Holds (if b then after_naming c wait (t ∷ []) h else NotFound c ∷ h)
      by_live true = naming_after c wait (t ∷ []) h keeps
      by_live false = one (NotFound c) h refl keeps

  by_target : (cluster : Cluster) (script : Script) (c : ℕ) (target : CancelTarget) (wait : Bool) (h : List Event) → Keeps h (after_cancel cluster script c target wait h)
  by_target cluster script c (Task t) wait h = cancelled_after c wait (Some t) h
  by_target cluster script c (Of k) wait h = cancelled_after c wait (root_of k h) h
  by_target cluster script c (Matching wanted) wait h = naming_after c wait (targets cluster script wanted h) h

  -- ---- listings

  by_listing : (l : Listing) (h : List Event) (e : Event) → IsListStep l h e → is_led e ≡ false
  by_listing l h (Mark t c) s = refl
  by_listing l h (Listed n p) s = refl
  by_listing l h _ s = absurd s

  listed_after : (l : Listing) (h new : List Event) → ListSteps l h new → Keeps h new
  listed_after l h new (e, opened, is, same) = one_event h new e (by_listing l h e is) same

  listed_where : (l : Listing) (h new : List Event) → ListsWhere l h new → Keeps h new
  listed_where l h new (inl s) = listed_after l h new s
  listed_where l h new (inr (closed, same)) = stays h new same

  -- ---- deliveries and starts

  module _ (cluster : Cluster) (h : List Event) where
    none_asked : (m : Message) (p : TaskId) (k n : ℕ) (child : AskedFor) → IsDelivery cluster h m (Ask p k n child) → ⊥
    none_asked (Request q j to r) p k n child d = d
    none_asked (Answer q j reply) p k n child d = d
    none_asked (Ban q c to) p k n child d = d
    none_asked (Ack q from) p k n child d = d
    none_asked (Unban q to) p k n child d = d

    none_written : (m : Message) (index id : Text) (shard : ℕ) (outcome : Outcome) → IsDelivery cluster h m (Write index shard outcome id) → ⊥
    none_written (Request q j to r) index id shard outcome d = d
    none_written (Answer q j reply) index id shard outcome d = d
    none_written (Ban q c to) index id shard outcome d = d
    none_written (Ack q from) index id shard outcome d = d
    none_written (Unban q to) index id shard outcome d = d

    none_worked : (m : Message) (t : TaskId) → IsDelivery cluster h m (Work t) → ⊥
    none_worked (Request q j to r) t d = d
    none_worked (Answer q j reply) t d = d
    none_worked (Ban q c to) t d = d
    none_worked (Ack q from) t d = d
    none_worked (Unban q to) t d = d

    none_ended : (m : Message) (t : TaskId) (last : Reply) → IsDelivery cluster h m (End t last) → ⊥
    none_ended (Request q j to r) t last d = d
    none_ended (Answer q j reply) t last d = d
    none_ended (Ban q c to) t last d = d
    none_ended (Ack q from) t last d = d
    none_ended (Unban q to) t last d = d

    none_rooted : (m : Message) (k : ℕ) (t : TaskId) → IsDelivery cluster h m (Root k t) → ⊥
    none_rooted (Request q j to r) k t d = d
    none_rooted (Answer q j reply) k t d = d
    none_rooted (Ban q c to) k t d = d
    none_rooted (Ack q from) k t d = d
    none_rooted (Unban q to) k t d = d

    by_delivery : (m : Message) (e : Event) → IsDelivery cluster h m e → is_led e ≡ false
    by_delivery m (Root k t) d = absurd (none_rooted m k t d)
    by_delivery m (Ask p k n child) d = absurd (none_asked m p k n child d)
    by_delivery m (Write index shard outcome id) d = absurd (none_written m index id shard outcome d)
    by_delivery m (Work t) d = absurd (none_worked m t d)
    by_delivery m (End t reply) d = absurd (none_ended m t reply d)
    by_delivery m _ d = refl

    delivered : (nth : ℕ) (new : List Event) → Delivers cluster h nth new → Keeps h new
    delivered nth new (m, e, at, is, same) keeps = subst Holds (sym same) (due_after e h (one e h (by_delivery m e is) keeps))

  delivered_where : (cluster : Cluster) (nth : ℕ) (h new : List Event) → DeliversWhere cluster nth h new → Keeps h new
  delivered_where cluster nth h new (inl d) = delivered cluster h nth new d
  delivered_where cluster nth h new (inr (none, same)) = stays h new same

  -- ---- a run

  module _ (cluster : Cluster) (corpus : Corpus) (script : Script) (start : Holds []) (rooted : (k : ℕ) (t : TaskId) (h : List Event) → StartFits corpus script k h → Holds h → Holds (Root k t ∷ h))
      (step : (t : TaskId) (h : List Event) (e : Event) → next_of cluster corpus script t h ≡ Some e → is_work e ≡ false → Holds h → Holds (e ∷ h))
      (turn : (t u : TaskId) (h : List Event) → next_of cluster corpus script t h ≡ Some (Work u) → Keeps h (after_turn cluster corpus (scripted script) u h)) where
    by_start : (command node : ℕ) (started : Bool) (h : List Event) (e : Event) → StartFits corpus script command h → IsStart cluster h command node started e → Keeps h (e ∷ h)
    by_start command node true h (Root c t) fits s = λ keeps. rooted c t h (subst (λ k. StartFits corpus script k h) (sym s.2) fits) keeps
    by_start command node false h (Root c t) fits s = absurd s
    by_start command node true h (Ask p k n child) fits s = absurd s
    by_start command node false h (Ask p k n child) fits s = absurd s
    by_start command node true h (Write index shard outcome id) fits s = absurd s
    by_start command node false h (Write index shard outcome id) fits s = absurd s
    by_start command node true h (Work t) fits s = absurd s
    by_start command node false h (Work t) fits s = absurd s
    by_start command node true h (End t reply) fits s = absurd s
    by_start command node false h (End t reply) fits s = absurd s
    by_start command node started h e fits s = one e h refl

    started_where : (b : Bool) (k node : ℕ) (h new : List Event) → (b ≡ true → StartFits corpus script k h) → StartsWhere cluster b k node h new → Keeps h new
    started_where true k node h new fits (started, (e, is, same)) = λ keeps. subst Holds (sym same) (by_start k node started h e (fits refl) is keeps)
    started_where false k node h new fits same = stays h new same

    after_one : (t : TaskId) (h : List Event) (e : Event) → next_of cluster corpus script t h ≡ Some e → Keeps h (after_step cluster corpus script e h)
    after_one t h (Work u) next keeps = turn t u h next keeps
    after_one t h e next keeps = due_after e h (step t h e next refl keeps)

    stepped : (t : TaskId) (h new : List Event) (answer : Stepped) → AnswersStep cluster corpus script t h answer new → Keeps h new
    stepped t h new Done (e, live, next, same) keeps = subst Holds (sym same) (after_one t h e next keeps)
    stepped t h new Waiting (live, waits, same) keeps = stays h new same keeps
    stepped t h new NotRunning (gone, same) keeps = stays h new same keeps

    moved : (h new : List Event) → FirstMoves cluster corpus script h new → Keeps h new
    moved h new (inl d) = delivered cluster h 0 new d
    moved h new (inr (inl (none, (l, first, lists)))) = listed_after l h new lists
    moved h new (inr (inr (none, closed, (t, first, steps)))) = stepped t h new Done steps

    passed : (h : List Event) (between : List (List Event)) (new : List Event) → Passes cluster corpus script h between new → Keeps h new
    passed h [] new same = stays h new (sym same)
    passed h (next ∷ later) new (m, p) = λ keeps. passed next later new p (moved h next m keeps)

    settled : (h new : List Event) → Settles cluster corpus script h new → Keeps h new
    settled h new (rests, (between, p)) = passed h between new p

    partly_settled : (h new : List Event) → PartlySettles cluster corpus script h new → Holds h → HoldsOfPart new
    partly_settled h new (between, now, p, part) keeps = part_kept (FirstMoves cluster corpus script) now new (λ whole m. moved now whole m) part (passed h between now p keeps)

    made : (move : Move) (h new : List Event) → Makes cluster corpus script move h new → Keeps h new
    made (moves.Deliver nth) h new d = delivered cluster h nth new d
    made (moves.List l) h new lists = listed_after l h new lists
    made (moves.Step t) h new steps = stepped t h new Done steps

    made_by : (chance : ℕ) (h new : List Event) → MovesBy cluster corpus script chance h new → Keeps h new
    made_by chance h new (move, chosen, m) = made move h new m

    shuffled : (chance more : ℕ) (h new : List Event) → Shuffles cluster corpus script chance more h new → Keeps h new
    shuffled chance zero h new same = stays h new same
    shuffled chance (suc more) h new (inl (rests, same)) = stays h new same
    shuffled chance (suc more) h new (inr (next, m, later)) = λ keeps. shuffled (next_number chance) more next new later (made_by (next_number chance) h next m keeps)

    partly_shuffled : (chance more : ℕ) (h new : List Event) → PartlyShuffles cluster corpus script chance more h new → Holds h → HoldsOfPart new
    partly_shuffled chance zero h new same = λ keeps. of_part new (stays h new same keeps)
    partly_shuffled chance (suc more) h new (inl part) = part_kept (MovesBy cluster corpus script (next_number chance)) h new (λ whole m. made_by (next_number chance) h whole m) part
    partly_shuffled chance (suc more) h new (inr (next, m, later)) = λ keeps. partly_shuffled (next_number chance) more next new later (made_by (next_number chance) h next m keeps)

    done : (k : ℕ) (command : Command) → command_at script k ≡ Some command → (h new : List Event) → Does cluster corpus script k command h new → Keeps h new
    done k (Search index node scroll body opaque_id) at h new d = started_where (can_start corpus script.commands index scroll body) k node h new (λ can. command_fits script k h corpus (Search index node scroll body opaque_id) at can (search_fits script k h (search_of (Search index node scroll body opaque_id)))) d
    done k (Scroll target keep opaque_id) at h new d = started_where (can_page script target h) k (page_node target h) h new (λ can. command_fits script k h corpus (Scroll target keep opaque_id) at can (page_fits script k h target keep can)) d
    done k (ClearScroll target) at h new same = stays h new same
    done k (Reindex node body slices rate opaque_id store) at h new d = started_where (can_copy corpus script.commands body) k node h new (λ can. command_fits script k h corpus (Reindex node body slices rate opaque_id store) at can (reindex_fits script k h (reindex_of (Reindex node body slices rate opaque_id store)))) d
    done k (CancelTasks target reason wait) at h new same = λ keeps. subst Holds (sym same) (by_target cluster script k target wait h keeps)
    done k (ListTasks wanted group detailed) at h new same = stays h new same
    done k (GetTask task wait) at h new same = stays h new same
    done k (ForgetTask task) at h new same = stays h new same
    done k ListResults at h new same = stays h new same
    done k (Tick ms) at h new same = one_event h new (TickEvent ms) refl same
    done k (Deliver nth) at h new d = delivered_where cluster nth h new d
    done k (Step task) at h new (answer, a) = stepped task h new answer a
    done k (ListStep node parent) at h new d = listed_where (record { node = node; parent = parent }) h new d
    done k Settle at h new d = settled h new d
    done k (Shuffle seed more) at h new d = shuffled seed more h new d
    done k (WaitFor command) at h new d = settled h new d
    done k History at h new same = stays h new same
    done k Summary at h new same = stays h new same

    partly_done : (k : ℕ) (command : Command) → command_at script k ≡ Some command → (h new : List Event) → PartlyDoes cluster corpus script k command h new → Holds h → HoldsOfPart new
    partly_done k Settle at h new p = partly_settled h new p
    partly_done k (Shuffle seed more) at h new p = partly_shuffled seed more h new p
    partly_done k (WaitFor command) at h new p = partly_settled h new p
    partly_done k command at h new p = part_kept (Does cluster corpus script k command) h new (λ whole d. done k command at h whole d) p

    has_run : (n : ℕ) (h : List Event) → HasRun cluster corpus script n h → Holds h
    has_run zero h none = subst Holds (sym none) start
    has_run (suc n) h (before, run, (command, at, does)) = done (suc n) command at (Begin (suc n) ∷ before) h does (one (Begin (suc n)) before refl (has_run n before run))

    partly_commanded : (k : ℕ) (h new : List Event) → PartlyCommands cluster corpus script k h new → Holds h → HoldsOfPart new
    partly_commanded k h new (inl same) = λ keeps. of_part new (stays h new same keeps)
    partly_commanded k h new (inr (command, at, part)) = λ keeps. partly_done k command at (Begin k ∷ h) new part (one (Begin k) h refl keeps)

    again : (h : List Event) (between : List (List Event)) (start : List Event) → StartsAgain cluster corpus script h between start → Keeps h start
    again h [] start same = stays h start same
    again h (now ∷ later) start (settles, (due, next, starts)) = λ keeps. again (ticked_to due now) later start starts (one _ now refl (settled h now settles keeps))

    partly_drained : (h new : List Event) → PartlyDrains cluster corpus script h new → Holds h → HoldsOfPart new
    partly_drained h new (inl same) = λ keeps. of_part new (stays h new same keeps)
    partly_drained h new (inr (between, start, starts, part)) = λ keeps. partly_settled start new part (again (Begin (closing script) ∷ h) between start starts (one (Begin (closing script)) h refl keeps))

    pub each_rooted_run : (h : List Event) → IsRunSoFar cluster corpus script h → HoldsOfPart h
    each_rooted_run h (inl (n, before, run, part)) = partly_commanded (suc n) before h part (has_run n before run)
    each_rooted_run h (inr (before, run, part)) = partly_drained before h part (has_run (length script.commands) before run)

-- where the start of a root leaves it so as other events do
module _ (Holds HoldsOfPart : List Event → Type 0) (of_part : (h : List Event) → Holds h → HoldsOfPart h) (earlier : (e : Event) (h : List Event) → HoldsOfPart (e ∷ h) → HoldsOfPart h)
    (one : (e : Event) (h : List Event) → is_own e ≡ false → Holds h → Holds (e ∷ h)) where
  one_else : (e : Event) (h : List Event) → is_led e ≡ false → Holds h → Holds (e ∷ h)
  one_else (Root k t) h quiet = absurd (cc)
  one_else e h quiet = one e h quiet

  pub each_run : (cluster : Cluster) (corpus : Corpus) (script : Script) → Holds [] → ((t : TaskId) (h : List Event) (e : Event) → next_of cluster corpus script t h ≡ Some e → is_work e ≡ false → Holds h → Holds (e ∷ h))
      → ((t u : TaskId) (h : List Event) → next_of cluster corpus script t h ≡ Some (Work u) → Holds h → Holds (after_turn cluster corpus (scripted script) u h)) → (h : List Event) → IsRunSoFar cluster corpus script h → HoldsOfPart h
  each_run cluster corpus script start = each_rooted_run Holds HoldsOfPart of_part earlier one_else cluster corpus script start (λ k t h fits. one (Root k t) h refl)
