-- Only cancels of the script name tasks, so each mark and each refusal has the number of one.
use Rattle.std.proofs.Common.{cond, ◌≡◌, ◌⊎◌, ℕ, zero, suc, Bool, true, false, List, [], ◌∷◌, ◌++◌, map, reverse, length, Option, Some, None, inl, inr, refl, sym, ap, subst, ◌∙◌, arith, append_assoc}
use mathlib.Core.List.{reverse-cons}
use Rattle.std.specs.Prelude.{◌==◌, is_some, option_map, if◌then◌else◌}
use Rattle.std.specs.Option.{option_map_or}
use Rattle.search_phase.proofs.Sorting.{by_test}
use Rattle.task_ids.specs.declared.cluster.Cluster.{Cluster}
use Rattle.task_ids.specs.declared.corpus.Corpus.{Corpus}
use Rattle.task_ids.specs.declared.task_id.TaskId.{TaskId}
use Rattle.task_events.specs.declared.event.Event.{Event}
use Rattle.task_events.specs.declared.event.Event.TheVariants.{Begin, Refuse, Cancel, NotFound, Mark, Listed, Acked, Work, End}
use Rattle.task_events.specs.declared.step.Do.{Do}
use Rattle.task_events.specs.declared.step.Do.TheVariants.{AskNext, Turn, Wait, Finish}
use Rattle.task_events.specs.Asks.{Pending, unanswered}
use Rattle.task_events.specs.Bans.{mark_of, ban_over}
use Rattle.task_events.specs.Cancels.{is_named, names_one_of}
use Rattle.task_events.specs.Laws.{CancelsWithCause}
use Rattle.task_events.specs.Messages.{Message}
use Rattle.task_events.specs.Messages.Message.{Request, Answer, Ban, Ack, Unban}
use Rattle.task_events.specs.Requests.{request_of}
use Rattle.task_events.specs.declared.reply.Counts.{Counts}
use Rattle.task_events.specs.declared.request.WriteNote.{WriteNote}
use Rattle.task_events.specs.Written.{corpus_at, turn_notes, with_notes, write_of}
use Rattle.task_events.specs.Steps.{counted, event_of, first_step, cancelled_step, step_of_passed, planned_step, turns_of}
use Rattle.task_events.specs.Tasks.{is_live, is_new, ancestors}
use Rattle.task_laws.proofs.Same.{same_tests}
use Rattle.script_lang.specs.declared.command.CancelTarget.{CancelTarget}
use Rattle.script_lang.specs.declared.command.CancelTarget.TheVariants.{Task, Matching, Command as Of}
use Rattle.script_lang.specs.declared.command.Command.{Command}
use Rattle.script_lang.specs.declared.command.Command.TheVariants as commands
use Rattle.script_lang.specs.declared.command.Script.{Script}
use Rattle.world_moves.specs.Cancels.{after_cancel, after_cancel_of, after_naming, answer_by, answer_to, due_for, is_due, targets, waits_for_end, with_answers, with_cancel, with_cancels, with_due}
use Rattle.node_parts.specs.declared.listing.Listing.{Listing}
use Rattle.world_moves.specs.Listings.{IsListStep, ListSteps}
use Rattle.world_moves.specs.Moves.{IsDelivery, Delivers, IsStart, Starts}
use Rattle.command_roots.specs.Roots.{command_at, root_of, scripted}
use Rattle.world_steps.specs.declared.acting.Stepped.{Stepped}
use Rattle.world_steps.specs.declared.acting.Stepped.TheVariants.{Done, Waiting, NotRunning}
use Rattle.world_steps.specs.Draining.{Empties, StartsAgain, ticked_to}
use Rattle.script_lang.specs.Generator.{next_number}
use Rattle.world_steps.specs.declared.shuffling.Move.{Move}
use Rattle.world_steps.specs.declared.shuffling.Move.TheVariants as moves
use Rattle.world_steps.specs.Shuffling.{Makes, Shuffles}
use Rattle.world_steps.specs.Runs.{after_step, AnswersStep, FirstMoves, Passes, Settles, Steps}
use Rattle.world_steps.specs.Scripts.{StartsWhere, DeliversWhere, ListsWhere, Does, HasRun, IsRun, can_copy, can_page, can_start, closing, page_node}
use Rattle.task_top.specs.EachLine.{IsCancelAt, TellsReasons}

-- ---- events that name no task

abbrev is_naming : Event → Bool
is_naming (Cancel c t wait) = true
is_naming _ = false

module _ (c : ℕ) (t : TaskId) where
  -- what the cancellation named, it has named before
  abbrev NamesNoMore : List Event → List Event → Type 0
  NamesNoMore h new = is_named c t new ≡ is_named c t h

  one_more : (e : Event) (h : List Event) → is_naming e ≡ false → NamesNoMore h (e ∷ h)
  one_more (Cancel d u wait) h none = absurd (cc)
  one_more _ h none = refl

  answer_more : (wait : Bool) (d : ℕ) (h : List Event) → NamesNoMore h (answer_by wait d ∷ h)
  answer_more true d h = refl
  answer_more false d h = refl

  all_answers_more : (past : List Event) (ds : List ℕ) (h : List Event) → NamesNoMore h (reverse (map (answer_to past) ds) ++ h)
  all_answers_more past [] h = refl
  all_answers_more past (d ∷ ds) h =
      ap (λ es. is_named c t (es ++ h)) (reverse-cons (answer_to past d) (map (answer_to past) ds))
      ∙ ap (is_named c t) (append_assoc (reverse (map (answer_to past) ds)) (answer_to past d ∷ []) h)
      ∙ all_answers_more past ds (answer_to past d ∷ h) ∙ answer_more (waits_for_end d past) d h

  answers_more : (u : TaskId) (h : List Event) → NamesNoMore h (with_answers u h)
  answers_more u h = all_answers_more h (due_for u h) h

  due_more : (e : Event) (h : List Event) → is_naming e ≡ false → NamesNoMore h (with_due e h)
  due_more (Refuse u d) h none = answers_more u (Refuse u d ∷ h)
  due_more (End u reply) h none = answers_more u (End u reply ∷ h)
  due_more (Acked p n) h none = answers_more p (Acked p n ∷ h)
  due_more (Cancel d u wait) h none = absurd (cc)
  due_more _ h none = refl

  -- ---- moves

  module _ (cluster : Cluster) (h : List Event) where
    no_delivery : (m : Message) (d : ℕ) (u : TaskId) (wait : Bool) → IsDelivery cluster h m (Cancel d u wait) → ⊥
    no_delivery (Request p j n r) d u wait is = is
    no_delivery (Answer p j reply) d u wait is = is
    no_delivery (Ban p e n) d u wait is = is
    no_delivery (Ack p n) d u wait is = is
    no_delivery (Unban p n) d u wait is = is

    by_delivery : (m : Message) (e : Event) → IsDelivery cluster h m e → is_naming e ≡ false
    by_delivery m (Cancel d u wait) is = absurd (no_delivery m d u wait is)
    by_delivery m _ is = refl

    by_start : (command node : ℕ) (started : Bool) (e : Event) → IsStart cluster h command node started e → is_naming e ≡ false
    by_start command node true (Cancel d u wait) is = absurd is
    by_start command node false (Cancel d u wait) is = absurd is
    by_start command node started _ is = refl

    delivers_more : (nth : ℕ) (new : List Event) → Delivers cluster h nth new → NamesNoMore h new
    delivers_more nth new (m, e, at, is, same) = ap (is_named c t) same ∙ due_more e h (by_delivery m e is)

    starts_more : (command node : ℕ) (started : Bool) (new : List Event) → Starts cluster h command node started new → NamesNoMore h new
    starts_more command node started new (e, is, same) = ap (is_named c t) same ∙ one_more e h (by_start command node started e is)

  by_listing : (l : Listing) (h : List Event) (e : Event) → IsListStep l h e → is_naming e ≡ false
  by_listing l h (Mark u d) is = refl
  by_listing l h (Listed n p) is = refl
  by_listing l h _ is = absurd is

  lists_more : (l : Listing) (h new : List Event) → ListSteps l h new → NamesNoMore h new
  lists_more l h new (e, opened, is, same) = ap (is_named c t) same ∙ one_more e h (by_listing l h e is)

  module _ (cluster : Cluster) (u : TaskId) (h : List Event) where
    not_naming : (e d : Event) → is_naming d ≡ false → Some d ≡ Some e → is_naming e ≡ false
    not_naming e d none same = subst (λ o. option_map_or is_naming o false ≡ false) same none

    by_first : (ban : Option ℕ) (e : Event) → Some (first_step u ban) ≡ Some e → is_naming e ≡ false
    by_first None e same = not_naming e (first_step u None) refl same
    by_first (Some d) e same = not_naming e (first_step u (Some d)) refl same

    by_mark : (d : ℕ) (counts : Counts) (asks : List Pending) (e : Event) → cancelled_step u d counts asks ≡ Some e → is_naming e ≡ false
    by_mark d counts [] e same = subst (λ o. option_map_or is_naming o false ≡ false) same refl
    by_mark d counts (ask ∷ asks) e same = absurd (cc)

    by_plan : (d : Do) (e : Event) → event_of cluster u h d ≡ Some e → is_naming e ≡ false
    by_plan (AskNext request) e same = subst (λ o. option_map_or is_naming o false ≡ false) same refl
    by_plan Turn e same = subst (λ o. option_map_or is_naming o false ≡ false) same refl
    by_plan (Wait due) e same = absurd (cc)
    by_plan (Finish reply) e same = subst (λ o. option_map_or is_naming o false ≡ false) same refl

    by_step : (new : Bool) (mark : Option ℕ) (counts : Counts) (plan : Option Do) (e : Event) → cond new (Some (first_step u (ban_over u h))) (step_of_passed cluster u h mark counts plan) ≡ Some e → is_naming e ≡ false
    by_step true mark counts plan e same = by_first (ban_over u h) e same
    by_step false (Some d) counts plan e same = by_mark d counts (unanswered u h) e same
    by_step false None counts None e same = absurd (cc)
    by_step false None counts (Some d) e same = by_plan d e same

  notes_more : (notes : List WriteNote) (h : List Event) → NamesNoMore h (with_notes notes h)
  notes_more [] h = refl
  notes_more (note ∷ notes) h = notes_more notes (write_of note ∷ h)

  module _ (cluster : Cluster) (corpus : Corpus) (script : Script) where
    step_more : (e : Event) (h : List Event) → is_naming e ≡ false → NamesNoMore h (after_step cluster corpus script e h)
    step_more (Work u) h none = notes_more (option_map_or (λ request. turn_notes cluster (corpus_at corpus (scripted script) h) request (turns_of u h)) (request_of (scripted script) u h) []) (Work u ∷ h)
    step_more e h none = due_more e h none

    steps_more : (u : TaskId) (h new : List Event) → Steps cluster corpus script u h new → NamesNoMore h new
    steps_more u h new (e, live, next, same) =
        ap (is_named c t) same
        ∙ step_more e h (by_step cluster u h (is_new u h) (mark_of u h) (counted cluster corpus (scripted script) u h) (option_map (λ request. planned_step cluster corpus (scripted script) u request h) (request_of (scripted script) u h)) e next)

    answers_step_more : (u : TaskId) (h new : List Event) (stepped : Stepped) → AnswersStep cluster corpus script u h stepped new → NamesNoMore h new
    answers_step_more u h new Done steps = steps_more u h new steps
    answers_step_more u h new Waiting (live, waits, same) = ap (is_named c t) same
    answers_step_more u h new NotRunning (gone, same) = ap (is_named c t) same

    first_more : (h new : List Event) → FirstMoves cluster corpus script h new → NamesNoMore h new
    first_more h new (inl d) = delivers_more cluster h 0 new d
    first_more h new (inr (inl (none, (l, first, lists)))) = lists_more l h new lists
    first_more h new (inr (inr (none, closed, (u, first, steps)))) = steps_more u h new steps

    passes_more : (h : List Event) (between : List (List Event)) (new : List Event) → Passes cluster corpus script h between new → NamesNoMore h new
    passes_more h [] new same = ap (is_named c t) (sym same)
    passes_more h (next ∷ later) new (m, p) = passes_more next later new p ∙ first_more h next m

    settles_more : (h new : List Event) → Settles cluster corpus script h new → NamesNoMore h new
    settles_more h new (rests, (between, p)) = passes_more h between new p

    makes_more : (move : Move) (h new : List Event) → Makes cluster corpus script move h new → NamesNoMore h new
    makes_more (moves.Deliver nth) h new d = delivers_more cluster h nth new d
    makes_more (moves.List l) h new lists = lists_more l h new lists
    makes_more (moves.Step u) h new steps = steps_more u h new steps

    shuffles_more : (chance count : ℕ) (h new : List Event) → Shuffles cluster corpus script chance count h new → NamesNoMore h new
    shuffles_more chance zero h new same = ap (is_named c t) same
    shuffles_more chance (suc more) h new (inl (rests, same)) = ap (is_named c t) same
    shuffles_more chance (suc more) h new (inr (next, (move, chosen, made), later)) = shuffles_more (next_number chance) more next new later ∙ makes_more move h next made

    again_more : (h : List Event) (between : List (List Event)) (start : List Event) → StartsAgain cluster corpus script h between start → NamesNoMore h start
    again_more h [] start same = ap (is_named c t) same
    again_more h (settled ∷ later) start (settles, (due, soonest, goes)) = again_more (ticked_to due settled) later start goes ∙ settles_more h settled settles

    drains_more : (h new : List Event) → Empties cluster corpus script h new → NamesNoMore h new
    drains_more h new (none, (between, start, goes, settles)) = settles_more start new settles ∙ again_more h between start goes

    -- ---- commands

    starts_where : (b : Bool) (k node : ℕ) (h new : List Event) → StartsWhere cluster b k node h new → NamesNoMore h new
    starts_where true k node h new (started, s) = starts_more cluster h k node started new s
    starts_where false k node h new same = ap (is_named c t) same

    delivers_where : (nth : ℕ) (h new : List Event) → DeliversWhere cluster nth h new → NamesNoMore h new
    delivers_where nth h new (inl d) = delivers_more cluster h nth new d
    delivers_where nth h new (inr (none, same)) = ap (is_named c t) same

    lists_where : (l : Listing) (h new : List Event) → ListsWhere l h new → NamesNoMore h new
    lists_where l h new (inl s) = lists_more l h new s
    lists_where l h new (inr (closed, same)) = ap (is_named c t) same

    -- a cancel names with its own number
    module _ (k : ℕ) (apart : (c == k) ≡ false) (wait : Bool) where
      cancel_more : (u : TaskId) (h : List Event) → NamesNoMore h (with_cancel k u wait h)
      cancel_more u h = by_mark (is_some (mark_of u h))
        where
          by_mark : (b : Bool) → NamesNoMore h (if b then Cancel k u wait ∷ h else Mark u k ∷ Cancel k u wait ∷ h)
          by_mark true = grind (arith, same_tests)
          by_mark false = grind (arith, same_tests)

      cancels_more : (us : List TaskId) (h : List Event) → NamesNoMore h (with_cancels k wait us h)
      cancels_more [] h = refl
      cancels_more (u ∷ us) h = cancels_more us (with_cancel k u wait h) ∙ cancel_more u h

      naming_more : (us : List TaskId) (h : List Event) → NamesNoMore h (after_naming k wait us h)
      naming_more us h = by_due (is_due (with_cancels k wait us h) k) ∙ cancels_more us h
        where
          by_due : (b : Bool) → NamesNoMore (with_cancels k wait us h) (if b then answer_by wait k ∷ with_cancels k wait us h else with_cancels k wait us h)
          by_due true = answer_more wait k (with_cancels k wait us h)
          by_due false = refl

      cancel_of_more : (o : Option TaskId) (h : List Event) → NamesNoMore h (after_cancel_of k wait o h)
      cancel_of_more None h = refl
      cancel_of_more (Some u) h = by_live (is_live u h)
        where
          by_live : (b : Bool) → NamesNoMore h (if b then after_naming k wait (u ∷ []) h else NotFound k ∷ h)
          by_live true = naming_more (u ∷ []) h
          by_live false = refl

      after_more : (target : CancelTarget) (h : List Event) → NamesNoMore h (after_cancel cluster script k target wait h)
      after_more (Matching wanted) h = naming_more (targets cluster script wanted h) h
      after_more (Task u) h = cancel_of_more (Some u) h
      after_more (Of d) h = cancel_of_more (root_of d h) h

    -- what a command names is its own, and it is a cancel
    by_command : (k : ℕ) (command : Command) → command_at script k ≡ Some command → (h new : List Event) → Does cluster corpus script k command h new → is_named c t new ≡ true → (is_named c t h ≡ true) ⊎ IsCancelAt script c
    by_command k (commands.Search index node scroll body opaque_id) at h new does named = inl (sym (starts_where (can_start corpus script.commands index scroll body) k node h new does) ∙ named)
    by_command k (commands.Scroll target keep opaque_id) at h new does named = inl (sym (starts_where (can_page script target h) k (page_node target h) h new does) ∙ named)
    by_command k (commands.Reindex node body slices rate opaque_id store) at h new does named = inl (sym (starts_where (can_copy corpus script.commands body) k node h new does) ∙ named)
    by_command k (commands.ClearScroll target) at h new does named = inl (sym (ap (is_named c t) does) ∙ named)
    by_command k (commands.Tick ms) at h new does named = inl (sym (ap (is_named c t) does) ∙ named)
    by_command k (commands.Cancel target reason wait) at h new does named =
        by_test (c == k)
        (λ yes. let same : c ≡ k = grind (arith, same_tests) in inr (target, reason, wait, ap (command_at script) same ∙ at))
        (λ no. inl (sym (ap (is_named c t) does ∙ after_more k no wait target h) ∙ named))
    by_command k (commands.ListTasks wanted group detailed) at h new does named = inl (sym (ap (is_named c t) does) ∙ named)
    by_command k (commands.GetTask task wait) at h new does named = inl (sym (ap (is_named c t) does) ∙ named)
    by_command k (commands.ForgetTask task) at h new does named = inl (sym (ap (is_named c t) does) ∙ named)
    by_command k commands.ListResults at h new does named = inl (sym (ap (is_named c t) does) ∙ named)
    by_command k (commands.Deliver nth) at h new does named = inl (sym (delivers_where nth h new does) ∙ named)
    by_command k (commands.Step u) at h new does named = inl (sym (answers_step_more u h new does.0 does.1) ∙ named)
    by_command k (commands.ListStep node parent) at h new does named = inl (sym (lists_where (record { node = node; parent = parent }) h new does) ∙ named)
    by_command k commands.Settle at h new does named = inl (sym (settles_more h new does) ∙ named)
    by_command k (commands.Shuffle seed moves) at h new does named = inl (sym (shuffles_more seed moves h new does) ∙ named)
    by_command k (commands.WaitFor waited) at h new does named = inl (sym (settles_more h new does) ∙ named)
    by_command k commands.Summary at h new does named = inl (sym (ap (is_named c t) does) ∙ named)
    by_command k commands.History at h new does named = inl (sym (ap (is_named c t) does) ∙ named)

    in_run : (n : ℕ) (h : List Event) → HasRun cluster corpus script n h → is_named c t h ≡ true → IsCancelAt script c
    in_run zero h none named = absurd (let false_is = sym (ap (is_named c t) none) ∙ named in cc)
    in_run (suc n) h (before, runs, (command, at, does)) named = by_turn (in_run n before runs) (by_command (suc n) command at (Begin (suc n) ∷ before) h does named)
      where
        by_turn : (is_named c t before ≡ true → IsCancelAt script c) → (is_named c t before ≡ true) ⊎ IsCancelAt script c → IsCancelAt script c
        by_turn older (inl earlier) = older earlier
        by_turn older (inr here) = here

    pub named_by_cancel : (h : List Event) → IsRun cluster corpus script h → is_named c t h ≡ true → IsCancelAt script c
    named_by_cancel h (before, runs, drains) named = in_run (length script.commands) before runs (sym (drains_more (Begin (closing script) ∷ before) h drains) ∙ named)

-- ---- marks and refusals

some_named : (c : ℕ) (ts : List TaskId) (h : List Event) → names_one_of c ts h ≡ true → (t : TaskId) × (is_named c t h ≡ true)
some_named c [] h e = absurd (cc)
some_named c (t ∷ ts) h e = by_test (is_named c t h) (λ yes. (t, yes)) (λ no. some_named c ts h (rw no at e))

module _ (cluster : Cluster) (corpus : Corpus) (script : Script) (h : List Event) (run : IsRun cluster corpus script h) (causes : CancelsWithCause h) where
  by_one : (c : ℕ) (ts : List TaskId) → names_one_of c ts h ≡ true → IsCancelAt script c
  by_one c ts e = let found = some_named c ts h e in named_by_cancel c found.0 cluster corpus script h run found.1

  -- Each mark and each refusal has the number of a cancel of the script.
  pub tells_reasons : TellsReasons script h
  tells_reasons = record {
    marks = λ t c marked. by_one c (t ∷ ancestors t h) (causes.mark t c marked);
    refusals = λ t c refused. by_one c (ancestors t h) (causes.refusal t c refused);
  }
