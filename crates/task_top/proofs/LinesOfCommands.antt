-- What stands in a whole run for the line of each kind of command.
use Rattle.std.proofs.Common.{◌≡◌, ◌⊎◌, ◌≤◌, ℕ, zero, suc, Bool, true, false, List, [], ◌∷◌, ◌++◌, length, Option, Some, None, Result, Ok, Err, inl, inr, refl, sym, ap, subst, ◌∙◌, arith}
use Rattle.std.specs.Prelude.{is_ok, is_some, option_and_then, option_map}
use Rattle.std.specs.Result.{result_ok}
use Rattle.std.proofs.lemmas.Option.{slice_get_within}
use Rattle.serde_json.specs.Data.{Data}
use Rattle.query_match.specs.declared.body.SearchBody.{SearchBody}
use Rattle.query_parse.specs.declared.fault.BodyError.{BodyError}
use Rattle.query_parse.specs.declared.fault.ReindexError.{ReindexError}
use Rattle.query_parse.specs.declared.reindex_body.ReindexBody.{ReindexBody}
use Rattle.query_parse.specs.Bodies.{body_at}
use Rattle.query_parse.specs.Reindexes.{reindex_at}
use Rattle.std.specs.Option.{option_map_or}
use Rattle.task_ids.specs.declared.cluster.Cluster.{Cluster}
use Rattle.task_ids.specs.declared.corpus.Corpus.{Corpus}
use Rattle.task_ids.specs.declared.task_id.TaskId.{TaskId}
use Rattle.task_ids.specs.declared.text.Text.{Text}
use Rattle.task_events.specs.declared.event.Event.{Event}
use Rattle.task_events.specs.declared.event.Event.TheVariants.{Begin, Root, RootRejected, Tick}
use Rattle.task_events.specs.declared.reply.Reply.{Reply}
use Rattle.task_events.specs.declared.request.ReindexAsk.{ReindexAsk}
use Rattle.task_events.specs.declared.request.Request.{Request}
use Rattle.task_events.specs.declared.request.Request.TheVariants as asks
use Rattle.task_events.specs.Lawful.{Lawful}
use Rattle.task_events.specs.Laws.{IsDrained}
use Rattle.task_events.specs.Messages.{in_flight}
use Rattle.task_events.specs.Tasks.{is_live, reply_of}
use Rattle.task_events.specs.Turns.{events_of, history_before}
use Rattle.command_roots.proofs.AskLemmas.{ask_there}
use Rattle.command_roots.proofs.BatchLemmas.{batch_read}
use Rattle.world_steps.proofs.Commanded.{asks_page}
use Rattle.world_steps.proofs.Passing.{due_longer, step_longer}
use Rattle.script_lang.specs.declared.command.ContextTarget.{ContextTarget}
use Rattle.script_lang.specs.declared.command.Command.{Command}
use Rattle.script_lang.specs.declared.command.Command.TheVariants as commands
use Rattle.script_lang.specs.declared.command.Script.{Script}
use Rattle.script_lang.specs.Fits.{IsRate, IsSliceCount}
use Rattle.world_moves.specs.Cancels.{AllAnswered, with_due}
use Rattle.node_parts.specs.declared.listing.Listing.{Listing}
use Rattle.world_moves.specs.Listings.{is_open}
use Rattle.world_moves.specs.Moves.{IsStart}
use Rattle.world_moves.specs.Plain.{AnswersPlainly}
use Rattle.command_roots.specs.Known.{is_known}
use Rattle.command_roots.specs.Reindexes.{reindex_ask}
use Rattle.command_roots.specs.Roots.{command_at, context_named, least_size, page_at, request_in, root_request, search_ask}
use Rattle.world_steps.specs.declared.acting.Stepped.{Stepped}
use Rattle.world_steps.specs.declared.acting.Stepped.TheVariants.{Done, Waiting, NotRunning}
use Rattle.world_steps.specs.Runs.{after_step, AnswersStep}
use Rattle.world_steps.specs.Scripts.{StartsWhere, DeliversWhere, ListsWhere, CanRun, IsRun, IsRunSoFar, can_copy, can_page, can_start, page_node}
use Rattle.task_top.specs.EachLine.{as_began, IsSearchReply, TellsPage, TellsReindex, TellsSearch, HasEnded, Moved, Waits, HasItsLine, EachHasItsLine}
use Rattle.query_parse.proofs.FaultsTold.{fault_told}
use Rattle.task_top.proofs.CancelLines.{cancel_told}
use Rattle.task_top.proofs.GetsTold.{get_told}
use Rattle.task_top.proofs.LiveRows.{can_at, run_asked}
use Rattle.task_top.proofs.PagesBegun.{node_before, page_before}
use Rattle.task_top.proofs.RootEnds.{IsReplyOf, has_replied, replies_so}
use Rattle.task_top.proofs.TurnEvents.{HasDone, told_as, some_told, done_in_whole}

-- ---- roots

module _ (cluster : Cluster) (corpus : Corpus) (script : Script) (h : List Event) (k : ℕ) where
  -- ---- the root of a command that could start

  module _ (lawful : Lawful cluster h) (drained : IsDrained h) (plain : AnswersPlainly cluster corpus script h) (command : Command) (done : HasDone cluster corpus script k command h) where
    abbrev began : List Event
    began = Begin k ∷ done.before

    module _ (request : Request) (asked : root_request script k began ≡ Some request) where
      started : (t : TaskId) → done.after ≡ Root k t ∷ began → HasEnded (IsReplyOf request) k h
      started t same = record {
        task = t;
        reply = reply.0;
        started = told_as cluster corpus script k _ h done (Root k t ∷ []) same;
        replied = ap (reply_of t) whole ∙ reply.1;
        told = replies_so cluster corpus script k t began request asked done.later reply.0 (subst (Lawful cluster) whole lawful) (subst (AnswersPlainly cluster corpus script) whole plain) reply.1;
      }
        where
          whole : h ≡ done.later ++ Root k t ∷ began
          whole = done.stands ∙ ap (λ l. done.later ++ l) same

          given : (o : Option Reply) → is_some o ≡ true → (reply : Reply) × (o ≡ Some reply)
          given None e = absurd (cc)
          given (Some reply) e = (reply, refl)

          reply : (reply : Reply) × (reply_of t (done.later ++ Root k t ∷ began) ≡ Some reply)
          reply = given _ (has_replied k t began done.later (ap (is_live t) (sym whole) ∙ drained.nothing_live t))

      -- its node had no slot, or its task ended
      pub root_told : (node : ℕ) (begins : Bool) (e : Event) → IsStart cluster began k node begins e → done.after ≡ e ∷ began → (events_of k h ≡ RootRejected k node ∷ []) ⊎ HasEnded (IsReplyOf request) k h
      root_told node true (Root c t) (takes, there, number) same = inr (started t (same ∙ ap (λ n. Root n t ∷ began) number))
      root_told node false (RootRejected c n) (full, there, number) same = inl (told_as cluster corpus script k _ h done (RootRejected k node ∷ []) (same ∙ (λ i. RootRejected (number i) (there i) ∷ began)))
      root_told node true _ s same = absurd s
      root_told node false _ s same = absurd s

  -- ---- a search

  module _ (index : Text) (node : ℕ) (scroll : Option ℕ) (body : Data) (opaque_id : Option Text) (lawful : Lawful cluster h) (drained : IsDrained h) (plain : AnswersPlainly cluster corpus script h)
      (at : command_at script k ≡ Some (commands.Search index node scroll body opaque_id)) (done : HasDone cluster corpus script k (commands.Search index node scroll body opaque_id) h) where
    abbrev read : Result SearchBody BodyError
    read = body_at (is_some scroll) (least_size scroll) body

    asked_for : (found : SearchBody) → read ≡ Ok found → root_request script k (Begin k ∷ done.before) ≡ Some (asks.Search (search_ask index scroll found))
    asked_for found good = rw (at, good) refl

    where_known : (found : SearchBody) → read ≡ Ok found → is_known corpus script.commands index ≡ true → TellsSearch corpus script.commands index node scroll body k h
    where_known found good known =
        let can : can_start corpus script.commands index scroll body ≡ true = rw (good, known) refl in
        let starts : StartsWhere cluster true k node (Begin k ∷ done.before) done.after = subst (λ b. StartsWhere cluster b k node (Begin k ∷ done.before) done.after) can done.does in
        inr (inr (root_told lawful drained plain _ done (asks.Search (search_ask index scroll found)) (asked_for found good) node starts.0 starts.1.0 starts.1.1 starts.1.2))

    pub search_told : TellsSearch corpus script.commands index node scroll body k h
    search_told = by_body read refl (is_known corpus script.commands index) refl
      where
        by_body : (r : Result SearchBody BodyError) → read ≡ r → (b : Bool) → is_known corpus script.commands index ≡ b → TellsSearch corpus script.commands index node scroll body k h
        by_body (Err fault) is b known = inl (fault, is, fault_told (is_some scroll) (least_size scroll) body fault is)
        by_body (Ok found) is false known = inr (inl known)
        by_body (Ok found) is true known = where_known found is known

  -- ---- a scroll

  module _ (target : ContextTarget) (keep : Option ℕ) (opaque_id : Option Text) (lawful : Lawful cluster h) (drained : IsDrained h) (plain : AnswersPlainly cluster corpus script h)
      (at : command_at script k ≡ Some (commands.Scroll target keep opaque_id)) (done : HasDone cluster corpus script k (commands.Scroll target keep opaque_id) h) where
    as_before : can_page script target (Begin k ∷ done.before) ≡ can_page script target (history_before k h)
    as_before = page_before k done.before script target keep opaque_id at ∙ ap (can_page script target) (sym done.past)

    -- a context that gives a page is named
    named_there : (o : Option TaskId) → is_ok (page_at script o (Begin k ∷ done.before)) ≡ true → (id : TaskId) × (o ≡ Some id)
    named_there None can = absurd (cc)
    named_there (Some id) can = (id, refl)

    where_it_can : can_page script target (Begin k ∷ done.before) ≡ true → TellsPage script target k h
    where_it_can can =
        let starts : StartsWhere cluster true k (page_node target (Begin k ∷ done.before)) (Begin k ∷ done.before) done.after =
        subst (λ b. StartsWhere cluster b k (page_node target (Begin k ∷ done.before)) (Begin k ∷ done.before) done.after) can done.does in
        let there = named_there (context_named target (Begin k ∷ done.before)) can in
        let asked = asks_page script k (Begin k ∷ done.before) target keep opaque_id at there.0 there.1 in
        let node : page_node target (Begin k ∷ done.before) ≡ page_node target (history_before k h) = node_before k done.before target ∙ ap (page_node target) (sym done.past) in
        inr (subst (λ n. (events_of k h ≡ RootRejected k n ∷ []) ⊎ HasEnded IsSearchReply k h) node
        (root_told lawful drained plain _ done (asks.Scroll (record { id = there.0; keep = keep; owner = None })) asked (page_node target (Begin k ∷ done.before)) starts.0 starts.1.0 starts.1.1 starts.1.2))

    pub page_told : TellsPage script target k h
    page_told = by_page (can_page script target (Begin k ∷ done.before)) refl
      where
        by_page : (b : Bool) → can_page script target (Begin k ∷ done.before) ≡ b → TellsPage script target k h
        by_page false is = inl (sym as_before ∙ is)
        by_page true is = where_it_can is

  -- ---- a reindex

  module _ (node : ℕ) (body : Data) (slices : ℕ) (rate : Option ℕ) (opaque_id : Option Text) (store : Bool) (lawful : Lawful cluster h) (drained : IsDrained h) (plain : AnswersPlainly cluster corpus script h)
      (count : IsSliceCount slices) (bounded : IsRate rate) (at : command_at script k ≡ Some (commands.Reindex node body slices rate opaque_id store)) (done : HasDone cluster corpus script k (commands.Reindex node body slices rate opaque_id store) h) where
    asks_to_copy : (what : ReindexBody) → reindex_at body ≡ Ok what → (ask : ReindexAsk) → reindex_ask what slices rate ≡ Some ask → root_request script k (Begin k ∷ done.before) ≡ Some (asks.Reindex ask)
    asks_to_copy what good ask is =
        ap (λ (o : Option Command). option_and_then (λ command. request_in command (Begin k ∷ done.before)) o) at
        ∙ ap (λ (r : Result ReindexBody ReindexError). option_map asks.Reindex (option_and_then (λ x. reindex_ask x slices rate) (result_ok r))) good
        ∙ ap (λ (o : Option ReindexAsk). option_map asks.Reindex o) is

    where_read : (read : ReindexBody) → reindex_at body ≡ Ok read → is_known corpus script.commands read.source ≡ true → TellsReindex corpus script.commands node body k h
    where_read read good known =
        let can : can_copy corpus script.commands body ≡ true = ap (λ (r : Result ReindexBody ReindexError). option_map_or (λ x. is_known corpus script.commands x.source) (result_ok r) false) good ∙ known in
        let starts : StartsWhere cluster true k node (Begin k ∷ done.before) done.after = subst (λ b. StartsWhere cluster b k node (Begin k ∷ done.before) done.after) can done.does in
        let there = ask_there read slices rate (batch_read body read good) count bounded in
        inr (inr (root_told lawful drained plain _ done (asks.Reindex there.0) (asks_to_copy read good there.0 there.1) node starts.0 starts.1.0 starts.1.1 starts.1.2))

    pub reindex_told : TellsReindex corpus script.commands node body k h
    reindex_told = by_body (reindex_at body) refl
      where
        by_index : (read : ReindexBody) → reindex_at body ≡ Ok read → (b : Bool) → is_known corpus script.commands read.source ≡ b → TellsReindex corpus script.commands node body k h
        by_index read is false known = inr (inl (read, is, known))
        by_index read is true known = where_read read is known

        by_body : (r : Result ReindexBody ReindexError) → reindex_at body ≡ r → TellsReindex corpus script.commands node body k h
        by_body (Err fault) is = inl (ap is_ok is)
        by_body (Ok read) is = by_index read is (is_known corpus script.commands read.source) refl

  -- ---- lines of a schedule

  module _ (command : Command) (done : HasDone cluster corpus script k command h) where
    began_as : Begin k ∷ done.before ≡ as_began k h
    began_as = ap (λ past. Begin k ∷ past) (sym done.past)

    moved_due : (e : Event) → done.after ≡ with_due e (Begin k ∷ done.before) → Moved k h
    moved_due e same = some_told cluster corpus script k command h done (let longer = due_longer e (Begin k ∷ done.before) in let all = ap length same in omega (arith, longer, all))

    stepped_on : (e : Event) → done.after ≡ after_step cluster corpus script e (Begin k ∷ done.before) → Moved k h
    stepped_on e same = some_told cluster corpus script k command h done (let longer = step_longer cluster corpus script e (Begin k ∷ done.before) in let all = ap length same in omega (arith, longer, all))

    deliver_told : (nth : ℕ) → DeliversWhere cluster nth (Begin k ∷ done.before) done.after → Moved k h ⊎ (length (in_flight (as_began k h)) ≤ nth)
    deliver_told nth (inl (m, e, at, is, same)) = inl (moved_due e same)
    deliver_told nth (inr (past, same)) = inr (subst (λ g. length (in_flight g) ≤ nth) began_as past)

    step_told : (t : TaskId) (stepped : Stepped) → AnswersStep cluster corpus script t (Begin k ∷ done.before) stepped done.after → Moved k h ⊎ (is_live t (as_began k h) ≡ false) ⊎ Waits cluster corpus script t (as_began k h)
    step_told t Done (e, live, next, same) = inl (stepped_on e same)
    step_told t NotRunning (gone, same) = inr (inl (subst (λ g. is_live t g ≡ false) began_as gone))
    step_told t Waiting (live, waits, same) = inr (inr (subst (Waits cluster corpus script t) began_as (live, waits)))

    list_told : (l : Listing) → ListsWhere l (Begin k ∷ done.before) done.after → Moved k h ⊎ (is_open l (as_began k h) ≡ false)
    list_told l (inl (e, opened, is, same)) = inl (some_told cluster corpus script k command h done (let all = ap length same in omega (arith, all)))
    list_told l (inr (closed, same)) = inr (subst (λ g. is_open l g ≡ false) began_as closed)

-- ---- all

module _ (cluster : Cluster) (corpus : Corpus) (script : Script) (h : List Event) (lawful : Lawful cluster h) (drained : IsDrained h) (answered : AllAnswered h) (plain : AnswersPlainly cluster corpus script h)
    (can : CanRun cluster.nodes script.commands) (so_far : IsRunSoFar cluster corpus script h) where
  by_command : (k : ℕ) (command : Command) → command_at script k ≡ Some command → HasDone cluster corpus script k command h → HasItsLine cluster corpus script h k command
  by_command k (commands.Search index node scroll body opaque_id) at done = search_told cluster corpus script h k index node scroll body opaque_id lawful drained plain at done
  by_command k (commands.Scroll target keep opaque_id) at done = page_told cluster corpus script h k target keep opaque_id lawful drained plain at done
  by_command k (commands.ClearScroll target) at done = tt
  by_command k (commands.Reindex node body slices rate opaque_id store) at done =
      let fits = can_at cluster.nodes script can k (commands.Reindex node body slices rate opaque_id store) at in
      reindex_told cluster corpus script h k node body slices rate opaque_id store lawful drained plain fits.1 fits.2 at done
  by_command k (commands.Tick ms) at done = told_as cluster corpus script k _ h done (Tick ms ∷ []) done.does
  by_command k (commands.Cancel target reason wait) at done = cancel_told cluster corpus script h answered k reason wait target done
  by_command k (commands.ListTasks wanted group detailed) at done = tt
  by_command k (commands.GetTask target wait) at done = get_told cluster corpus script h k target wait lawful drained (run_asked cluster corpus script h can so_far) done
  by_command k (commands.ForgetTask target) at done = tt
  by_command k commands.ListResults at done = tt
  by_command k (commands.Deliver nth) at done = deliver_told cluster corpus script h k _ done nth done.does
  by_command k (commands.Step t) at done = step_told cluster corpus script h k _ done t done.does.0 done.does.1
  by_command k (commands.ListStep node parent) at done = list_told cluster corpus script h k _ done (record { node = node; parent = parent }) done.does
  by_command k commands.Settle at done = tt
  by_command k (commands.Shuffle seed moves) at done = tt
  by_command k (commands.WaitFor waited) at done = tt
  by_command k commands.History at done = tt
  by_command k commands.Summary at done = tt

  number_there : (k : ℕ) (command : Command) → command_at script k ≡ Some command → (1 ≤ k) × (k ≤ length script.commands)
  number_there zero command at = absurd (cc)
  number_there (suc n) command at = let low = slice_get_within script.commands n command at in (omega arith, omega (arith, low))

  -- Each command has its line.
  pub each_has_its_line : IsRun cluster corpus script h → EachHasItsLine cluster corpus script h
  each_has_its_line run k command at =
      let there = number_there k command at in
      by_command k command at (done_in_whole cluster corpus script h run k command there.0 there.1 at)
