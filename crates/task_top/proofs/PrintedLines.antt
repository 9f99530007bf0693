-- What is printed for each command of a whole run is one line.
use Rattle.std.proofs.Common.{◌≡◌, ℕ, suc, ◌+◌, Bool, true, false, cond, List, [], ◌∷◌, length, slice_get, codes, Option, Some, None, Result, Ok, Err, inl, inr, refl, sym, ap, subst, ◌∙◌, arith}
use Rattle.std.specs.Prelude.{count_by, filter_map, is_ok, is_some, option_and_then, if◌then◌else◌}
use Rattle.std.specs.List.{list_any}
use Rattle.std.proofs.lemmas.List.Sums.{sum_by-append, sum_by-cons}
use Rattle.serde_json.specs.Data.{Data}
use Rattle.query_match.specs.declared.body.SearchBody.{SearchBody}
use Rattle.query_parse.specs.declared.fault.BodyError.{BodyError}
use Rattle.query_parse.specs.declared.fault.ReindexError.{ReindexError}
use Rattle.query_parse.specs.declared.reindex_body.ReindexBody.{ReindexBody}
use Rattle.query_parse.specs.Bodies.{body_at}
use Rattle.query_parse.specs.Reindexes.{reindex_at}
use Rattle.task_ids.specs.declared.cluster.Cluster.{Cluster}
use Rattle.task_ids.specs.declared.corpus.Corpus.{Corpus}
use Rattle.task_ids.specs.declared.task_id.TaskId.{TaskId}
use Rattle.task_events.specs.declared.event.Event.{Event}
use Rattle.task_events.specs.declared.reply.Reply.{Reply}
use Rattle.task_events.specs.declared.reply.Reply.TheVariants as replies
use Rattle.task_events.specs.Messages.{in_flight}
use Rattle.task_events.specs.Printed.{count, object_of, reply_line, search_json, shards_read}
use Rattle.task_events.specs.Clock.{clock}
use Rattle.task_events.specs.Summaries.{summary_of}
use Rattle.task_events.specs.Tasks.{is_live, reply_of}
use Rattle.task_events.specs.Turns.{events_before, events_of, history_before}
use Rattle.script_lang.specs.declared.command.Command.{Command}
use Rattle.script_lang.specs.declared.command.TaskTarget.{TaskTarget}
use Rattle.std.specs.FinMap.{keys}
use Rattle.task_results.specs.Stands.{is_stored, results_at}
use Rattle.command_roots.specs.declared.results.TaskFound.{TaskFound}
use Rattle.command_roots.specs.declared.results.TaskFound.TheVariants.{Live, Ended, Missing}
use Rattle.command_roots.specs.Results.{found_of, has_result, keeping, status_of, task_named}
use Rattle.script_lang.specs.declared.command.Command.TheVariants.{Search, Scroll, ClearScroll, Reindex, Tick, Cancel, ListTasks, GetTask, ForgetTask, ListResults, Deliver, Step, ListStep, Settle, Shuffle, WaitFor, History, Summary}
use Rattle.script_lang.specs.declared.command.Script.{Script}
use Rattle.tasks_api.specs.declared.filter.Filter.{Filter}
use Rattle.tasks_api.specs.declared.list.GroupBy.{GroupBy}
use Rattle.tasks_api.specs.Lists.{list_json, shown, task_json}
use Rattle.command_roots.specs.Known.{is_known}
use Rattle.command_roots.specs.Roots.{context_named, least_size, page_answer, rows_of}
use Rattle.world_steps.specs.Scripts.{page_node}
use Rattle.scroll_table.specs.declared.context.PageError.{PageError}
use Rattle.task_events.specs.declared.context.Context.{Context}
use Rattle.task_events.specs.declared.reply.SearchReply.{SearchReply}
use Rattle.script_lang.specs.declared.command.ContextTarget.{ContextTarget}
use Rattle.line_print.specs.declared.note.Note.{Note}
use Rattle.line_print.specs.declared.note.Note.TheVariants.{NoSuchMessage, NotRunning, Waiting, NoListing}
use Rattle.line_print.specs.Errors.{all_shards_failed, body_error, context_error, index_not_found, not_found, reindex_error, rejected, task_cancelled}
use Rattle.line_print.specs.Lines.{cancel_line, cancelled, cancelled_json, cleared, completed_json, completed_task, done_json, forgotten_json, get_line, get_note, results_json, running_json, wrote_json, frees, moment_json, page_note, page_refusal, ended_line, error_line, finds_none, first_in, full_node_in, idle_error, idle_line, line_of, lines_from, moved_line, named_in, note_of, printed, reason_of, refusal, reindex_line, reindex_refusal, search_line, start_refusal, settled, started, summary_json, target_in, told_all, wrote_line}
use Rattle.line_print.proofs.PrintLemmas.{running_is_reply, text_is_reply}
use Rattle.task_top.specs.EachLine.{TellsFound, TellsTask, is_newline, EachHasItsLine, EachPrintsALine, HasItsLine, IsLine, IsReindexReply, IsSearchReply, TellsPage, TellsReindex, TellsSearch}
use Rattle.task_top.proofs.OneLine.{value_line}
use Rattle.task_top.proofs.ProgressLemmas.{both_false}

error_prints : (k : ℕ) (error : Data) → IsLine (error_line k error)
error_prints k error = value_line (object_of ((codes "command", count k) ∷ (codes "error", error) ∷ []))

reply_prints : (k : ℕ) (reply : Data) → IsLine (reply_line k reply)
reply_prints k reply = value_line (object_of ((codes "command", count k) ∷ (codes "reply", reply) ∷ []))

module _ (cluster : Cluster) (corpus : Corpus) (commands : List Command) (h : List Event) (k : ℕ) where
  -- ---- a search

  module _ (shards : SearchReply → ℕ) where
    ended : (t : TaskId) (reply : Reply) → IsSearchReply t reply → IsLine (ended_line shards commands k (Some reply))
    ended t (replies.Search reply) told = reply_prints k (search_json (shards reply) reply)
    ended t (replies.AllFailed failed) told = error_prints k (all_shards_failed failed)
    ended t (replies.Cancelled u c counts) told = error_prints k (task_cancelled (reason_of commands c) u)
    ended t (replies.Wrote counts) told = absurd told
    ended t (replies.Top top) told = absurd told
    ended t (replies.Hits hits) told = absurd told
    ended t (replies.Rejected n) told = absurd told

    -- where there is a reply, what refuses the task does not matter
    either_line : (o : Option Data) (reply : Option Reply) → IsLine (ended_line shards commands k reply) → IsLine (search_line shards commands k o reply)
    either_line None reply line = line
    either_line (Some error) reply line = error_prints k error

  module _ (index : List ℕ) (node : ℕ) where
    abbrev in_all : SearchReply → ℕ
    in_all reply = cluster.shards

    unknown_refused : (body : Result SearchBody BodyError) (full : Option ℕ) (reply : Option Reply) → IsLine (search_line in_all commands k (refusal index body false full) reply)
    unknown_refused (Err fault) full reply = error_prints k (body_error fault)
    unknown_refused (Ok found) full reply = error_prints k (index_not_found index)

    full_refused : (body : Result SearchBody BodyError) (known : Bool) (reply : Option Reply) → IsLine (search_line in_all commands k (refusal index body known (Some node)) reply)
    full_refused (Err fault) known reply = error_prints k (body_error fault)
    full_refused (Ok found) true reply = error_prints k (rejected node)
    full_refused (Ok found) false reply = error_prints k (index_not_found index)

    search_prints : (scroll : Option ℕ) (body : Data) (opaque_id : Option (List ℕ)) → TellsSearch corpus commands index node scroll body k h → (noted : Option Note) → IsLine (line_of cluster corpus commands h k (Search index node scroll body opaque_id) noted)
    search_prints scroll body opaque_id (inl (fault, is, told)) noted = rw is (error_prints k (body_error fault))
    search_prints scroll body opaque_id (inr (inl unknown)) noted = rw unknown (unknown_refused (body_at (is_some scroll) (least_size scroll) body) (first_in full_node_in (events_of k h)) (option_and_then (λ t. reply_of t h) (started k h)))
    search_prints scroll body opaque_id (inr (inr (inl full))) noted = rw full (full_refused (body_at (is_some scroll) (least_size scroll) body) (is_known corpus commands index) None)
    search_prints scroll body opaque_id (inr (inr (inr told))) noted =
        let begun = told.started in
        let replied = told.replied in
        rw begun (either_line in_all (refusal index (body_at (is_some scroll) (least_size scroll) body) (is_known corpus commands index) None) (reply_of told.task h) (rw replied (ended in_all told.task told.reply told.told)))

  -- ---- a reindex

  wrote : (t : TaskId) (reply : Reply) → IsReindexReply t reply → IsLine (wrote_line commands k (Some reply))
  wrote t (replies.Wrote counts) told = reply_prints k (done_json counts)
  wrote t (replies.Cancelled u c counts) told = reply_prints k (cancelled_json (reason_of commands c) counts)
  wrote t (replies.Search reply) told = absurd told
  wrote t (replies.AllFailed failed) told = absurd told
  wrote t (replies.Top top) told = absurd told
  wrote t (replies.Hits hits) told = absurd told
  wrote t (replies.Rejected n) told = absurd told

  -- where there is a reply, what refuses the task does not matter
  either_wrote : (o : Option Data) (reply : Option Reply) → IsLine (wrote_line commands k reply) → IsLine (reindex_line commands k o reply)
  either_wrote None reply line = line
  either_wrote (Some error) reply line = error_prints k error

  faulty_refused : (known : List ℕ → Bool) (r : Result ReindexBody ReindexError) (full : Option ℕ) (reply : Option Reply) → is_ok r ≡ false → IsLine (reindex_line commands k (reindex_refusal known r full) reply)
  faulty_refused known (Err fault) full reply bad = error_prints k (reindex_error fault)
  faulty_refused known (Ok read) full reply bad = absurd (cc)

  source_refused : (index : List ℕ) (full : Option ℕ) (reply : Option Reply) → IsLine (reindex_line commands k (start_refusal index false full) reply)
  source_refused index full reply = error_prints k (index_not_found index)

  no_place : (index : List ℕ) (known : Bool) (node : ℕ) (reply : Option Reply) → IsLine (reindex_line commands k (start_refusal index known (Some node)) reply)
  no_place index true node reply = error_prints k (rejected node)
  no_place index false node reply = error_prints k (index_not_found index)

  no_place_for : (known : List ℕ → Bool) (r : Result ReindexBody ReindexError) (node : ℕ) (reply : Option Reply) → IsLine (reindex_line commands k (reindex_refusal known r (Some node)) reply)
  no_place_for known (Err fault) node reply = error_prints k (reindex_error fault)
  no_place_for known (Ok read) node reply = no_place read.source (known read.source) node reply

  reindex_prints : (node : ℕ) (body : Data) (slices : ℕ) (rate : Option ℕ) (opaque_id : Option (List ℕ)) (store : Bool) → TellsReindex corpus commands node body k h
      → (noted : Option Note) → IsLine (line_of cluster corpus commands h k (Reindex node body slices rate opaque_id store) noted)
  reindex_prints node body slices rate opaque_id store (inl bad) noted =
      faulty_refused (is_known corpus commands) (reindex_at body) (first_in full_node_in (events_of k h)) (option_and_then (λ t. reply_of t h) (started k h)) bad
  reindex_prints node body slices rate opaque_id store (inr (inl (read, is, unknown))) noted =
      let full = first_in full_node_in (events_of k h) in
      let reply = option_and_then (λ t. reply_of t h) (started k h) in
      subst (λ (r : Result ReindexBody ReindexError). IsLine (reindex_line commands k (reindex_refusal (is_known corpus commands) r full) reply)) (sym is)
      (subst (λ (known : Bool). IsLine (reindex_line commands k (start_refusal read.source known full) reply)) (sym unknown) (source_refused read.source full reply))
  reindex_prints node body slices rate opaque_id store (inr (inr (inl full))) noted = rw full (no_place_for (is_known corpus commands) (reindex_at body) node None)
  reindex_prints node body slices rate opaque_id store (inr (inr (inr told))) noted =
      let begun = told.started in
      let replied = told.replied in
      rw begun (either_wrote (reindex_refusal (is_known corpus commands) (reindex_at body) None) (reply_of told.task h) (rw replied (wrote told.task told.reply told.told)))

  -- ---- a scroll

  no_page : (id : Option TaskId) (answer : Result Context PageError) (full : Option ℕ) (reply : Option Reply) → is_ok answer ≡ false → IsLine (search_line shards_read commands k (page_refusal (page_note id answer) full) reply)
  no_page id (Ok c) full reply none = absurd (cc)
  no_page id (Err error) full reply none = error_prints k (context_error id error)

  no_slot : (id : Option TaskId) (answer : Result Context PageError) (node : ℕ) (reply : Option Reply) → IsLine (search_line shards_read commands k (page_refusal (page_note id answer) (Some node)) reply)
  no_slot id (Ok c) node reply = error_prints k (rejected node)
  no_slot id (Err error) node reply = error_prints k (context_error id error)

  page_prints : (script : Script) (target : ContextTarget) (keep : Option ℕ) (opaque_id : Option (List ℕ)) → TellsPage script target k h
      → IsLine (line_of cluster corpus commands h k (Scroll target keep opaque_id) (page_note (context_named target (history_before k h)) (page_answer script target (history_before k h))))
  page_prints script target keep opaque_id (inl none) = no_page _ _ (first_in full_node_in (events_of k h)) (option_and_then (λ t. reply_of t h) (started k h)) none
  page_prints script target keep opaque_id (inr (inl full)) = rw full (no_slot _ _ (page_node target (history_before k h)) None)
  page_prints script target keep opaque_id (inr (inr told)) =
      let begun = told.started in
      let replied = told.replied in
      let noted = page_note (context_named target (history_before k h)) (page_answer script target (history_before k h)) in
      rw begun (either_line shards_read (page_refusal noted None) (reply_of told.task h) (rw replied (ended shards_read told.task told.reply told.told)))

  -- ---- the others

  cancel_prints : (target : Option TaskId) (wait : Bool) (es : List Event) → IsLine (cancel_line k target wait es)
  cancel_prints target wait es = by_kind (list_any finds_none es)
    where
      by_kind : (b : Bool) → IsLine (if b then error_line k (not_found target) else reply_line k (cancelled (filter_map named_in es) wait))
      by_kind true = error_prints k (not_found target)
      by_kind false = reply_prints k (cancelled (filter_map named_in es) wait)

  -- a line of a schedule, where it is noted why nothing happened if nothing did
  move_prints : (es : List Event) (noted : Note) (error : Data) → idle_error noted ≡ Some error → IsLine (moved_line commands k es (Some noted))
  move_prints [] noted error is = subst (λ o. IsLine (idle_line k o)) (sym is) (error_prints k error)
  move_prints (e ∷ es) noted error is = reply_prints k (told_all commands (e ∷ es))

  step_prints : (es : List Event) (live : Bool) → IsLine (moved_line commands k es (Some (if live then Waiting else NotRunning)))
  step_prints es true = move_prints es Waiting _ refl
  step_prints es false = move_prints es NotRunning _ refl

module _ (cluster : Cluster) (corpus : Corpus) (script : Script) (h : List Event) where
  list_prints : (k : ℕ) (wanted : Filter) (group : GroupBy) (detailed : Bool) → IsLine (line_of cluster corpus script.commands h k (ListTasks wanted group detailed) (note_of cluster script (ListTasks wanted group detailed) (history_before k h)))
  list_prints k wanted group detailed =
      let past = history_before k h in
      let listed = list_json group (task_json detailed (clock past)) (shown wanted (rows_of cluster script past)) in
      subst IsLine (sym (text_is_reply k listed)) (reply_prints k listed)

  get_prints : (k : ℕ) (target : TaskTarget) (wait : Bool) → TellsTask script target wait k h → IsLine (line_of cluster corpus script.commands h k (GetTask target wait) (note_of cluster script (GetTask target wait) (history_before k h)))
  get_prints k target wait told = by_found wait (found_of script target (history_before k h)) told
    where
      by_found : (wait : Bool) (found : TaskFound) → TellsFound script wait (history_before k h) h found
          → IsLine (get_line script.commands k (get_note script wait (history_before k h) found) (option_and_then (λ t. reply_of t h) (completed_task (get_note script wait (history_before k h) found))))
      by_found wait (Missing t) told = error_prints k (not_found t)
      by_found wait (Ended t) told = reply_prints k (completed_json t (option_and_then (wrote_json script.commands) (reply_of t h)))
      by_found true (Live t) told = reply_prints k (completed_json t (if is_stored (keeping script) t (history_before k h) then option_and_then (wrote_json script.commands) (reply_of t h) else None))
      by_found false (Live t) (row, is) =
          let now = clock (history_before k h) in
          let status = status_of script t (history_before k h) in
          rw is (subst IsLine (sym (running_is_reply k (task_json true now [] row) status)) (reply_prints k (running_json (task_json true now [] row) status)))

  by_command : (k : ℕ) (command : Command) → HasItsLine cluster corpus script h k command → IsLine (line_of cluster corpus script.commands h k command (note_of cluster script command (history_before k h)))
  by_command k (Search index node scroll body opaque_id) told = search_prints cluster corpus script.commands h k index node scroll body opaque_id told None
  by_command k (Scroll target keep opaque_id) told = page_prints cluster corpus script.commands h k script target keep opaque_id told
  by_command k (Reindex node body slices rate opaque_id store) told = reindex_prints cluster corpus script.commands h k node body slices rate opaque_id store told None
  by_command k (ClearScroll target) told = reply_prints k (cleared (frees script (context_named target (history_before k h)) (history_before k h)))
  by_command k (Tick ms) told = reply_prints k (moment_json (clock (history_before k h) + ms))
  by_command k (Cancel target reason wait) told = cancel_prints cluster corpus script.commands h k (target_in script.commands h target) wait (events_of k h)
  by_command k (ListTasks wanted group detailed) told = list_prints k wanted group detailed
  by_command k (GetTask target wait) told = get_prints k target wait told
  by_command k (ForgetTask target) told = reply_prints k (forgotten_json (has_result script (task_named target (history_before k h)) (history_before k h)))
  by_command k ListResults told = reply_prints k (results_json (keys (results_at (keeping script) (history_before k h))))
  by_command k (Deliver nth) told = move_prints cluster corpus script.commands h k (events_of k h) (NoSuchMessage (length (in_flight (history_before k h)))) _ refl
  by_command k (Step t) told = step_prints cluster corpus script.commands h k (events_of k h) (is_live t (history_before k h))
  by_command k (ListStep node parent) told = move_prints cluster corpus script.commands h k (events_of k h) NoListing _ refl
  by_command k Settle told = reply_prints k (settled (length (events_of k h)))
  by_command k (Shuffle seed moves) told = reply_prints k (settled (length (events_of k h)))
  by_command k (WaitFor waited) told = reply_prints k (settled (length (events_of k h)))
  by_command k Summary told = reply_prints k (summary_json (summary_of (history_before k h)))
  by_command k History told = reply_prints k (told_all script.commands (events_before k h))

  pub each_prints_a_line : EachHasItsLine cluster corpus script h → EachPrintsALine cluster corpus script h
  each_prints_a_line each k command at = by_command k command (each k command at)

-- ---- as many lines as commands

none_counted : (text : List ℕ) → list_any is_newline text ≡ false → count_by is_newline text ≡ 0
none_counted [] none = refl
none_counted (x ∷ text) none =
    let parts = both_false (is_newline x) (list_any is_newline text) none in
    let rest = none_counted text parts.1 in
    sum_by-cons (λ b. cond (is_newline b) 1 0) x text ∙ (λ i. cond (parts.0 i) 1 0 + rest i)

one_counted : (text : List ℕ) → IsLine text → count_by is_newline text ≡ 1
one_counted text (told, same, none) =
    ap (count_by is_newline) same ∙ sum_by-append (λ b. cond (is_newline b) 1 0) told (10 ∷ []) ∙ ap (λ n. n + count_by is_newline (10 ∷ [])) (none_counted told none)

lines_counted : (line : ℕ → Command → List ℕ) (k : ℕ) (commands : List Command) → ((i : ℕ) (command : Command) → slice_get commands i ≡ Some command → IsLine (line (k + i) command)) → count_by is_newline (lines_from line k commands) ≡ length commands
lines_counted line k [] each = refl
lines_counted line k (command ∷ commands) each =
    let here : k + 0 ≡ k = omega arith in
    let first = one_counted (line k command) (subst (λ n. IsLine (line n command)) here (each 0 command refl)) in
    let rest = lines_counted line (k + 1) commands (λ i next at. let number : k + suc i ≡ k + 1 + i = omega arith in subst (λ n. IsLine (line n next)) number (each (suc i) next at)) in
    let both = sum_by-append (λ b. cond (is_newline b) 1 0) (line k command) (lines_from line (k + 1) commands) in
    omega (arith, first, rest, both)

-- The output has as many lines as the script has commands.
pub as_many_lines : (cluster : Cluster) (corpus : Corpus) (script : Script) (h : List Event) → EachPrintsALine cluster corpus script h → count_by is_newline (printed cluster corpus script h) ≡ length script.commands
as_many_lines cluster corpus script h each =
    lines_counted (λ k command. line_of cluster corpus script.commands h k command (note_of cluster script command (history_before k h))) 1 script.commands
    (λ i command at. let number : 1 + i ≡ suc i = omega arith in subst (λ n. IsLine (line_of cluster corpus script.commands h n command (note_of cluster script command (history_before n h)))) (sym number) (each (suc i) command at))
