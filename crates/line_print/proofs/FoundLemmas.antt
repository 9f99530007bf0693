-- What the lines tell of a note is what the caller of the printing noted.
use Rattle.std.proofs.Common.{◌≡◌, ℕ, ◌+◌, ◌-◌, ◌<◌, List, [], ◌∷◌, ◌++◌, length, get_or, drop, slice_get, Option, Some, None, unwrap_or, option_and_then, refl, sym, ap, ◌∙◌, subst, add-zero, add-one, append_assoc, arith}
use Rattle.std.proofs.lemmas.List.{drop_more}
use Rattle.task_ids.specs.declared.cluster.Cluster.{Cluster}
use Rattle.task_ids.specs.declared.corpus.Corpus.{Corpus}
use Rattle.script_lang.specs.declared.command.Command.{Command}
use Rattle.script_lang.specs.declared.command.Command.TheVariants.{Search, Scroll, ClearScroll, Reindex, Tick, Cancel, ListTasks, GetTask, ForgetTask, ListResults, Deliver, Step, ListStep, Settle, Shuffle, WaitFor, History, Summary}
use Rattle.script_lang.specs.declared.command.Script.{Script}
use Rattle.task_events.specs.declared.event.Event.{Event}
use Rattle.task_events.specs.Printed.{shards_read}
use Rattle.task_events.specs.Tasks.{reply_of}
use Rattle.task_events.specs.Turns.{events_of, history_before}
use Rattle.line_print.specs.declared.note.Note.{Note}
use Rattle.line_print.specs.Lines.{first_in, full_node_in, started, search_line, page_refusal, clear_line, completed_task, forget_line, get_line, results_line, tick_line, summary_line, idle_error, idle_line, list_line, moved_line, line_of, lines_from, note_of, printed, printed_by, TellsNote, IsFound}

-- lines that are the same at each place
same_lines : (f g : ℕ → Command → List ℕ) (k : ℕ) (commands : List Command) → ((i : ℕ) (command : Command) → slice_get commands i ≡ Some command → f (k + i) command ≡ g (k + i) command) → lines_from f k commands ≡ lines_from g k commands
same_lines f g k [] h = refl
same_lines f g k (command ∷ commands) h =
    let first : f k command ≡ g k command = simp add-zero at (h 0 command refl) in
    ap (λ line. line ++ lines_from f (k + 1) commands) first
    ∙ ap (λ lines. g k command ++ lines) (same_lines f g (k + 1) commands (λ i next s. let e : k + (i + 1) ≡ k + 1 + i = omega arith in rw e at (h (i + 1) next (rw add-one s))))

same_move : (script : List Command) (k : ℕ) (events : List Event) (noted other : Option Note) → (events ≡ [] → noted ≡ other) → moved_line script k events noted ≡ moved_line script k events other
same_move script k [] noted other h = ap (λ (n : Option Note). idle_line k (option_and_then idle_error n)) (h refl)
same_move script k (e ∷ es) noted other h = refl

same_line : (cluster : Cluster) (corpus : Corpus) (script : List Command) (history : List Event) (k : ℕ) (command : Command) (noted other : Option Note) → (TellsNote k command history → noted ≡ other)
    → line_of cluster corpus script history k command noted ≡ line_of cluster corpus script history k command other
same_line cluster corpus script history k (Search index node scroll body opaque_id) noted other h = refl
same_line cluster corpus script history k (Scroll target keep opaque_id) noted other h =
    ap (λ (n : Option Note). search_line shards_read script k (page_refusal n (first_in full_node_in (events_of k history))) (option_and_then (λ t. reply_of t history) (started k history))) (h tt)
same_line cluster corpus script history k (Reindex node body slices rate opaque_id store) noted other h = refl
same_line cluster corpus script history k (ClearScroll target) noted other h = ap (clear_line k) (h tt)
same_line cluster corpus script history k (Tick ms) noted other h = ap (tick_line k) (h tt)
same_line cluster corpus script history k (Cancel target reason wait) noted other h = refl
same_line cluster corpus script history k (ListTasks wanted group detailed) noted other h = ap (list_line k) (h tt)
same_line cluster corpus script history k (GetTask target wait) noted other h =
    ap (λ (n : Option Note). get_line script k n (option_and_then (λ t. reply_of t history) (completed_task n))) (h tt)
same_line cluster corpus script history k (ForgetTask target) noted other h = ap (forget_line k) (h tt)
same_line cluster corpus script history k ListResults noted other h = ap (results_line k) (h tt)
same_line cluster corpus script history k Settle noted other h = refl
same_line cluster corpus script history k (Shuffle seed moves) noted other h = refl
same_line cluster corpus script history k (WaitFor number) noted other h = refl
same_line cluster corpus script history k History noted other h = refl
same_line cluster corpus script history k Summary noted other h = ap (summary_line k) (h tt)
same_line cluster corpus script history k (Deliver nth) noted other h = same_move script k (events_of k history) noted other h
same_line cluster corpus script history k (Step t) noted other h = same_move script k (events_of k history) noted other h
same_line cluster corpus script history k (ListStep n p) noted other h = same_move script k (events_of k history) noted other h

module _ (found : List (Option Note)) (cluster : Cluster) (corpus : Corpus) (script : Script) (history : List Event) (f : IsFound cluster script history found) where
  told_at : (i : ℕ) (command : Command) → slice_get script.commands i ≡ Some command → TellsNote (1 + i) command history → unwrap_or (slice_get found (1 + i - 1)) None ≡ note_of cluster script command (history_before (1 + i) history)
  told_at i command s tells =
      let back : 1 + i - 1 ≡ i = omega arith in
      let next : 1 + i ≡ i + 1 = omega arith in
      rw back (ap (λ o. unwrap_or o None) (f i command s (subst (λ n. TellsNote n command history) next tells)) ∙ ap (λ n. note_of cluster script command (history_before n history)) (sym next))

  -- what was noted of the commands is what there is to note
  pub printed_as_found : printed_by found cluster corpus script.commands history ≡ printed cluster corpus script history
  printed_as_found =
      same_lines (λ k command. line_of cluster corpus script.commands history k command (unwrap_or (slice_get found (k - 1)) None)) (λ k command. line_of cluster corpus script.commands history k command (note_of cluster script command (history_before k history))) 1 script.commands
      (λ i command s. same_line cluster corpus script.commands history (1 + i) command _ _ (told_at i command s))

-- the output is that of what was handed in
pub output_of : (found : List (Option Note)) (cluster cluster' : Cluster) (corpus corpus' : Corpus) (script script' : List Command) (history history' : List Event) → cluster ≡ cluster' → corpus ≡ corpus' → script ≡ script' → history ≡ history'
    → printed_by found cluster corpus script history ≡ printed_by found cluster' corpus' script' history'
output_of found cluster cluster' corpus corpus' script script' history history' a b c d =
    ap (λ x. printed_by found x corpus script history) a ∙ ap (λ x. printed_by found cluster' x script history) b
    ∙ ap (λ x. printed_by found cluster' corpus' x history) c ∙ ap (printed_by found cluster' corpus' script') d

-- one more line is appended
pub lines_more : (line : ℕ → Command → List ℕ) (place : ℕ) (script : List Command) (command : Command) (before after all : List ℕ) → place < length script → command ≡ get_or script place command → after ≡ before ++ line (place + 1) command
    → before ++ lines_from line (place + 1) (drop place script) ≡ all → after ++ lines_from line (place + 1 + 1) (drop (place + 1) script) ≡ all
lines_more line place script command before after all h is new so_far =
    ap (λ text. text ++ lines_from line (place + 1 + 1) (drop (place + 1) script)) new
    ∙ append_assoc before (line (place + 1) command) (lines_from line (place + 1 + 1) (drop (place + 1) script))
    ∙ ap (λ next. before ++ lines_from line (place + 1) (next ∷ drop (place + 1) script)) is
    ∙ sym (ap (λ commands. before ++ lines_from line (place + 1) commands) (drop_more script place command h))
    ∙ so_far
