-- What is known of the run of a script before it begins, and what the replies of its searches and pages show by that.
use Rattle.std.specs.Prelude.{◌≡◌, ℕ, ◌-◌, List, Option, None, IsSomeAnd, option_and_then, option_map, slice_get}
use Rattle.std.specs.List.{list_any}
use Rattle.std.specs.Str.{bytes_eq}
use Rattle.command_roots.specs.Known.{dests_of}
use Rattle.command_roots.specs.Roots.{search_of}
use Rattle.script_lang.specs.declared.command.Command.{Command}
use Rattle.task_ids.specs.declared.cluster.Cluster.{Cluster}
use Rattle.task_ids.specs.declared.corpus.Corpus.{Corpus}
use Rattle.task_ids.specs.declared.task_id.TaskId.{TaskId}
use Rattle.task_events.specs.Readings.{page_reading, search_reading}
use Rattle.task_events.specs.Searches.{failure_in}
use Rattle.task_events.specs.declared.reply.Reply.{Reply}
use Rattle.task_events.specs.declared.request.HitKey.{HitKey}
use Rattle.task_events.specs.declared.request.ScrollAsk.{ScrollAsk}
use Rattle.task_events.specs.declared.request.SearchAsk.{SearchAsk}
use Rattle.node_link.specs.declared.page.Page.{Page}
use Rattle.reply_facts.specs.Letters.{IsPageFor, context_of_page}
use Rattle.reply_facts.specs.Plainly.{IsPlainOver}
use Rattle.reply_facts.specs.Settings.{IsSteady, Setting, Sought, lines_in, sought_by}
use Rattle.run_book.specs.declared.entry.PageNote.{PageNote}

-- what the search of the command of this number looks for, where it is one whose body has no fault
abbrev pub sought_of : List Command → ℕ → Option Sought
sought_of script k = option_map sought_by (option_and_then search_of (slice_get script (k - 1)))

-- It writes the indices to which reindexes of the script write.
abbrev pub setting_of : Cluster → Corpus → List Command → Setting
setting_of cluster corpus script = record { corpus = corpus; shards = cluster.shards; is_written = λ index. list_any (bytes_eq index) (dests_of script); sought = sought_of script }

-- So much of a run is known by its script: what its searches look for, and which indices it writes.
pub record IsSettingOf (script : List Command) (run : Setting) : Type 0 where
  pub sought : (k : ℕ) → run.sought k ≡ sought_of script k
  pub written : (index : List ℕ) → run.is_written index ≡ list_any (bytes_eq index) (dests_of script)

-- The reply that a search's line shows: it was cancelled or rejected, or it is the plain answer over the corpus, where no reindex of the script writes to the index.
abbrev pub ShowsPlainly : Setting → SearchAsk → Reply → Type 0
ShowsPlainly run ask reply = IsSteady run ask.index → failure_in reply ≡ None
    → (told : SearchAsk) × (sought_by told ≡ sought_by ask) × (task : TaskId) × IsPlainOver (lines_in run ask.index) (search_reading task told run.shards) reply

-- A page of a search after this cursor: the plain answer over the corpus lines after it, by a context that counts all of them.
pub record IsPlainPage (run : Setting) (q : Sought) (after : Option HitKey) (reply : Reply) : Type 0 where
  pub ask : ScrollAsk
  pub page : Page
  pub context : IsPageFor run q page
  pub cursor : page.after ≡ after
  pub plain : IsPlainOver (lines_in run q.index) (page_reading (context_of_page ask page)) reply

-- The reply that a scroll's line shows: it was cancelled or rejected, or it is the page that the search of this command has after this cursor, where no reindex of the script writes to the index.
abbrev pub ShowsPage : Setting → PageNote → Reply → Type 0
ShowsPage run note reply = IsSomeAnd (run.sought note.search) (λ q. IsSteady run q.index → failure_in reply ≡ None → IsPlainPage run q note.after reply)
