-- The lines of the commands of a run over threads, by what each came to. Each line is as that of a run in steps.
use Rattle.std.specs.Prelude.{ℕ, ◌<◌, ◌^◌, List, [], Some, codes, ⊤}
use Rattle.serde_json.specs.Data.{string}
use Rattle.task_ids.specs.declared.cluster.Cluster.{Cluster}
use Rattle.task_ids.specs.declared.task_info.TaskInfo.{TaskInfo}
use Rattle.script_lang.specs.declared.command.Command.{Command}
use Rattle.script_lang.specs.declared.command.Command.TheVariants as commands
use Rattle.scroll_table.specs.declared.context.PageError.TheVariants.{Missing}
use Rattle.task_events.specs.declared.reply.Reply.{Reply}
use Rattle.task_events.specs.declared.reply.Reply.TheVariants.{Rejected}
use Rattle.task_events.specs.Printed.{shards_read, reply_line}
use Rattle.tasks_api.specs.Lists.{list_text}
use Rattle.line_print.specs.declared.reply.LineReply.{LineReply}
use Rattle.line_print.specs.declared.reply.LineReply.TheVariants as replies
use Rattle.line_print.specs.Errors.{body_error, reindex_error, index_not_found, rejected, not_found, context_error}
use Rattle.line_print.specs.Lines.{error_line, ended_line, wrote_line, cleared, moment_json, cancelled, text_line}

-- how the root of a search, a scroll or a reindex ended that was not rejected; no other command has one
abbrev pub ended_as : Cluster → List Command → ℕ → Command → Reply → List ℕ
ended_as cluster script k (commands.Search index node scroll body opaque_id) reply = ended_line (λ found. cluster.shards) script k (Some reply)
ended_as cluster script k (commands.Scroll target keep opaque_id) reply = ended_line shards_read script k (Some reply)
ended_as cluster script k (commands.Reindex node body slices rate opaque_id store) reply = wrote_line script k (Some reply)
ended_as cluster script k _ reply = []

-- how a root ended, or that its node had no slot for it
abbrev pub root_line : Cluster → List Command → ℕ → Command → Reply → List ℕ
root_line cluster script k command (Rejected node) = error_line k (rejected node)
root_line cluster script k command reply = ended_as cluster script k command reply

-- the tasks that a list shows at a moment, of these; no other command has them
abbrev pub shown_line : ℕ → Command → List TaskInfo → ℕ → List ℕ
shown_line k (commands.ListTasks wanted group detailed) rows now = text_line k (list_text group detailed now wanted rows)
shown_line k _ rows now = []

-- The line of a command of a run over threads that came to a reply: the number of the command stands in it, and `script` has the reasons of
-- the cancellations.
abbrev pub line_of_reply : Cluster → List Command → ℕ → Command → LineReply → List ℕ
line_of_reply cluster script k command (replies.Task reply) = root_line cluster script k command reply
line_of_reply cluster script k command (replies.BadBody fault) = error_line k (body_error fault)
line_of_reply cluster script k command (replies.BadReindex fault) = error_line k (reindex_error fault)
line_of_reply cluster script k command (replies.NoIndex index) = error_line k (index_not_found index)
line_of_reply cluster script k command (replies.NoContext context) = error_line k (context_error context Missing)
line_of_reply cluster script k command (replies.NotFound target) = error_line k (not_found target)
line_of_reply cluster script k command (replies.Cancelled tasks waited) = reply_line k (cancelled tasks waited)
line_of_reply cluster script k command (replies.Cleared freed) = reply_line k (cleared freed)
line_of_reply cluster script k command (replies.Now now) = reply_line k (moment_json now)
line_of_reply cluster script k command (replies.Listed rows now) = shown_line k command rows now
line_of_reply cluster script k command replies.Answered = reply_line k (string (codes "answered"))

-- the moment of a list is one that can be told in nanoseconds
abbrev pub IsPrintable : LineReply → Type 0
IsPrintable (replies.Listed rows now) = now < 2 ^ 43
IsPrintable _ = ⊤
