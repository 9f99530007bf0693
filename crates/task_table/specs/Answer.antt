-- What a table answers.
use Rattle.std.specs.Prelude.{ℕ, Option, None, Some}
use Rattle.task_ids.specs.declared.task_info.TaskInfo.{TaskInfo}
use Rattle.child_track.specs.Token.{Token}
use Rattle.task_table.specs.declared.ended.MarkAnswer.{MarkAnswer}
use Rattle.task_table.specs.declared.ended.MarkAnswer.TheVariants.{Marked, Already, NotFound}
use Rattle.task_table.specs.declared.ended.PutError.{PutError}
use Rattle.task_table.specs.declared.ended.PutError.TheVariants.{Full, NumbersSpent, Memory}
use Rattle.task_table.specs.Table.{Table, with_mark}

-- by the mark of a live task
abbrev pub answer_to_mark : Option ℕ → MarkAnswer
answer_to_mark None = Marked
answer_to_mark (Some cancel) = Already cancel

-- by the live task, if there is one
abbrev pub mark_answer : Option TaskInfo → MarkAnswer
mark_answer None = NotFound
mark_answer (Some row) = answer_to_mark row.cancelled

-- only a task that was not marked is marked
abbrev pub after_mark : MarkAnswer → Table → ℕ → ℕ → Table
after_mark Marked table number cancel = with_mark table number cancel
after_mark (Already _) table number cancel = table
after_mark NotFound table number cancel = table

-- what a refusal hands back
abbrev pub refused_token : PutError → Option Token
refused_token (Full token) = token
refused_token (NumbersSpent token) = token
refused_token (Memory token) = token
