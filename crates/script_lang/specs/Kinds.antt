-- The kinds of commands, and their names.
use Rattle.std.specs.Prelude.{ℕ, List, codes, Bool, true, false, if◌then◌else◌, Result, Ok, Err}
use Rattle.std.specs.Str.{bytes_eq}
use Rattle.task_ids.specs.declared.cause.Cause.{Cause}
use Rattle.task_ids.specs.declared.cause.Cause.TheVariants.{UnknownCommand}
use Rattle.script_lang.specs.declared.kind.Kind.{Kind}
use Rattle.script_lang.specs.declared.kind.Kind.TheVariants.{Search, Scroll, ClearScroll, Reindex, Cancel, ListTasks, GetTask, ForgetTask, ListResults, Tick, Deliver, Step, ListStep, Settle, Shuffle, WaitFor, History, Summary}

abbrev pub kind_named : List ℕ → Result Kind Cause
kind_named name =
    if bytes_eq name (codes "search") then Ok Search else
    (if bytes_eq name (codes "scroll") then Ok Scroll else
    (if bytes_eq name (codes "clear_scroll") then Ok ClearScroll else
    (if bytes_eq name (codes "reindex") then Ok Reindex else
    (if bytes_eq name (codes "cancel") then Ok Cancel else
    (if bytes_eq name (codes "list") then Ok ListTasks else
    (if bytes_eq name (codes "get_task") then Ok GetTask else
    (if bytes_eq name (codes "forget_task") then Ok ForgetTask else
    (if bytes_eq name (codes "list_results") then Ok ListResults else
    (if bytes_eq name (codes "tick") then Ok Tick else
    (if bytes_eq name (codes "deliver") then Ok Deliver else
    (if bytes_eq name (codes "step") then Ok Step else
    (if bytes_eq name (codes "list_step") then Ok ListStep else
    (if bytes_eq name (codes "settle") then Ok Settle else
    (if bytes_eq name (codes "shuffle") then Ok Shuffle else
    (if bytes_eq name (codes "wait_for") then Ok WaitFor else
    (if bytes_eq name (codes "history") then Ok History else
    (if bytes_eq name (codes "summary") then Ok Summary else Err UnknownCommand)))))))))))))))))

-- it writes a schedule or is about results, which threads do not take
abbrev pub is_schedule : Kind → Bool
is_schedule Search = false
is_schedule Scroll = false
is_schedule ClearScroll = false
is_schedule Reindex = false
is_schedule Cancel = false
is_schedule ListTasks = false
is_schedule GetTask = true
is_schedule ForgetTask = true
is_schedule ListResults = true
is_schedule Tick = false
is_schedule Deliver = true
is_schedule Step = true
is_schedule ListStep = true
is_schedule Settle = true
is_schedule Shuffle = true
is_schedule WaitFor = false
is_schedule History = true
is_schedule Summary = true
