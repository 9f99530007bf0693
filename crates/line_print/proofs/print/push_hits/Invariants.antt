use Rattle.std.proofs.Common.{◌≡◌, ◌++◌, false, map, drop}
use Rattle.serde_json.specs.View.{items_of}
use Rattle.serde_json.specs.Written.{items_text}
use Rattle.task_events.specs.Printed.{hit_json}
use Rattle.line_print.proofs.print.push_hits.Given as goal

-- what is appended so far and what is still to come are the whole list
abbrev pub invariant-loop-hit : goal.invariant-loop-hit
invariant-loop-hit l =
    l.out.items ++ items_text l.later (items_of (map hit_json (drop l.hit-index l.hits))) ≡ l.fn.out.items ++ items_text false (items_of (map hit_json l.hits))
