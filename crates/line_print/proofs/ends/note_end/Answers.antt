use Rattle.std.specs.HashMap.{get}
use Rattle.line_print.specs.Ends.{same_id}
use Rattle.line_print.proofs.EndLemmas.{ended_more, not_ended_more}
use Rattle.line_print.proofs.ends.note_end.Goals as goal

pub returns-in_ok-insert : goal.returns-in_ok-insert
returns-in_ok-insert c events here so_far t =
    ended_more events c.args.at c.args.event.now t c.in-Some.task (get same_id c.args.ends.now t) (get same_id c.insert.new.self t) here c.in-Some.ensures (c.in_ok-insert.ensures.updates.0 t) (so_far t)

pub returns-in_default : goal.returns-in_default
returns-in_default c events here so_far t =
    not_ended_more events c.args.at c.args.event.now t (get same_id c.args.ends.now t) here c.in_default.ensures (so_far t)
