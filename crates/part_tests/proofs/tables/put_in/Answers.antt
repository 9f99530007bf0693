use Rattle.task_table.proofs.Live.{IsLive-with_task, IsLive-kept_with_task}
use Rattle.part_tests.proofs.tables.put_in.Goals as goal

pub returns-in-Ok : goal.returns-in-Ok
returns-in-Ok c = record {
  live = rw c.in-Ok.ensures.row (IsLive-with_task c.args.table.now _ _);
  kept = λ id live. rw c.in-Ok.ensures.row (IsLive-kept_with_task c.args.table.now _ id _ live);
}

pub returns-in-Err-clause-kept : goal.returns-in-Err-clause-kept
returns-in-Err-clause-kept c id live = rw c.in-Err.ensures.err live
