use Rattle.task_table.proofs.Live.{IsLive-after_mark}
use Rattle.part_tests.proofs.tables.mark_kept.Goals as goal

pub returns : goal.returns
returns c id live = rw c.mark.ensures.after (IsLive-after_mark _ _ _ _ id live)
