use Rattle.top_parts.proofs.ReadingLaws.{either, too_long}
use Rattle.task_top.proofs.laws.one_reading.Goals as goal

pub returns-clause-either : goal.returns-clause-either
returns-clause-either c = either

pub returns-clause-too_long : goal.returns-clause-too_long
returns-clause-too_long c = too_long
