use Rattle.std.proofs.Common.{rules}
use Rattle.task_work.specs.Works.{does_wait}
use Rattle.task_work.proofs.Plans.{tells_planned}
use Rattle.task_work.proofs.work.Work.waits.Goals as goal

pub returns-in-Reindex-clause-planned : goal.returns-in-Reindex-clause-planned
returns-in-Reindex-clause-planned c = λ cluster corpus task request p at. tells_planned does_wait cluster corpus task request p c.args.now c.args.self.now c.waits.result (λ docs. search rules) at

pub returns-in-Slice-clause-planned : goal.returns-in-Slice-clause-planned
returns-in-Slice-clause-planned c = λ cluster corpus task request p at. tells_planned does_wait cluster corpus task request p c.args.now c.args.self.now c.waits-in-Slice.result (λ docs. search rules) at

pub returns-in-Bulk-clause-planned : goal.returns-in-Bulk-clause-planned
returns-in-Bulk-clause-planned c = λ cluster corpus task request p at. tells_planned does_wait cluster corpus task request p c.args.now c.args.self.now c.waits-in-Bulk.result (λ docs. search rules) at
