use Rattle.std.proofs.Common.{rules}
use Rattle.task_work.specs.Works.{due_in}
use Rattle.task_work.proofs.Plans.{tells_planned}
use Rattle.task_work.proofs.work.Work.due.Goals as goal

pub returns-in-Reindex-clause-planned : goal.returns-in-Reindex-clause-planned
returns-in-Reindex-clause-planned c = λ cluster corpus task request p at. tells_planned due_in cluster corpus task request p c.args.now c.args.self.now c.due.result (λ docs. search rules) at

pub returns-in-Slice-clause-planned : goal.returns-in-Slice-clause-planned
returns-in-Slice-clause-planned c = λ cluster corpus task request p at. tells_planned due_in cluster corpus task request p c.args.now c.args.self.now c.due-in-Slice.result (λ docs. search rules) at
