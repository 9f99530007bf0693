use Rattle.std.proofs.Common.{rules}
use Rattle.task_work.proofs.Plans.{does_planned}
use Rattle.task_work.proofs.work.Work.next.Goals as goal

pub returns-in-Reindex-clause-planned : goal.returns-in-Reindex-clause-planned
returns-in-Reindex-clause-planned c = λ cluster corpus task request p at. does_planned cluster corpus task request p c.args.now c.args.self.now c.next.result (λ docs on. search rules) at

pub returns-in-Slice-clause-planned : goal.returns-in-Slice-clause-planned
returns-in-Slice-clause-planned c = λ cluster corpus task request p at. does_planned cluster corpus task request p c.args.now c.args.self.now c.next-in-Slice.result (λ docs on. search rules) at

pub returns-in-Bulk-clause-planned : goal.returns-in-Bulk-clause-planned
returns-in-Bulk-clause-planned c = λ cluster corpus task request p at. does_planned cluster corpus task request p c.args.now c.args.self.now c.next-in-Bulk.result (λ docs on. search rules) at
