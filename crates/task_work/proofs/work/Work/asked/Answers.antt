use Rattle.std.proofs.Common.{rules}
use Rattle.task_work.specs.declared.work.Work.TheVariants.{Reindex, Slice, Bulk}
use Rattle.task_work.proofs.Plans.{work_asked}
use Rattle.task_work.proofs.work.Work.asked.Goals as goal

pub returns-in-Reindex-clause-at : goal.returns-in-Reindex-clause-at
returns-in-Reindex-clause-at c = λ task request shards p writes next at. work_asked task shards p writes request c.args.ask c.args.self.now (Reindex c.asked-in-Reindex.new.self) (search rules) c.requires next at

pub returns-in-Slice-clause-at : goal.returns-in-Slice-clause-at
returns-in-Slice-clause-at c = λ task request shards p writes next at. work_asked task shards p writes request c.args.ask c.args.self.now (Slice c.asked-in-Slice.new.self) (search rules) c.requires next at

pub returns-in-Bulk-clause-at : goal.returns-in-Bulk-clause-at
returns-in-Bulk-clause-at c = λ task request shards p writes next at. work_asked task shards p writes request c.args.ask c.args.self.now (Bulk c.asked-in-Bulk.new.self) (search rules) c.requires next at
