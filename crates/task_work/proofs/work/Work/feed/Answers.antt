use Rattle.std.proofs.Common.{rules}
use Rattle.task_work.specs.declared.work.Work.TheVariants.{Reindex, Slice, Bulk}
use Rattle.task_work.proofs.Plans.{answered_ok, work_answered}
use Rattle.task_work.proofs.work.Work.feed.Goals as goal

pub returns-in-Reindex-clause-at : goal.returns-in-Reindex-clause-at
returns-in-Reindex-clause-at c = λ task request shards p writes at. answered_ok task shards p writes request c.args.self.now (Reindex c.feed-in-Reindex.new.self) c.feed-in-Reindex.result c.args.ask c.args.reply c.args.now (search rules) c.requires.takes at

pub returns-in-Slice-clause-at : goal.returns-in-Slice-clause-at
returns-in-Slice-clause-at c = λ task request shards p writes at. answered_ok task shards p writes request c.args.self.now (Slice c.feed-in-Slice.new.self) c.feed-in-Slice.result c.args.ask c.args.reply c.args.now (search rules) c.requires.takes at

pub returns-in-Bulk-clause-at : goal.returns-in-Bulk-clause-at
returns-in-Bulk-clause-at c = λ task request shards p writes at. work_answered task shards p writes request c.args.ask c.args.reply c.args.now c.args.self.now (Bulk c.feed-in-Bulk.new.self) (search rules) c.requires.takes at
