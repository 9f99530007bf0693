use Rattle.std.proofs.Common.{rules}
use Rattle.task_work.specs.declared.work.Work.TheVariants.{BulkShard}
use Rattle.task_work.proofs.Plans.{turned_ok}
use Rattle.task_work.proofs.work.Work.turn.Goals as goal

pub returns-in-BulkShard-clause-at : goal.returns-in-BulkShard-clause-at
returns-in-BulkShard-clause-at c = λ task request shards p at.
    turned_ok task shards p c.args.shard.now.writes request c.args.self.now (BulkShard c.turn_of_part.new.part) c.turn_of_part.result c.turn_of_part.new.shard.writes (search rules) (search rules) at
