use Rattle.task_work.proofs.Parts.{on_err-weaker, part_broke_off}
use Rattle.task_work.proofs.bulk_shard.turn_of_part.Goals as goal

pub returns-clause-err : goal.returns-clause-err
returns-clause-err c = on_err-weaker c.turn.result _ _ (part_broke_off c.args.part.now c.turn.new.self c.args.shard.now.writes c.turn.new.shard.writes) c.turn.ensures.err
