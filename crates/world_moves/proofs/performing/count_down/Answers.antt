use Rattle.world_moves.proofs.AnswersOf.{more_left}
use Rattle.world_moves.proofs.performing.count_down.Goals as goal

pub loop-act-preserved : goal.loop-act-preserved
loop-act-preserved c = record { counted = more_left c.args.acts.now c.loop-act.act-index c.act-item.result _ _ _ c.loop-act-test.true c.act-item.is c.loop-act.invariant.counted c.count_one.ensures }
