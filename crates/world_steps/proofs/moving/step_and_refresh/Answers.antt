use Rattle.world_steps.proofs.HadBefore.{had_ready, not_past, partly_stepped}
use Rattle.world_steps.proofs.Turning.{stepped_there}
use Rattle.world_steps.proofs.moving.step_and_refresh.Goals as goal

pub refresh-requires-clause-before : goal.refresh-requires-clause-before
refresh-requires-clause-before c =
    let s = c.args.state.now in
    not_past s.history c.act.new.state.history c.len-before.result c.len-before.ensures (stepped_there s.cluster s.corpus.now s.script.now c.args.task s.history c.act.new.state.history c.in-Ok-act.stepped c.in-Ok-act.ensures.stepped)

pub refresh-requires-clause-had : goal.refresh-requires-clause-had
refresh-requires-clause-had c =
    let s = c.args.state.now in
    had_ready s c.act.new.state c.args.ready.now c.len-before.result c.len-before.ensures c.requires.known c.in-Ok-act.ensures.keeps (stepped_there s.cluster s.corpus.now s.script.now c.args.task s.history c.act.new.state.history c.in-Ok-act.stepped c.in-Ok-act.ensures.stepped)

pub returns-in-Err-refresh-clause-part : goal.returns-in-Err-refresh-clause-part
returns-in-Err-refresh-clause-part c =
    let s = c.args.state.now in
    partly_stepped s.cluster s.corpus.now s.script.now c.args.task s.history c.act.new.state.history c.in-Ok-act.stepped c.in-Ok-act.ensures.stepped
