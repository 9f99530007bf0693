use Rattle.world_steps.proofs.HadBefore.{had_ready, not_past, partly_listed}
use Rattle.world_steps.proofs.Turning.{listing_answered}
use Rattle.world_steps.proofs.moving.list_and_refresh.Goals as goal

pub refresh-requires-clause-before : goal.refresh-requires-clause-before
refresh-requires-clause-before c =
    let s = c.args.state.now in
    not_past s.history c.list_step.new.state.history c.len-before.result c.len-before.ensures (listing_answered c.args.listing s.history c.in-Ok.stepped c.list_step.new.state.history c.in-Ok.ensures.stepped)

pub refresh-requires-clause-had : goal.refresh-requires-clause-had
refresh-requires-clause-had c =
    let s = c.args.state.now in
    had_ready s c.list_step.new.state c.args.ready.now c.len-before.result c.len-before.ensures c.requires.known c.in-Ok.ensures.keeps (listing_answered c.args.listing s.history c.in-Ok.stepped c.list_step.new.state.history c.in-Ok.ensures.stepped)

pub returns-in-Err-refresh-clause-part : goal.returns-in-Err-refresh-clause-part
returns-in-Err-refresh-clause-part c =
    let s = c.args.state.now in
    partly_listed c.args.listing s.history c.list_step.new.state.history c.in-Ok.stepped c.in-Ok.ensures.stepped
