use Rattle.world_moves.specs.Moves.{Delivers}
use Rattle.world_steps.proofs.HadBefore.{had_ready, not_past, wholly}
use Rattle.world_steps.proofs.Turning.{delivered}
use Rattle.world_steps.proofs.moving.deliver_and_refresh.Goals as goal

pub refresh-requires-clause-before : goal.refresh-requires-clause-before
refresh-requires-clause-before c =
    let s = c.args.state.now in
    not_past s.history c.deliver_one.new.state.history c.len-before.result c.len-before.ensures (delivered s.cluster s.history c.args.nth c.deliver_one.new.state.history c.in-Ok.ensures.delivered)

pub refresh-requires-clause-had : goal.refresh-requires-clause-had
refresh-requires-clause-had c =
    let s = c.args.state.now in
    had_ready s c.deliver_one.new.state c.args.ready.now c.len-before.result c.len-before.ensures c.requires.known c.in-Ok.ensures.keeps (delivered s.cluster s.history c.args.nth c.deliver_one.new.state.history c.in-Ok.ensures.delivered)

pub returns-in-Err-refresh-clause-part : goal.returns-in-Err-refresh-clause-part
returns-in-Err-refresh-clause-part c =
    let s = c.args.state.now in
    wholly (λ h new. Delivers s.cluster h c.args.nth new) s.history c.deliver_one.new.state.history c.in-Ok.ensures.delivered (delivered s.cluster s.history c.args.nth c.deliver_one.new.state.history c.in-Ok.ensures.delivered)
