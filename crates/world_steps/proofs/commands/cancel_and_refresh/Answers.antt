use Rattle.std.proofs.Common.{◌≡◌, refl, inr}
use Rattle.world_moves.specs.Cancels.{after_cancel}
use Rattle.world_steps.proofs.HadBefore.{had_ready, not_past, wholly}
use Rattle.world_steps.proofs.Turning.{cancel_after}
use Rattle.world_steps.proofs.commands.cancel_and_refresh.Goals as goal

pub refresh-requires-clause-before : goal.refresh-requires-clause-before
refresh-requires-clause-before c =
    let s = c.args.state.now in
    not_past s.history c.cancel.new.state.history c.len-before.result c.len-before.ensures (cancel_after s.cluster s.script.now c.args.number c.args.target.now c.args.wait s.history c.cancel.new.state.history c.in-Ok.ensures.happened)

pub refresh-requires-clause-had : goal.refresh-requires-clause-had
refresh-requires-clause-had c =
    let s = c.args.state.now in
    had_ready s c.cancel.new.state c.args.ready.now c.len-before.result c.len-before.ensures c.requires.known c.in-Ok.ensures.keeps (cancel_after s.cluster s.script.now c.args.number c.args.target.now c.args.wait s.history c.cancel.new.state.history c.in-Ok.ensures.happened)

pub returns-in-Err-clause-part : goal.returns-in-Err-clause-part
returns-in-Err-clause-part c =
    let s = c.args.state.now in
    inr (after_cancel s.cluster s.script.now c.args.number c.args.target.now c.args.wait s.history, refl, c.in-Err.ensures.part)

pub returns-in-Err-refresh-clause-part : goal.returns-in-Err-refresh-clause-part
returns-in-Err-refresh-clause-part c =
    let s = c.args.state.now in
    wholly (λ h new. new ≡ after_cancel s.cluster s.script.now c.args.number c.args.target.now c.args.wait h) s.history c.cancel.new.state.history c.in-Ok.ensures.happened (cancel_after s.cluster s.script.now c.args.number c.args.target.now c.args.wait s.history c.cancel.new.state.history c.in-Ok.ensures.happened)
