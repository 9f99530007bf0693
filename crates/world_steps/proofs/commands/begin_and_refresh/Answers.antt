use Rattle.std.proofs.Common.{[], ◌∷◌, rules, ◌≡◌, length, refl}
use Rattle.task_events.specs.declared.event.Event.TheVariants.{Begin}
use Rattle.world_steps.proofs.HadBefore.{had_ready_by}
use Rattle.task_events.specs.declared.history.TheConstants.{MAX_EVENTS}
use Rattle.world_moves.specs.Moves.{IsPartly}
use Rattle.world_moves.proofs.CutShort.{cut_only}
use Rattle.world_moves.proofs.Outcomes.{stops}
use Rattle.world_steps.proofs.commands.begin_and_refresh.Goals as goal

pub refresh-requires-clause-had : goal.refresh-requires-clause-had
refresh-requires-clause-had c =
    let s = c.args.state.now in
    had_ready_by s c.begin.new.state c.args.ready.now c.len-before.result c.len-before.ensures c.requires.known c.in_ok-begin.ensures.keeps (Begin c.args.number ∷ []) c.in_ok-begin.ensures.happened

pub returns-in_err-begin-clause-stop : goal.returns-in_err-begin-clause-stop
returns-in_err-begin-clause-stop c =
    let s = c.args.state.now in
    stops c.from_residual.result (IsPartly (λ h new. new ≡ Begin c.args.number ∷ h) s.history) ⊥ c.begin.new.state.history (λ failed. (let full : length s.history ≡ MAX_EVENTS = search rules in
    cut_only (λ h new. new ≡ Begin c.args.number ∷ h) s.history c.begin.new.state.history (Begin c.args.number) refl full c.in_err-begin.ensures.err)) (λ failed. search rules)
