use Rattle.std.proofs.Common.{◌≡◌, ◌∙◌, ◌∷◌, ◌-◌, ap, refl, length, rules}
use Rattle.task_events.specs.declared.history.TheConstants.{MAX_EVENTS}
use Rattle.task_events.specs.declared.event.Event.TheVariants.{Tick}
use Rattle.task_events.specs.Clock.{clock}
use Rattle.world_moves.specs.Moves.{IsPartly}
use Rattle.world_moves.proofs.CutShort.{cut_only}
use Rattle.world_moves.proofs.Outcomes.{stops}
use Rattle.world_steps.specs.Draining.{ticked_to}
use Rattle.world_steps.proofs.HadBefore.{had_ready, wholly}
use Rattle.world_steps.proofs.Turning.{one_event}
use Rattle.world_steps.proofs.draining.tick_to.Goals as goal

pub returns-in_err-tick-clause-stop : goal.returns-in_err-tick-clause-stop
returns-in_err-tick-clause-stop c =
    let s = c.args.state.now in
    stops c.from_residual.result (IsPartly (λ h new. new ≡ ticked_to c.args.due h) s.history) ⊥ c.tick.new.state.history (λ failed. (let full : length s.history ≡ MAX_EVENTS = search rules in
    cut_only (λ h new. new ≡ ticked_to c.args.due h) s.history c.tick.new.state.history (Tick (c.args.due - clock s.history)) refl full c.in_err-tick.ensures.err)) (λ failed. search rules)

pub refresh-requires-clause-had : goal.refresh-requires-clause-had
refresh-requires-clause-had c =
    let s = c.args.state.now in
    had_ready s c.tick.new.state c.args.ready.now c.len-before.result c.len-before.ensures c.requires.known c.in_ok-tick.ensures.keeps (one_event s.history c.tick.new.state.history _ refl c.in_ok-tick.ensures.happened)

pub returns-in-Err-clause-part : goal.returns-in-Err-clause-part
returns-in-Err-clause-part c =
    let s = c.args.state.now in
    let happened : c.tick.new.state.history ≡ ticked_to c.args.due s.history = c.in_ok-tick.ensures.happened ∙ ap (λ now. Tick (c.args.due - now) ∷ s.history) c.requires.tied.tells.clock_is in
    wholly (λ h new. new ≡ ticked_to c.args.due h) s.history c.tick.new.state.history happened (one_event s.history c.tick.new.state.history _ refl happened)
