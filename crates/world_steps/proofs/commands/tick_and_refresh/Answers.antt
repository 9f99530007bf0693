use Rattle.std.proofs.Common.{[], ◌∷◌, rules, ◌≡◌, length, refl}
use Rattle.task_events.specs.declared.event.Event.TheVariants.{Tick}
use Rattle.task_events.specs.declared.history.TheConstants.{MAX_EVENTS}
use Rattle.world_moves.specs.Moves.{IsPartly}
use Rattle.world_moves.proofs.CutShort.{cut_only}
use Rattle.world_moves.proofs.Outcomes.{stops}
use Rattle.world_steps.proofs.Commanded.{day_ticks}
use Rattle.world_steps.proofs.HadBefore.{had_ready_by, wholly}
use Rattle.world_steps.proofs.commands.tick_and_refresh.Goals as goal

pub refresh-requires-clause-had : goal.refresh-requires-clause-had
refresh-requires-clause-had c =
    let s = c.args.state.now in
    had_ready_by s c.tick.new.state c.args.ready.now c.len-before.result c.len-before.ensures c.requires.known c.in_ok-tick.ensures.keeps (Tick c.args.ms ∷ []) c.in_ok-tick.ensures.happened

pub returns-in_err-tick-clause-stop : goal.returns-in_err-tick-clause-stop
returns-in_err-tick-clause-stop c =
    let s = c.args.state.now in
    stops c.from_residual.result (IsPartly (λ h new. new ≡ Tick c.args.ms ∷ h) s.history) ⊥ c.tick.new.state.history (λ failed. (let full : length s.history ≡ MAX_EVENTS = search rules in
    cut_only (λ h new. new ≡ Tick c.args.ms ∷ h) s.history c.tick.new.state.history (Tick c.args.ms) refl full c.in_err-tick.ensures.err)) (λ failed. search rules)

pub returns-in-Err-clause-part : goal.returns-in-Err-clause-part
returns-in-Err-clause-part c =
    let s = c.args.state.now in
    let happened = c.in_ok-tick.ensures.happened in
    wholly (λ h new. new ≡ Tick c.args.ms ∷ h) s.history c.tick.new.state.history happened (Tick c.args.ms ∷ [], happened, refl)

pub tick-requires-clause-low : goal.tick-requires-clause-low
tick-requires-clause-low c = λ _. c.requires.low

pub tick-requires-clause-high : goal.tick-requires-clause-high
tick-requires-clause-high c = day_ticks c.args.ms c.requires.high
