use Rattle.std.proofs.Common.{◌≡◌, ◌∷◌, length, rules, map, reverse, refl}
use Rattle.task_events.specs.declared.event.Event.TheVariants.{Refuse}
use Rattle.task_events.specs.declared.history.TheConstants.{MAX_EVENTS}
use Rattle.world_moves.specs.Cancels.{answer_to, due_for}
use Rattle.world_moves.proofs.CancelledEnds.{none_part}
use Rattle.world_moves.proofs.CutShort.{cut_first}
use Rattle.world_moves.proofs.ends.refuse.Goals as goal

-- the history was full from the start
pub returns-then-len-eq-MAX_EVENTS-clause-part : goal.returns-then-len-eq-MAX_EVENTS-clause-part
returns-then-len-eq-MAX_EVENTS-clause-part c =
    let h = c.args.state.now.history in
    let event = Refuse c.args.task c.args.cancel in
    none_part h (reverse (map (answer_to (event ∷ h)) (due_for c.args.task (event ∷ h)))) event

pub returns-then-len-eq-MAX_EVENTS-clause-full : goal.returns-then-len-eq-MAX_EVENTS-clause-full
returns-then-len-eq-MAX_EVENTS-clause-full c = λ failed.
    let h = c.args.state.now.history in
    let event = Refuse c.args.task c.args.cancel in
    let full : length h ≡ MAX_EVENTS = search rules in
    cut_first h h (reverse (map (answer_to (event ∷ h)) (due_for c.args.task (event ∷ h)))) event full refl
