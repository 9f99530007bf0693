use Rattle.std.proofs.Common.{◌≡◌, ◌≤◌, ◌∷◌, length, take}
use Rattle.task_events.specs.declared.event.Event.TheVariants.{Work}
use Rattle.task_events.specs.declared.history.TheConstants.{MAX_EVENTS}
use Rattle.task_events.specs.Written.{with_notes}
use Rattle.world_moves.proofs.turns.note_turn.Given as goal

abbrev pub invariant-loop-note : goal.invariant-loop-note
invariant-loop-note l = record {
  noted : l.history ≡ with_notes (take l.note-index l.notes) (Work l.fn.task ∷ l.fn.history);
  room : length l.history ≤ MAX_EVENTS;
}
