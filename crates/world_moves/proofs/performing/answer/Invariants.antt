use Rattle.std.proofs.Common.{◌≡◌, ◌++◌, ◌≤◌, ℕ, length, take}
use Rattle.task_events.specs.declared.history.TheConstants.{MAX_EVENTS}
use Rattle.world_moves.specs.Acts.{offered_in, left_after, answers_in}
use Rattle.world_moves.specs.Left.{left_in}
use Rattle.world_moves.proofs.performing.answer.Given as goal

abbrev pub invariant-loop-act : goal.invariant-loop-act
invariant-loop-act l = record {
  counted : (c : ℕ) → left_in l.left c ≡ left_after (offered_in (take l.act-index l.acts)) (left_in l.initial.left) c;
  answered : l.history ≡ answers_in (take l.act-index l.acts) (left_in l.initial.left) ++ l.initial.history;
  room : length l.history ≤ MAX_EVENTS;
}
