use Rattle.std.proofs.Common.{◌≡◌, ◌++◌, List, Some, drop}
use Rattle.task_events.specs.declared.event.Event.{Event}
use Rattle.world_moves.specs.Cancels.{with_cancels}
use Rattle.world_moves.specs.Ties.{IsTiedWhile, Keeps}
use Rattle.world_steps.specs.Naming.{CanName, IsNaming}
use Rattle.world_steps.proofs.naming.name_all.Given as goal

abbrev pub invariant-loop-task : goal.invariant-loop-task
invariant-loop-task l = record {
  tied : IsTiedWhile (Some l.number) l.state;
  naming : IsNaming l.number l.wait l.state.history;
  can : CanName l.number (drop l.task-index l.tasks) l.state.history;
  keeps : Keeps l.initial.state l.state;
  rest : with_cancels l.number l.wait (drop l.task-index l.tasks) l.state.history ≡ with_cancels l.number l.wait l.tasks l.initial.state.history;
  grows : (es : List Event) × (l.state.history ≡ es ++ l.initial.state.history);
}
