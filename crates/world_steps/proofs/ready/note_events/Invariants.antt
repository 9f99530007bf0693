use Rattle.std.specs.BTreeSet.{contains}
use Rattle.task_ids.specs.TaskIdOrder.{task_id_cmp}
use Rattle.world_steps.specs.Alarms.{AreAlarms, alarm_at}
use Rattle.world_steps.specs.Draining.{due_of}
use Rattle.world_steps.specs.Results.{KnowsResults}
use Rattle.world_steps.specs.World.{alarm_in, is_ready, past_of, ready_in}
use Rattle.world_steps.proofs.Readiness.{Noted}
use Rattle.world_steps.proofs.ready.note_events.Given as goal

abbrev pub invariant-loop-at : goal.invariant-loop-at
invariant-loop-at l = record {
  tasks : Noted (ready_in l.state) (is_ready l.state.cluster l.state.corpus.now l.state.script.now (past_of l.before l.state.history)) l.before l.state.history l.at (contains task_id_cmp l.ready.tasks);
  kept : AreAlarms l.ready.alarms;
  alarms : Noted (alarm_in l.state) (λ t. due_of l.state.cluster l.state.corpus.now l.state.script.now t (past_of l.before l.state.history)) l.before l.state.history l.at (alarm_at l.ready.alarms);
  results : KnowsResults l.state.script.now (past_of l.at l.state.history) l.ready.results;
}
