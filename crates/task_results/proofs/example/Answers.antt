use Rattle.std.proofs.Common.{refl, eq-eqb}
use Rattle.task_events.specs.Same.{same_task}
use Rattle.task_results.proofs.example.Goals as goal

pub returns-clause-over : goal.returns-clause-over
unfolding same_task
returns-clause-over c = rw (eq-eqb c.args.task.node c.args.task.node refl, eq-eqb c.args.task.number c.args.task.number refl) refl

pub returns-clause-forgotten : goal.returns-clause-forgotten
unfolding same_task
returns-clause-forgotten c = rw (eq-eqb c.args.task.node c.args.task.node refl, eq-eqb c.args.task.number c.args.task.number refl) refl

pub returns-clause-not_stored : goal.returns-clause-not_stored
unfolding same_task
returns-clause-not_stored c = rw (eq-eqb c.args.task.node c.args.task.node refl, eq-eqb c.args.task.number c.args.task.number refl) refl
