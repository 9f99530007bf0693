use Rattle.std.proofs.Common.{refl, eq-eqb}
use Rattle.task_events.specs.Same.{same_task}
use Rattle.task_results.proofs.example_of_waiting.Goals as goal

pub returns-clause-marked : goal.returns-clause-marked
unfolding same_task
returns-clause-marked c = rw (eq-eqb c.args.task.node c.args.task.node refl, eq-eqb c.args.task.number c.args.task.number refl) refl

pub returns-clause-told : goal.returns-clause-told
unfolding same_task
returns-clause-told c = rw (eq-eqb c.args.task.node c.args.task.node refl, eq-eqb c.args.task.number c.args.task.number refl) refl

pub returns-clause-stands : goal.returns-clause-stands
unfolding same_task
returns-clause-stands c = rw (eq-eqb c.args.task.node c.args.task.node refl, eq-eqb c.args.task.number c.args.task.number refl) refl

pub returns-clause-not_stored : goal.returns-clause-not_stored
unfolding same_task
returns-clause-not_stored c = rw (eq-eqb c.args.task.node c.args.task.node refl, eq-eqb c.args.task.number c.args.task.number refl) refl
