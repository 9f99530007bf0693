use Rattle.std.proofs.Common.{refl, eq-eqb}
use Rattle.task_events.specs.Same.{same_task}
use Rattle.point_in_time.proofs.example.Goals as goal

pub returns-clause-over : goal.returns-clause-over
unfolding same_task
returns-clause-over c none = rw (eq-eqb c.args.task.node c.args.task.node refl, eq-eqb c.args.task.number c.args.task.number refl, none) refl

pub returns-clause-almost : goal.returns-clause-almost
unfolding same_task
returns-clause-almost c none = rw (eq-eqb c.args.task.node c.args.task.node refl, eq-eqb c.args.task.number c.args.task.number refl, none) refl

pub returns-clause-read : goal.returns-clause-read
unfolding same_task
returns-clause-read c none = rw (eq-eqb c.args.task.node c.args.task.node refl, eq-eqb c.args.task.number c.args.task.number refl, none) refl

pub returns-clause-closed : goal.returns-clause-closed
unfolding same_task
returns-clause-closed c = rw (eq-eqb c.args.task.node c.args.task.node refl, eq-eqb c.args.task.number c.args.task.number refl) refl
