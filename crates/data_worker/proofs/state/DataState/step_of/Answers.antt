-- The core's step is that of the task whose turn it is, and its letters go to their inboxes.
use Rattle.std.proofs.Common.{rules, refl, ap, subst, sym, ◌∙◌}
use Rattle.task_ids.specs.declared.Cluster.{Cluster}
use Rattle.data_pool.specs.declared.pool.Pool.{Pool}
use Rattle.live_tasks.specs.Live.{entry_at}
use Rattle.data_worker.specs.Data.{Waited}
use Rattle.data_worker.proofs.Doing.{some_live, stepped_on, waited_on}
use Rattle.data_worker.proofs.state.DataState.step_of.Goals as goal

pub returns-in_default-clause-did : goal.returns-in_default-clause-did
returns-in_default-clause-did g c =
    let task = c.args.task in
    let live = some_live task (entry_at c.args.self.now.core.live task.number) c.requires.next.is_live in
    subst (Waited g.B.DataBoard.rests _) (sym c.note_wait.ensures) (waited_on g.B.DataBoard.rests _ _ _ task live.0 c.requires.next live.1 (c.in_ok-gave.ensures.steps live.0 live.1) (search rules) refl refl)

pub returns-in-Ok-clause-did : goal.returns-in-Ok-clause-did
returns-in-Ok-clause-did g c =
    let task = c.args.task in
    let live = some_live task (entry_at c.args.self.now.core.live task.number) c.requires.next.is_live in
    stepped_on g.B.DataBoard.rests _ _ c.in-Ok.posts.items c.in-Some.gave.items _ c.nodes.result c.workers.result task live.0 c.requires.next live.1 (c.in_ok-gave.ensures.steps live.0 live.1) (search rules)
    (c.nodes.ensures.nodes ∙ ap (λ (k : Cluster). k.nodes) c.data_step.ensures.own.cluster) (c.workers.ensures.workers ∙ ap (λ (p : Pool). p.workers) c.data_step.ensures.own.pool) c.in-Ok.ensures.posts refl refl
