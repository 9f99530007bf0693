-- The core's turn is one with what the letter says, and its letters go to their inboxes.
use Rattle.std.proofs.Common.{refl, subst, ap, ◌∙◌}
use Rattle.task_ids.specs.declared.Cluster.{Cluster}
use Rattle.node_link.specs.declared.body.Body.{Body}
use Rattle.data_pool.specs.declared.pool.Pool.{Pool}
use Rattle.data_core.specs.Turns.{Turned}
use Rattle.data_worker.proofs.Doing.{took_letter}
use Rattle.data_worker.proofs.state.DataState.take_in.Goals as goal

pub returns-in-Ok-clause-did : goal.returns-in-Ok-clause-did
returns-in-Ok-clause-did g c =
    let rests = g.B.DataBoard.rests in
    let old = c.args.self.now in
    let new = c.data_turn.new in
    let gave = c.in_ok-gave.gave.items in
    let turned = subst (λ (letter : Body). Turned rests letter old.board old.core gave new.core new.board) c.new.ensures c.in_ok-gave.ensures.turned in
    took_letter rests _ _ c.args.body c.in-Ok.posts.items gave c.nodes.result c.workers.result turned (c.nodes.ensures.nodes ∙ ap (λ (k : Cluster). k.nodes) c.data_turn.ensures.own.cluster)
    (c.workers.ensures.workers ∙ ap (λ (p : Pool). p.workers) c.data_turn.ensures.own.pool) c.in-Ok.ensures.posts refl refl
