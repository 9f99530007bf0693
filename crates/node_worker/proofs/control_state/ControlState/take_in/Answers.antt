-- The core's turn is one with what the letter says.
use Rattle.std.proofs.Common.{refl, subst}
use Rattle.control_worker.specs.View.{view_of}
use Rattle.control_worker.specs.Turn.{Turned}
use Rattle.node_link.specs.declared.body.Body.{Body}
use Rattle.node_worker.proofs.Controlling.{took_letter}
use Rattle.node_worker.proofs.control_state.ControlState.take_in.Goals as goal

pub returns-in-Ok-act_posts-clause-did : goal.returns-in-Ok-act_posts-clause-did
returns-in-Ok-act_posts-clause-did g c =
    let rests = g.B.ControlBoard.rests in
    let old = c.args.self.now in
    let new = c.control_turn.new in
    let acts = c.in-Ok.acts.items in
    let turned = subst (λ (letter : Body). Turned rests old.board (view_of old.core) letter acts (view_of new.core) new.board) c.new.ensures c.in-Ok.ensures.acts in
    took_letter rests _ _ _ _ acts c.workers-workers.result c.node-node.result turned c.workers-workers.ensures.workers c.node-node.ensures.node c.in-Ok-act_posts.ensures c.note_left.ensures refl
