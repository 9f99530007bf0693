use Rattle.std.proofs.Common.{arith, ◌≤◌, length}
use Rattle.node_worker.proofs.Sending.{passed_over}
use Rattle.node_worker.proofs.flush.send_to.Goals as goal

pub returns-then-post-len : goal.returns-then-post-len
returns-then-post-len g c =
    let ok = c.args.senders.now.ok.0 in
    let is = c.if-post-len.true in
    let len = c.len.ensures in
    let out : length c.args.senders.now.items ≤ c.args.post.to = omega arith in
    passed_over _ _ out
