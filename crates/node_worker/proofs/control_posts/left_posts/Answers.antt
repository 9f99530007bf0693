-- One control worker more is told.
use Rattle.std.proofs.Common.{◌≡◌, ◌+◌, [], ◌∷◌, ◌++◌, ◌∙◌}
use Rattle.run_facts.specs.Inboxes.{control_of}
use Rattle.node_worker.proofs.Posting.{left_more}
use Rattle.node_worker.proofs.control_posts.left_posts.Goals as goal

pub loop-before-preserved : goal.loop-before-preserved
loop-before-preserved g c =
    let before = c.loop-before.posts.items in
    let letter = c.new.result in
    let put : c.push.new.self.items ≡ before ++ record { to = control_of c.args.workers (c.loop-before.before + 1); letter = letter } ∷ [] = c.in_ok-push.ensures.items ∙ (λ i. before ++ record { to = c.control_of.ensures i; letter = letter } ∷ []) in
    left_more c.args.workers c.args.node c.loop-before.before before c.push.new.self.items letter c.loop-before.invariant put c.new.ensures
