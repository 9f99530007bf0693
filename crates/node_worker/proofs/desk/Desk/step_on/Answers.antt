use Rattle.std.proofs.Common.{rules, ◌≡◌, ◌++◌, refl}
use Rattle.node_worker.specs.Turns.{stepped}
use Rattle.node_worker.proofs.Works.{did_step}
use Rattle.node_worker.proofs.desk.Desk.step_on.Goals as goal

pub returns-clause-did : goal.returns-clause-did
returns-clause-did g c =
    let step : g.T.Turns.did c.args.self.now.worker stepped c.in-Some.posts.items c.step.new.self = search rules in
    let kept : c.keep.new.kept.items ≡ c.args.self.now.kept.items ++ c.in-Some.posts.items = search rules in
    did_step g.T.Turns.did _ _ c.in-Some.posts.items step refl refl kept
