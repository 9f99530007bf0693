use Rattle.std.proofs.Common.{◌∙◌, ap, subst}
use Rattle.command_roots.specs.Results.{has_result, task_named}
use Rattle.world_steps.specs.World.{IsWorld}
use Rattle.world_steps.proofs.world.World.has_result.Goals as goal

pub returns : goal.returns
returns c =
    let s = c.self.inside.state in
    let goes = ap (λ w. w.stopped) c.self.view_is ∙ c.requires in
    let world = subst (λ o. IsWorld s c.self.inside.ready o) goes c.self.invariant in
    c.has_result.ensures s.script.now s.history world.ready_known.results ∙ ap (λ w. has_result w.script (task_named c.args.target.now w.past) w.past) c.self.view_is
