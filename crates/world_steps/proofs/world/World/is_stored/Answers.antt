use Rattle.std.proofs.Common.{◌∙◌, ap, subst}
use Rattle.task_results.specs.Stands.{is_stored}
use Rattle.command_roots.specs.Results.{keeping}
use Rattle.world_steps.specs.World.{IsWorld}
use Rattle.world_steps.proofs.world.World.is_stored.Goals as goal

pub returns : goal.returns
returns c =
    let s = c.self.inside.state in
    let goes = ap (λ w. w.stopped) c.self.view_is ∙ c.requires in
    let world = subst (λ o. IsWorld s c.self.inside.ready o) goes c.self.invariant in
    c.is_stored.ensures s.script.now s.history world.ready_known.results ∙ ap (λ w. is_stored (keeping w.script) c.args.task w.past) c.self.view_is
