use Rattle.std.proofs.Common.{◌∙◌, ap, subst}
use Rattle.command_roots.specs.Results.{found_of}
use Rattle.world_steps.specs.World.{IsWorld}
use Rattle.world_steps.proofs.world.World.find.Goals as goal

pub find-requires-clause-known : goal.find-requires-clause-known
find-requires-clause-known c =
    let goes = ap (λ w. w.stopped) c.self.view_is ∙ c.requires in
    let world = subst (λ o. IsWorld c.self.inside.state c.self.inside.ready o) goes c.self.invariant in
    world.ready_known.results

pub returns : goal.returns
returns c = c.find.ensures ∙ ap (λ w. found_of w.script c.args.target.now w.past) c.self.view_is
