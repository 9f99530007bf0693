use Rattle.std.proofs.Common.{◌∙◌, ap, subst}
use Rattle.std.specs.FinMap.{keys}
use Rattle.std.proofs.lemmas.Result.{IfOk-weaker}
use Rattle.task_results.specs.Stands.{results_at}
use Rattle.command_roots.specs.Results.{keeping}
use Rattle.world_steps.specs.World.{IsWorld}
use Rattle.world_steps.proofs.world.World.results.Goals as goal

pub returns-clause-ids : goal.returns-clause-ids
returns-clause-ids c =
    let s = c.self.inside.state in
    let goes = ap (λ w. w.stopped) c.self.view_is ∙ c.requires in
    let world = subst (λ o. IsWorld s c.self.inside.ready o) goes c.self.invariant in
    IfOk-weaker c.standing.result _ _ (λ ids listed. listed s.script.now s.history world.ready_known.results ∙ ap (λ w. keys (results_at (keeping w.script) w.past)) c.self.view_is) c.standing.ensures.ids
