use Rattle.std.proofs.Common.{◌∙◌, ap, sym, subst}
use Rattle.std.specs.Prelude.{is_some}
use Rattle.task_events.specs.Tasks.{is_live}
use Rattle.world_steps.specs.World.{IsWorld}
use Rattle.world_moves.proofs.StepsAfter.{kept_where_live}
use Rattle.world_moves.proofs.Lent.{copied_alike}
use Rattle.world_steps.proofs.world.World.is_live.Goals as goal

pub returns : goal.returns
returns c =
    let s = c.self.inside.state in
    let goes = ap (λ w. w.stopped) c.self.view_is ∙ c.requires in
    let world = subst (λ o. IsWorld s c.self.inside.ready o) goes c.self.invariant in
    c.is_some.ensures ∙ sym (copied_alike c.get.result) ∙ ap is_some c.get.ensures.value
    ∙ kept_where_live s.cluster s.corpus.now s.script.now s.history _ _ _ world.tied.ties c.args.task ∙ ap (λ w. is_live c.args.task w.past) c.self.view_is
