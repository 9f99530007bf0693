use Rattle.std.proofs.Common.{◌∙◌, ap}
use Rattle.task_events.specs.Tasks.{is_live}
use Rattle.command_roots.specs.Results.{status_of}
use Rattle.world_steps.proofs.world.World.status.Goals as goal

pub status-requires-clause-live : goal.status-requires-clause-live
status-requires-clause-live c = ap (λ w. is_live c.args.task w.past) c.self.view_is ∙ c.requires.live

pub returns : goal.returns
returns c = c.status.ensures ∙ ap (λ w. status_of w.script c.args.task w.past) c.self.view_is
