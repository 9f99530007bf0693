use Rattle.std.proofs.Common.{◌∙◌, Some, ap, sym, subst}
use Rattle.std.specs.Prelude.{option_map}
use Rattle.std.specs.Option.{option_copied}
use Rattle.task_events.specs.Clock.{clock}
use Rattle.task_events.specs.TaskRows.{row_of}
use Rattle.task_events.specs.Tasks.{is_live}
use Rattle.tasks_api.specs.Lists.{task_text}
use Rattle.command_roots.specs.Roots.{scripted}
use Rattle.world_steps.specs.World.{IsWorld}
use Rattle.world_steps.proofs.world.World.task_line.Goals as goal

pub row-requires-clause-live : goal.row-requires-clause-live
row-requires-clause-live c = ap (λ w. is_live c.args.task w.past) c.self.view_is ∙ c.requires.live

pub returns-in_default-clause-line : goal.returns-in_default-clause-line
returns-in_default-clause-line c =
    let s = c.self.inside.state in
    ap (option_map (task_text (clock s.history))) (sym (ap option_copied c.in_default.is) ∙ c.row.ensures)
    ∙ ap (λ w. option_map (task_text (clock w.past)) (row_of (scripted w.script) c.args.task w.past)) c.self.view_is

pub returns-in-Ok-clause-line : goal.returns-in-Ok-clause-line
returns-in-Ok-clause-line c =
    let s = c.self.inside.state in
    let goes = ap (λ w. w.stopped) c.self.view_is ∙ c.requires.goes_on in
    let world = subst (λ o. IsWorld s c.self.inside.ready o) goes c.self.invariant in
    ap Some (c.in-Ok.ensures ∙ ap (λ now. task_text now c.in-Some.row.now) world.tied.tells.clock_is)
    ∙ ap (option_map (task_text (clock s.history))) (sym (ap option_copied c.in-Some.is) ∙ c.row.ensures)
    ∙ ap (λ w. option_map (task_text (clock w.past)) (row_of (scripted w.script) c.args.task w.past)) c.self.view_is
