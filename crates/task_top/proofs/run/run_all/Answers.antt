use Rattle.std.proofs.Common.{subst}
use Rattle.std.proofs.lemmas.Result.{err_from_is_err_and}
use Rattle.world_steps.specs.World.{WorldView}
use Rattle.task_top.specs.Progress.{EndsEarly, EndsWhole}
use Rattle.task_top.proofs.ProgressLemmas.{drained_whole, stops_in_drain}
use Rattle.task_top.proofs.run.run_all.Goals as goal

pub returns-clause-whole : goal.returns-clause-whole
returns-clause-whole c =
    subst (λ (w : WorldView). EndsWhole w.cluster w.corpus c.args.script.now c.drain.new.self.past c.run_commands.new.found.items) c.in_ok-run_commands.ensures.keeps
    (drained_whole c.args.script.now c.run_commands.new.found.items c.run_commands.new.world c.drain.new.self.past c.in_ok-run_commands.ensures.ok _ c.in_ok-drain.ensures.drained c.in_ok-drain.ensures.over c.in_ok-drain.ensures.answered c.in_ok-drain.ensures.turn)

pub returns-in_err-drain-clause-early : goal.returns-in_err-drain-clause-early
returns-in_err-drain-clause-early c =
    let told = err_from_is_err_and c.from_residual-in_err-drain.result c.from_residual-in_err-drain.ensures.1 in
    rw (told.1, told.2)
    (subst (λ (w : WorldView). EndsEarly w.cluster w.corpus c.args.script.now c.drain.new.self.past c.in_err-drain.field-0.0) c.in_ok-run_commands.ensures.keeps
    (stops_in_drain c.args.script.now c.run_commands.new.found.items c.run_commands.new.world c.drain.new.self.past c.in_ok-run_commands.ensures.ok c.in_err-drain.field-0.0 c.in_err-drain.ensures.part c.in_err-drain.ensures.cause))
