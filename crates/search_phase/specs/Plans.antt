-- What a search plans, by its next step.
use Rattle.task_events.specs.declared.step.Do.{Do}
use Rattle.task_events.specs.declared.step.Do.TheVariants as steps
use Rattle.search_phase.specs.declared.root.RootPlan.{RootPlan}
use Rattle.search_phase.specs.declared.root.RootPlan.TheVariants.{Ask, Wait, Finish}

abbrev pub plan_of : Do → RootPlan
plan_of (steps.AskNext request) = Ask request
plan_of steps.Turn = Wait
plan_of (steps.Wait until) = Wait
plan_of (steps.Finish reply) = Finish
