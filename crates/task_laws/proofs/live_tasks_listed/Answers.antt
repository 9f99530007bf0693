use Rattle.std.proofs.Common.{◌∙◌, List}
use Rattle.std.specs.Prelude.{◌==◌}
use Rattle.task_events.specs.declared.event.Event.{Event}
use Rattle.task_events.specs.Same.{same_task}
use Rattle.task_events.specs.Tasks.{live_tasks}
use Rattle.task_events.specs.Laws.{ListsLiveTasks}
use Rattle.task_laws.proofs.Numbers.{number_is}
use Rattle.task_laws.proofs.Living.{LivingFacts, living_facts}
use Rattle.task_laws.proofs.live_tasks_listed.Goals as goal

law : (h : List Event) → LivingFacts h → ListsLiveTasks h
law h f = record {
  once = λ t. number_is (same_task t) (live_tasks h) ∙ f.once t;
  on_node = λ n. number_is (λ t. n == t.node) (live_tasks h) ∙ f.on_node n;
}

pub returns : goal.returns
returns c = λ cluster h l. law h (living_facts cluster h l)
