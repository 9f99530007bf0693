use Rattle.std.proofs.Common.{◌∙◌, ap, sym}
use Rattle.command_roots.specs.Results.{task_named}
use Rattle.world_steps.proofs.results.named.Goals as goal

pub returns-in-Id : goal.returns-in-Id
returns-in-Id c = λ h known. sym (ap (λ x. task_named x h) c.in-Id.is)

pub returns-in-Command : goal.returns-in-Command
returns-in-Command c = λ h known. c.copied.ensures ∙ c.get.ensures.value ∙ known c.in-Command.number ∙ sym (ap (λ x. task_named x h) c.in-Command.is)
