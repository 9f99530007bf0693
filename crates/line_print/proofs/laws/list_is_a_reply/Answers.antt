use Rattle.tasks_api.specs.Lists.{list_json, shown, task_json}
use Rattle.line_print.proofs.PrintLemmas.{text_is_reply}
use Rattle.line_print.proofs.laws.list_is_a_reply.Goals as goal

pub returns : goal.returns
returns c = λ k group detailed now wanted rows. text_is_reply k (list_json group (task_json detailed now) (shown wanted rows))
