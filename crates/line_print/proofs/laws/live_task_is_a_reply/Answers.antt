use Rattle.std.proofs.Common.{true, []}
use Rattle.tasks_api.specs.Lists.{task_json}
use Rattle.line_print.proofs.PrintLemmas.{running_is_reply}
use Rattle.line_print.proofs.laws.live_task_is_a_reply.Goals as goal

pub returns : goal.returns
returns c = λ script k now row status reply. running_is_reply k (task_json true now [] row) status
