use Rattle.std.proofs.lemmas.List.Elements.{All-from_recursion}
use Rattle.task_events.specs.Messages.{in_flight}
use Rattle.task_events.specs.Laws.{IsTold}
use Rattle.task_laws.proofs.Content.{told}
use Rattle.task_laws.proofs.message_contents.Goals as goal

pub returns : goal.returns
returns c = λ cluster h l. All-from_recursion (λ m. IsTold m h) (in_flight h) (told cluster h l)
