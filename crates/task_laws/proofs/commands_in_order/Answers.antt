use Rattle.task_laws.proofs.Commands.{beginning_last, begun_first, beginning_first, in_turn}
use Rattle.task_laws.proofs.commands_in_order.Goals as goal

pub returns-clause-commands : goal.returns-clause-commands
returns-clause-commands c = λ cluster. record {
  begun = λ k h l. (l.0, begun_first cluster h l.1 k l.0);
  started = λ k t h l. (beginning_last k h l.0.begins, beginning_first cluster h l.1 k l.0.begins);
  rejected = λ k n h l. (beginning_last k h l.0.begins, beginning_first cluster h l.1 k l.0.begins);
  missing = λ d h l. (beginning_last d h l.0, beginning_first cluster h l.1 d l.0);
  naming = λ d t w h l. l.0.current;
  at_once = λ d h l w. (beginning_last d h (l.0.due.at_once w), beginning_first cluster h l.1 d (l.0.due.at_once w));
  at_once_done = λ d h l w. (beginning_last d h (l.0.due.at_once w), beginning_first cluster h l.1 d (l.0.due.at_once w));
}

pub returns-clause-writes : goal.returns-clause-writes
returns-clause-writes c = λ cluster index id shard outcome h l. in_turn cluster h l.1 l.0
