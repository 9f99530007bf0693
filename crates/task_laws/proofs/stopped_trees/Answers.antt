use Rattle.task_laws.proofs.CalledOff.{over_called_off, marked_called_off}
use Rattle.task_laws.proofs.stopped_trees.Goals as goal

pub returns : goal.returns
returns c = λ cluster. record {
  passes = λ t h l off. over_called_off cluster t h l.1 l.0.live off l.0.no_ban;
  asks = λ t k n r h l off. marked_called_off cluster t h l.1 l.0.goes_on.live l.0.goes_on.passed off l.0.unmarked;
  works = λ t h l off. marked_called_off cluster t h l.1 l.0.goes_on.live l.0.goes_on.passed off l.0.unmarked;
}
