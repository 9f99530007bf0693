use Rattle.race_board.proofs.Seen.{saw_found}
use Rattle.race_board.proofs.laws.seen_at_a_moment.Goals as goal

pub returns : goal.returns
returns c = record { found = λ kind v w es word seen walks saw. saw_found kind walks.0 v w es word seen walks.1 saw }
