use Rattle.std.proofs.Common.{refl}
use Rattle.clap.proofs.OnLiterals.{clap_on_literals}
use Rattle.command_line.specs.Command.{tasktree}
use Rattle.command_line.specs.Plan.{asked, asked_by}
use Rattle.command_line.proofs.forms_taken.forms.Goals as goal

pub returns : goal.returns
unfolding asked asked_by tasktree clap_on_literals
returns c = record {
  defaults = refl;
  two_words = refl;
  one_word = refl;
  ends = refl;
  run = refl;
  pool = refl;
  pool_of_one = refl;
  number = refl;
  nothing = refl;
  twice = refl;
  past_the_end = refl;
  no_number = refl;
  workers_past_the_end = refl;
  no_worker = refl;
  workers_of_a_replay = refl;
  none_to_make = refl;
  too_great = refl;
  no_help = refl;
}
