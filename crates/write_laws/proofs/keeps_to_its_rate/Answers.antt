use Rattle.command_roots.specs.Roots.{scripted}
use Rattle.write_laws.proofs.PagesInTime.{pages_in_time}
use Rattle.write_laws.proofs.WholeTurns.{run_planned}
use Rattle.write_laws.proofs.keeps_to_its_rate.Goals as goal

pub returns : goal.returns
returns c = λ cluster corpus script h run l. pages_in_time cluster corpus (scripted script) h l (run_planned cluster corpus script h run)
