use Rattle.std.proofs.Common.{◌≡◌, Some, sym, ap, ◌∙◌}
use Rattle.std.specs.Prelude.{option_and_then}
use Rattle.command_roots.specs.Roots.{scripted}
use Rattle.write_laws.specs.Destinations.{dest_in}
use Rattle.write_laws.proofs.RunsKeep.{run_keeps}
use Rattle.write_laws.proofs.TreesInto.{trees_into}
use Rattle.write_laws.proofs.WholeTurns.{run_planned}
use Rattle.write_laws.proofs.WritesOwn.{run_writes_own}
use Rattle.write_laws.proofs.writes_where_told.Goals as goal

pub returns : goal.returns
returns c = λ cluster corpus script h t request dest run l asked is.
    trees_into cluster corpus (scripted script) h l (run_keeps cluster corpus script h run) (run_planned cluster corpus script h run) (run_writes_own cluster corpus script h run) t dest
    (λ index told. let both : Some index ≡ Some dest = sym told ∙ ap (option_and_then dest_in) asked ∙ is in cc)
