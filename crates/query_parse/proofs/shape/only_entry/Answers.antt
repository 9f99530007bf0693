use Rattle.std.proofs.Common.{arith}
use Rattle.std.proofs.lemmas.Bool.Decides.{nat_tests}
use Rattle.query_parse.proofs.Shapes.{only_entry-other}
use Rattle.query_parse.proofs.shape.only_entry.Goals as goal
use Rattle.query_parse.proofs.shape.only_entry.Goals.{in_default-via-then-members-lt1, in_default-via-else-members-lt1+else-members-lt2}

pub returns-in_default : goal.returns-in_default
returns-in_default c =
    only_entry-other c.args.members.now (λ e. elim c.in_default.branch [ in_default-via-then-members-lt1 w ↦ grind (arith, nat_tests) | in_default-via-else-members-lt1+else-members-lt2 w ↦ grind (arith, nat_tests) ])
