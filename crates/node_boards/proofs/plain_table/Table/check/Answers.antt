-- The ban that was found is the one that is told.
use Rattle.std.proofs.Common.{refl}
use Rattle.node_boards.proofs.plain_table.Table.check.Goals as goal

pub returns-in-Some-clause-checks : goal.returns-in-Some-clause-checks
returns-in-Some-clause-checks g c = (c.in-Some.field-0-0, c.in-Some.ban, rw (← c.self.view_is) (rw c.deref.ensures.value at c.in-Some.ensures), refl)
