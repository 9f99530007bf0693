use Rattle.std.proofs.Common.{sym}
use Rattle.scroll_table.proofs.Versioned.{version_gone}
use Rattle.point_in_time.proofs.table.take_out.Goals as goal

pub returns-in-Some-clause-versions : goal.returns-in-Some-clause-versions
returns-in-Some-clause-versions c = version_gone c.args.versions.now c.args.contexts.now c.remove.new.self c.args.id.now c.requires c.remove-in-Some.new.self c.in-Some.context (sym c.in-Some.ensures.value) c.in-Some.ensures.updates.0 c.remove-in-Some.ensures
