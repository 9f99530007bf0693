use Rattle.cancel_core.proofs.Nodes.{seen-opened}
use Rattle.cancel_core.proofs.entry.Entry.new.Goals as goal

pub returns : goal.returns
returns c = seen-opened c.args.cancel c.args.asked c.new.result.items c.new.ensures.items
