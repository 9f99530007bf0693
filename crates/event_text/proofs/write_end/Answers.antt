use Rattle.std.proofs.Common.{rules}
use Rattle.event_text.proofs.write_end.Goals as goal

pub returns-in-Cancelled : goal.returns-in-Cancelled
returns-in-Cancelled c = rw c.in-Cancelled.is (search rules)
