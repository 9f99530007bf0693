-- Nothing is gathered where the tree has no entry.
use Rattle.control_worker.proofs.Gathering.{no_number, no_entries}
use Rattle.control_worker.proofs.control_core.ControlCore.misses_nothing.Goals as goal

pub returns : goal.returns
returns c =
    let gathers = c.args.self.now.gathers.entries in
    ((λ none cancel. no_number gathers cancel (c.is_empty.ensures.0 none)), (λ none. c.is_empty.ensures.1 (no_entries gathers none)))
