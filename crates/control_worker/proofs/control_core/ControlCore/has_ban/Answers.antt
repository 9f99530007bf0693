-- The board has no ban where the tree has no entry.
use Rattle.std.proofs.Common.{not, ap}
use Rattle.std.proofs.lemmas.Bool.{not-false}
use Rattle.control_worker.proofs.Parents.{no_parent, no_entries}
use Rattle.control_worker.proofs.control_core.ControlCore.has_ban.Goals as goal

pub returns : goal.returns
returns c =
    let bans = c.args.self.now.bans.entries in
    ((λ none parent. no_parent bans parent (c.is_empty.ensures.0 (not-false c.is_empty.result none))), (λ none. ap not (c.is_empty.ensures.1 (no_entries bans none))))
