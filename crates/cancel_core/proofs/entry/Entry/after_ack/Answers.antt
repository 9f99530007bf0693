use Rattle.std.proofs.Common.{◌≡◌, Contains, sym, subst}
use Rattle.cancel_core.specs.Cancellation.{Cancellation, with_ack}
use Rattle.cancel_core.specs.Stage.{seen, is_open_at}
use Rattle.cancel_core.proofs.Nodes.{node_awaited}
use Rattle.cancel_core.proofs.entry.Entry.after_ack.Goals as goal

pub after_ack-requires : goal.after_ack-requires
after_ack-requires c =
    (node_awaited (is_open_at c.self.inside.stage) c.args.from (subst (λ (v : Cancellation). Contains v.awaited c.args.from) (sym c.self.view_is) c.requires)).0

pub returns : goal.returns
returns c = subst (λ (v : Cancellation). seen c.after_ack.result v.waiters ≡ with_ack v c.args.from) c.self.view_is (c.after_ack.ensures c.self.inside.waiters.items)
