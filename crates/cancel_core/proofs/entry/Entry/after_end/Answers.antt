use Rattle.std.proofs.Common.{◌≡◌, subst}
use Rattle.cancel_core.specs.Cancellation.{Cancellation, with_receipt}
use Rattle.cancel_core.specs.Stage.{seen}
use Rattle.cancel_core.proofs.entry.Entry.after_end.Goals as goal

pub returns : goal.returns
returns c = subst (λ (v : Cancellation). seen c.after_end.result v.waiters ≡ with_receipt v c.args.receipt) c.self.view_is (c.after_end.ensures c.self.inside.waiters.items)
