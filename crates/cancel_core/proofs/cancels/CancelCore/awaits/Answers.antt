use Rattle.std.proofs.Common.{◌↔◌, Contains, IsTrue, arith, sym, subst}
use Rattle.cancel_core.specs.Cancellation.{Cancellation}
use Rattle.cancel_core.proofs.Entries.{found, missing}
use Rattle.cancel_core.proofs.cancels.CancelCore.awaits.Goals as goal

pub returns-in-Some : goal.returns-in-Some
returns-in-Some c =
    subst (λ (v : Cancellation). IsTrue c.awaits.result ↔ Contains v.awaited c.args.from) (found c.args.self.now c.args.task c.in-Some.entry.now c.in-Some.ensures) c.awaits.ensures

pub returns-in-None : goal.returns-in-None
returns-in-None c = (
  (λ other. absurd (cc)),
  (λ within. let nowhere = subst (λ (v : Cancellation). Contains v.awaited c.args.from) (sym (missing c.args.self.now c.args.task c.in-None.ensures)) within in absurd (omega (arith, nowhere.1))),
)
