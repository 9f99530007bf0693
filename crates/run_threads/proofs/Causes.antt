-- Causes, one after the other.
use Rattle.std.proofs.Common.{◌≡◌, None, Some, refl, arith}
use Rattle.std.specs.Prelude.{Option}
use Rattle.task_events.specs.declared.stop.Stop.{Stop}
use Rattle.run_threads.specs.Causes.{IsNoLater}

pub no_later : (met : Option Stop) → IsNoLater met met
no_later None = tt
no_later (Some stop) = omega arith

pub later_on : (a b c : Option Stop) → IsNoLater a b → IsNoLater b c → IsNoLater a c
later_on None b c p q = tt
later_on (Some x) None c p q = absurd p
later_on (Some x) (Some y) None p q = absurd q
later_on (Some x) (Some y) (Some z) p q = omega arith

-- where none is told, none was met
pub none_met : (met told : Option Stop) → IsNoLater met told → told ≡ None → met ≡ None
none_met None told p none = refl
none_met (Some x) None p none = absurd p
none_met (Some x) (Some y) p none = absurd (cc)
