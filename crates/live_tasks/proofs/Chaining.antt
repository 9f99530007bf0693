-- One call more.
use Rattle.std.proofs.Common.{List, [], ◌∷◌, ◌++◌, refl, subst}
use Rattle.node_boards.specs.Calls.{DataCall}
use Rattle.live_tasks.specs.Chains.{Chain}

pub chain_on : {B : Type 0} (rests : B → B → DataCall → Type 0) (from mid to : B) (calls : List DataCall) (call : DataCall) → Chain rests from calls mid → rests mid to call → Chain rests from (calls ++ call ∷ []) to
chain_on rests from mid to [] call e r = (to, subst (λ b. rests b to call) e r, refl)
chain_on rests from mid to (x ∷ calls) call (next, first, chain) r = (next, first, chain_on rests next mid to calls call chain r)
