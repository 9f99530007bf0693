-- What is not a node has no unanswered ask.
use Rattle.std.proofs.Common.{◌≡◌, ℕ, ◌+◌, ◌∷◌, [], List, Option, None, Some, ◌∙◌, false, cond, count_by, All, IfSome, arith, refl, subst}
use Rattle.std.proofs.lemmas.List.Sums.{sum_by-cons}
use Rattle.std.proofs.lemmas.Bool.{ne_eqb}
use Rattle.task_ids.specs.Limits.{IsNode}
use Rattle.child_track.specs.Track.{is_at}

all_nodes-tail : (ask : Option ℕ) (asks : List (Option ℕ)) → All (λ a. IfSome a IsNode) (ask ∷ asks) → All (λ a. IfSome a IsNode) asks
all_nodes-tail ask asks h k d within = let at = h (k + 1) d in search (arith, at)

is_at_none : (ask : Option ℕ) (n : ℕ) → IfSome ask IsNode → (IsNode n → ⊥) → is_at n ask ≡ false
is_at_none None n node other = refl
is_at_none (Some m) n node other = ne_eqb m n (λ e. other (subst IsNode e node))

pub count_at_none : (asks : List (Option ℕ)) (n : ℕ) → All (λ ask. IfSome ask IsNode) asks → (IsNode n → ⊥) → count_by (is_at n) asks ≡ 0
count_at_none [] n of_nodes other = refl
count_at_none (ask ∷ asks) n of_nodes other =
    let rest = count_at_none asks n (all_nodes-tail ask asks of_nodes) other in
    let first = is_at_none ask n (of_nodes 0 None (omega arith)) other in
    sum_by-cons (λ a. cond (is_at n a) 1 0) ask asks ∙ rw first (omega arith)
