use Rattle.std.proofs.Common.{ℕ, ◌<◌, List, [], ◌∷◌, ◌++◌, All, sym, ap, subst, arith, ◌∙◌}
use Rattle.std.proofs.lemmas.List.Elements.{All-cons, All-nil}
use Rattle.task_results.specs.Results.{Results, waiting_for}
use Rattle.task_results.proofs.Waiting.{waiting_then}
use Rattle.table_tests.proofs.results.two_wait.Goals as goal

pub wait-requires : goal.wait-requires
wait-requires c = subst (λ (ys : List ℕ). All (λ k. k < 5) ys) (sym c.requires) (All-nil (λ k. k < 5))

pub wait-requires-2 : goal.wait-requires-2
wait-requires-2 c =
    let old = c.args.table.now.waiting in
    let there = ap (λ (r : Results). waiting_for c.args.id r.waiting) c.in_ok-wait.ensures.ok
    ∙ waiting_then old c.args.id (waiting_for c.args.id old ++ 5 ∷ [])
    ∙ ap (λ (ys : List ℕ). ys ++ 5 ∷ []) c.requires in
    subst (λ (ys : List ℕ). All (λ k. k < 7) ys) (sym there) (All-cons (λ k. k < 7) 5 [] (omega arith) (All-nil (λ k. k < 7)))
