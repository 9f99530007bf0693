-- A moment of the tree is not due where its first node is not.
use Rattle.std.proofs.Common.{◌≡◌, ℕ, zero, suc, ◌+◌, ◌*◌, ◌/◌, ◌<◌, ◌≤◌, List, Option, false, ◌⊎◌, inl, inr, sym, subst, arith, ◌∙◌}
use Rattle.std.proofs.lemmas.Bool.{cases_eq, or_parts}
use Rattle.scroll_table.specs.Moments.{is_due, node_at, moment_at, IsAbove, IsTree}
use Rattle.scroll_table.specs.declared.moments.Moments.{Moments}

halves : (i : ℕ) → (i ≡ 2 * (i / 2)) ⊎ (i ≡ 2 * (i / 2) → ⊥) → (i ≡ 2 * (i / 2)) ⊎ (i ≡ 2 * (i / 2) + 1)
halves i (inl e) = inl e
halves i (inr n) = inr (omega arith)

below : (now h i : ℕ) (nodes : List (Option ℕ)) → IsAbove nodes h → is_due now (node_at nodes h) ≡ false → (i ≡ 2 * h) ⊎ (i ≡ 2 * h + 1) → is_due now (node_at nodes i) ≡ false
below now h i nodes above quiet (inl e) = subst (λ k. is_due now (node_at nodes k) ≡ false) (sym e) (or_parts _ _ (sym (above now) ∙ quiet)).0
below now h i nodes above quiet (inr e) = subst (λ k. is_due now (node_at nodes k) ≡ false) (sym e) (or_parts _ _ (sym (above now) ∙ quiet)).1

module _ (now : ℕ) (a : Moments) (tree : IsTree a) (first : is_due now (node_at a.nodes.items 1) ≡ false) where
  abbrev Quiet : ℕ → Type 0
  Quiet bound = (i : ℕ) → i ≤ bound → 1 ≤ i → i < 2 * a.places → is_due now (node_at a.nodes.items i) ≡ false

  one_more : (bound : ℕ) → Quiet bound → (i : ℕ) → i ≤ suc bound → 1 ≤ i → i < 2 * a.places → (i ≡ 1) ⊎ (i ≡ 1 → ⊥) → is_due now (node_at a.nodes.items i) ≡ false
  one_more bound quiet i le from within (inl e) = subst (λ k. is_due now (node_at a.nodes.items k) ≡ false) (sym e) first
  one_more bound quiet i le from within (inr n) =
      below now (i / 2) i a.nodes.items (tree.above (i / 2) (omega arith) (omega arith)) (quiet (i / 2) (omega arith) (omega arith) (omega arith)) (halves i (cases_eq i (2 * (i / 2))))

  up_to : (bound : ℕ) → Quiet bound
  up_to zero i le from within = absurd (omega arith)
  up_to (suc bound) i le from within = one_more bound (up_to bound) i le from within (cases_eq i 1)

pub none_due : (now : ℕ) (a : Moments) → IsTree a → is_due now (node_at a.nodes.items 1) ≡ false → (place : ℕ) → place < a.places → is_due now (moment_at a place) ≡ false
none_due now a tree first place within = up_to now a tree first (a.places + place) (a.places + place) (omega arith) (omega arith) (omega arith)
