-- Whether a text spells a task id: looked for among all ids, of which at most one has this text.
use Rattle.std.specs.Prelude.{◌≡◌, ◌≢◌, ◌⊎◌, ℕ, zero, suc, ◌≤◌, Bool, true, false, List, refl}
use Rattle.std.specs.Bool.{Decides}
use Rattle.std.specs.Str.{bytes_eq}
use Rattle.std.proofs.Common.{inl, inr, arith, ap, ◌∙◌}
use Rattle.std.proofs.lemmas.Bool.{cases_eq}
use Rattle.std.proofs.lemmas.Slice.Eq.{bytes_eq-Decides}
use Rattle.task_ids.specs.Limits.{IsNode}
use Rattle.task_ids.specs.TaskId.{task_id_text}
use Rattle.task_ids.specs.TaskIdOrder.{same_id}
use Rattle.task_ids.specs.declared.task_id.TaskId.{TaskId}

-- an id that a text spells, or that it spells none among some
abbrev SpellsAmong : (TaskId → Type 0) → List ℕ → Type 0
SpellsAmong Is text = ((t : TaskId) × (text ≡ task_id_text t)) ⊎ ((t : TaskId) → Is t → text ≢ task_id_text t)

-- one more id is looked at
with_id : (Old New : TaskId → Type 0) (text : List ℕ) (id : TaskId) → ((t : TaskId) → New t → Old t ⊎ (t ≡ id)) → (b : Bool) → Decides b (text ≡ task_id_text id) → SpellsAmong Old text → SpellsAmong New text
with_id Old New text id split true here before = inl (id, here.0 refl)
with_id Old New text id split false here (inl found) = inl found
with_id Old New text id split false here (inr none) = inr (λ t new spells. elim (split t new) [
  | inl old ↦ none t old spells
  | inr same ↦ let wrong : false ≡ true = here.1 (spells ∙ ap task_id_text same) in absurd (cc)
])

-- the ids of a node, up to a number
of_node : (text : List ℕ) (node : ℕ) → IsNode node → (most : ℕ) → most ≤ 1048575 → SpellsAmong (λ t. (t.node ≡ node) × (t.number ≤ most)) text
of_node text node is zero small = inr (λ t low spells. omega (arith, t.number_in_range, low.1))
of_node text node is (suc most) small =
    let id : TaskId = record { node = node; number = suc most; node_in_range = is; number_in_range = (omega arith, small) } in
    with_id (λ t. (t.node ≡ node) × (t.number ≤ most)) (λ t. (t.node ≡ node) × (t.number ≤ suc most)) text id
    (λ t low. elim (cases_eq t.number (suc most)) [ inl same ↦ inr (same_id t id low.0 same) | inr other ↦ inl (low.0, omega arith) ])
    (bytes_eq text (task_id_text id)) (bytes_eq-Decides text (task_id_text id)) (of_node text node is most (omega arith))

-- the ids of the nodes up to one
of_nodes : (text : List ℕ) (nodes : ℕ) → nodes ≤ 15 → SpellsAmong (λ t. t.node ≤ nodes) text
of_nodes text zero small = inr (λ t low spells. omega (arith, t.node_in_range, low))
of_nodes text (suc nodes) small = with_node (of_node text (suc nodes) (omega arith, small) 1048575 (omega arith)) (of_nodes text nodes (omega arith))
  where
    with_node : SpellsAmong (λ t. (t.node ≡ suc nodes) × (t.number ≤ 1048575)) text → SpellsAmong (λ t. t.node ≤ nodes) text → SpellsAmong (λ t. t.node ≤ suc nodes) text
    with_node (inl found) before = inl found
    with_node (inr none) (inl found) = inl found
    with_node (inr none) (inr none_before) = inr (λ t low spells. elim (cases_eq t.node (suc nodes)) [ inl same ↦ none t (same, t.number_in_range.1) spells | inr other ↦ none_before t (omega arith) spells ])

-- an id that a text spells, or that it spells none
pub spelled : (text : List ℕ) → ((t : TaskId) × (text ≡ task_id_text t)) ⊎ ((t : TaskId) → text ≢ task_id_text t)
spelled text = elim (of_nodes text 15 (omega arith)) [ inl found ↦ inl found | inr none ↦ inr (λ t. none t (t.node_in_range.1)) ]
