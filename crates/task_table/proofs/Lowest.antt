-- The first unmarked child among rows that ascend has the lowest number.
use Rattle.std.proofs.Common.{◌≡◌, ℕ, ◌≤◌, ◌<◌, List, length, get_or, All, arith, inl, inr, sym, ◌∙◌, ap}
use Rattle.std.proofs.lemmas.Bool.{cases_order}
use Rattle.std.proofs.lemmas.List.{get_or_default}
use Rattle.task_ids.specs.declared.task_id.TaskId.{TaskId}
use Rattle.task_ids.specs.declared.task_info.TaskInfo.{TaskInfo}
use Rattle.task_table.specs.Rows.{IsAscending, IsUnmarkedChild}

pub lowest_from_first : (rows : List TaskInfo) (parent : TaskId) (place : ℕ) (row : TaskInfo) → IsAscending rows → place < length rows → row ≡ get_or rows place row
    → ((k : ℕ) (d : TaskInfo) → k < place → IsUnmarkedChild parent (get_or rows k d) → ⊥)
    → All (λ other. IsUnmarkedChild parent other → row.id.number ≤ other.id.number) rows
lowest_from_first rows parent place row up within read first k d inside child =
    elim (cases_order k place) [
      | inl same ↦ (let read_k : get_or rows k d ≡ get_or rows place row = ap (λ j. get_or rows j d) same ∙ get_or_default rows place d row within in
          rw (read_k, ← read) (omega arith))
      | inr (inl before) ↦ absurd (first k d before child)
      | inr (inr behind) ↦ (let below : (get_or rows place d).id.number < (get_or rows k d).id.number = up place k d behind inside in
          let read_place : get_or rows place d ≡ row = get_or_default rows place d row within ∙ sym read in
          let number : (get_or rows place d).id.number ≡ row.id.number = ap (λ r. r.id.number) read_place in
          omega (arith, below, number))
    ]
