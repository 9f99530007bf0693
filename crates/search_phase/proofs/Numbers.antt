-- The number that is told of a place is that of the row there.
use Rattle.std.specs.Prelude.{◌≡◌, ℕ, ℤ, List, [], ◌∷◌, Option, Some, None, IfSome, slice_get}
use Rattle.std.specs.List.{AllByRecursion}
use Rattle.std.proofs.Common.{sym, subst}
use Rattle.task_ids.proofs.Each.{all_here}
use Rattle.task_ids.specs.declared.doc.Doc.{Doc}
use Rattle.task_ids.specs.Rows.{row_at}
use Rattle.query_match.specs.declared.sort.SortBy.{SortBy}
use Rattle.shard_docs.specs.declared.numbers.NumberAt.{NumberAt}
use Rattle.shard_docs.specs.Numbers.{HasNumber, IsNumberAt}
use Rattle.search_phase.specs.LookedAt.{IsFirstNumber}

pub number_of_row : (sort : List SortBy) (version place : ℕ) (writes : List Doc) (numbers : List NumberAt) (number : Option ℤ) (doc : Doc)
    → IfSome (slice_get sort 0) (λ by. AllByRecursion (IsNumberAt by.field version writes) numbers)
    → IfSome number (λ n. (i : ℕ) × (slice_get numbers i ≡ Some (record { place = place; number = n })))
    → Some doc ≡ row_at version place writes
    → IsFirstNumber sort doc number
number_of_row sort version place writes numbers None doc are at there = tt
number_of_row [] version place writes numbers (Some n) doc are at there = tt
number_of_row (by ∷ rest) version place writes numbers (Some n) doc are at there =
    subst (λ row. IfSome row (HasNumber by.field n)) (sym there) (all_here (IsNumberAt by.field version writes) numbers at.0 (record { place = place; number = n }) are at.1)
