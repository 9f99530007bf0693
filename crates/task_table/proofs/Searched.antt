-- What a binary search by number finds among rows that ascend.
use Rattle.std.proofs.Common.{◌≡◌, ◌≢◌, ℕ, ◌<◌, ◌≤◌, cond, Bool, true, false, refl, nat_lt, ◌==◌, List, length, get_or, Result, Ok, Err, arith, inl, inr, IfSome, IfNone, All, HoldsAt}
use Rattle.std.specs.Ordering.{nat_cmp, ordering_index}
use Rattle.std.specs.declared.cmp.Ordering.TheVariants.{Less, Equal, Greater}
use Rattle.std.specs.List.Sorted.{IsBinarySearchResult, IsSearchInRange, IsNonDecreasingBy}
use Rattle.std.specs.Result.{result_ok}
use Rattle.std.proofs.lemmas.Bool.{cases_eq, cases_lt}
use Rattle.std.proofs.lemmas.Bool.Decides.{nat_tests}
use Rattle.task_ids.specs.declared.task_info.TaskInfo.{TaskInfo}
use Rattle.task_table.specs.Rows.{IsAscending}

-- what a comparison with x tells
less_tells : (a x : ℕ) → nat_cmp a x ≡ Less → a < x
less_tells a x e = grind (arith, nat_tests)

equal_tells : (a x : ℕ) → nat_cmp a x ≡ Equal → a ≡ x
equal_tells a x e = grind (arith, nat_tests)

greater_tells : (a x : ℕ) → nat_cmp a x ≡ Greater → x < a
greater_tells a x e = grind (arith, nat_tests)

ordering_index-cond : (less same : Bool) → ordering_index (cond less Less (cond same Equal Greater)) ≡ cond less 0 (cond same 1 2)
ordering_index-cond true same = refl
ordering_index-cond false true = refl
ordering_index-cond false false = refl

ordering_index-rises : (a b x : ℕ) → a ≤ b → ordering_index (nat_cmp a x) ≤ ordering_index (nat_cmp b x)
ordering_index-rises a b x up =
    let at_a = ordering_index-cond (nat_lt a x) (a == x) in
    let at_b = ordering_index-cond (nat_lt b x) (b == x) in
    grind (arith, nat_tests)

searchable : (rows : List TaskInfo) (number : ℕ) → IsAscending rows → IsNonDecreasingBy (λ row. ordering_index (nat_cmp row.id.number number)) rows
searchable rows number ascending i j d up within =
    elim (cases_eq i j) [
      | inl same ↦ rw same (omega arith)
      | inr other ↦ (let rises : (get_or rows i d).id.number < (get_or rows j d).id.number = ascending i j d (omega arith) within in
          ordering_index-rises (get_or rows i d).id.number (get_or rows j d).id.number number (omega arith))
    ]

pub searched : (rows : List TaskInfo) (number : ℕ) (found : Result ℕ ℕ) → IsAscending rows → IsSearchInRange found (length rows) → IsBinarySearchResult (λ row. nat_cmp row.id.number number) rows found
    → IfSome (result_ok found) (λ place. (place < length rows) × HoldsAt (λ row. row.id.number ≡ number) rows place) × IfNone (result_ok found) (All (λ row. row.id.number ≢ number) rows)
searched rows number (Ok place) ascending within at = ((within, λ d. equal_tells _ _ (at d)), tt)
searched rows number (Err place) ascending within at =
    let parts = at (searchable rows number ascending) in (
      tt,
      λ k d inside same. elim (cases_lt k place) [
        | inl below ↦ (let less : (get_or rows k d).id.number < number = less_tells _ _ (parts.0 k d (omega arith) below) in omega (arith, less, same))
        | inr above ↦ (let greater : number < (get_or rows k d).id.number = greater_tells _ _ (parts.1 k d above inside) in omega (arith, greater, same))
      ],
    )
