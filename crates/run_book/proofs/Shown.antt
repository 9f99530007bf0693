-- The rows that a list shows ascend, and none of them begins after its moment.
use Rattle.std.proofs.Common.{◌≡◌, ◌⊎◌, inl, inr, ℕ, ◌+◌, ◌-◌, ◌<◌, ◌≤◌, true, false, List, [], ◌∷◌, ◌++◌, length, Some, refl, sym, ap, subst, ◌∙◌, arith, length-append}
use Rattle.std.specs.Prelude.{slice_get, nat_le}
use Rattle.std.specs.declared.cmp.Ordering.{Ordering}
use Rattle.std.specs.declared.cmp.Ordering.TheVariants.{Less, Equal, Greater}
use Rattle.std.specs.Ordering.{is_lt}
use Rattle.std.proofs.lemmas.Bool.{and_parts, cases_Bool, cases_lt}
use Rattle.std.proofs.lemmas.Bool.Decides.{nat_tests}
use Rattle.std.proofs.lemmas.List.Elements.{All-nil, All-push}
use Rattle.std.proofs.lemmas.Option.{slice_get_within}
use Rattle.task_ids.specs.TaskIdOrder.{task_id_cmp}
use Rattle.task_ids.specs.declared.task_info.TaskInfo.{TaskInfo}
use Rattle.run_book.specs.Listing.{Ascend, Shows, goes_on, is_after, last_id, listed, with_row, with_rows}
use Rattle.run_book.proofs.Places.{at_end, before_end}

is_less : (o : Ordering) → is_lt o ≡ true → o ≡ Less
is_less Less e = refl
is_less Equal e = absurd (cc)
is_less Greater e = absurd (cc)

has_come : (a b : ℕ) → nat_le a b ≡ true → a ≤ b
has_come a b e = grind (arith, nat_tests)

-- the last row and one that goes on with it
seam : (all : List TaskInfo) (row a : TaskInfo) → slice_get all (length all - 1) ≡ Some a → is_after (last_id all) row.id ≡ true → task_id_cmp a.id row.id ≡ Less
seam all row a there after =
    let last : last_id all ≡ Some a.id = rw there refl in
    let test : is_lt (task_id_cmp a.id row.id) ≡ true = rw last at after in
    is_less (task_id_cmp a.id row.id) test

module _ (now : ℕ) where
  ascends : (all : List TaskInfo) (row : TaskInfo) → Shows all now → is_after (last_id all) row.id ≡ true → Ascend (all ++ row ∷ [])
  ascends all row shows after = λ i a b at_a at_b.
      let inside : i + 1 < length all + 1 = subst (λ (n : ℕ). i + 1 < n) (length-append all (row ∷ [])) (slice_get_within (all ++ row ∷ []) (i + 1) b at_b) in
      let at_a_before : slice_get all i ≡ Some a = sym (before_end all row i (omega (arith, inside))) ∙ at_a in
      by_place i a b at_a_before at_b inside (cases_lt (i + 1) (length all))
    where
      by_place : (i : ℕ) (a b : TaskInfo) → slice_get all i ≡ Some a → slice_get (all ++ row ∷ []) (i + 1) ≡ Some b → i + 1 < length all + 1 → (i + 1 < length all) ⊎ (length all ≤ i + 1) → task_id_cmp a.id b.id ≡ Less
      by_place i a b at_a at_b inside (inl low) = shows.ascend i a b at_a (sym (before_end all row (i + 1) low) ∙ at_b)
      by_place i a b at_a at_b inside (inr high) =
          let same : length all ≡ i + 1 = omega (arith, inside, high) in
          let last : length all - 1 ≡ i = omega (arith, same) in
          let at_last : slice_get all (length all - 1) ≡ Some a = rw last at_a in
          let end : Some row ≡ Some b = sym (at_end all row) ∙ ap (slice_get (all ++ row ∷ [])) same ∙ at_b in
          let is : row ≡ b = cc in
          subst (λ (r : TaskInfo). task_id_cmp a.id r.id ≡ Less) is (seam all row a at_last after)

  one_more : (all : List TaskInfo) (row : TaskInfo) → Shows all now → Shows (with_row now all row) now
  one_more all row shows = by_test (cases_Bool (goes_on (last_id all) now row))
    where
      by_test : (goes_on (last_id all) now row ≡ true) ⊎ (goes_on (last_id all) now row ≡ false) → Shows (with_row now all row) now
      by_test (inl holds) =
          let parts = and_parts _ _ holds in
          rw holds (record { ascend = ascends all row shows parts.1; began = All-push (λ (r : TaskInfo). r.start_ms ≤ now) all row shows.began (has_come row.start_ms now parts.0) })
      by_test (inr fails) = rw fails shows

  more : (rows all : List TaskInfo) → Shows all now → Shows (with_rows now all rows) now
  more [] all shows = shows
  more (row ∷ rows) all shows = more rows (with_row now all row) (one_more all row shows)

  pub listed_shows : (rows : List TaskInfo) → Shows (listed now rows) now
  listed_shows rows = more rows [] (record { ascend = λ i a b at_a at_b. absurd (cc); began = All-nil (λ (r : TaskInfo). r.start_ms ≤ now) })
