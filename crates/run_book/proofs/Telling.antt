-- The parts that the nodes of a cluster tell.
use Rattle.std.proofs.Common.{◌≡◌, ℕ, zero, suc, ◌+◌, List, set, Option, None, Some, true, arith}
use Rattle.std.specs.Prelude.{slice_get, is_some}
use Rattle.run_book.specs.Told.{with_part}
use Rattle.run_book.proofs.Places.{same_set}

-- a part that is there stays
pub stays : {X : Type 0} (parts : List (Option (List X))) (node place : ℕ) (part : List X) (slot : Option (List X)) → node ≡ place + 1 → slice_get parts place ≡ Some slot → is_some slot ≡ true → set parts place slot ≡ with_part parts node part
stays parts zero place part slot e there is = absurd (omega (arith, e))
stays parts (suc n) place part None e there is = absurd (cc)
stays parts (suc n) place part (Some earlier) e there is =
    let same : n ≡ place = omega (arith, e) in
    rw same (rw there (same_set parts place (Some earlier) there))
