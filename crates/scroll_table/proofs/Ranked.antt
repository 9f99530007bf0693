-- The order of ids is that of their ranks, and pairs are ordered by owner first.
use Rattle.std.proofs.Common.{◌≡◌, ℕ, ◌+◌, ◌*◌, ◌^◌, ◌<◌, ◌≤◌, ◌&&◌, Bool, true, false, refl, sym, ap, arith, ◌∙◌, rules, Option, Some}
use Rattle.std.specs.Prelude.{◌==◌, IsTrue}
use Rattle.std.specs.BTreeMap.{is_at}
use Rattle.std.proofs.lemmas.Bool.Decides.{nat_tests}
use Rattle.std.specs.Ordering.{nat_cmp, ordering_then, is_gt, MatchOrdering}
use Rattle.std.specs.declared.cmp.Ordering.{Ordering}
use Rattle.std.specs.declared.cmp.Ordering.TheVariants.{Less, Equal, Greater}
use Rattle.std.specs.Cmp.{nat_cmp_is, tied_then}
use Rattle.std.proofs.lemmas.Cmp.{ranked}
use Rattle.task_ids.specs.declared.task_id.TaskId.{TaskId}
use Rattle.task_ids.specs.TaskIdOrder.{task_id_cmp}
use Rattle.task_ids.proofs.SameId.{same_id}
use Rattle.scroll_table.specs.declared.owners.Owned.{Owned}
use Rattle.scroll_table.specs.Owners.{owned_cmp, is_pair, rank}

-- numbers below 2^20 in the second place
in_two : (x y u v : ℕ) → u < 2 ^ 20 → v < 2 ^ 20 → ordering_then (nat_cmp x y) (nat_cmp u v) ≡ nat_cmp (x * 2 ^ 20 + u) (y * 2 ^ 20 + v)
in_two x y u v low high = nat_cmp_is (x * 2 ^ 20 + u) (y * 2 ^ 20 + v) (ordering_then (nat_cmp x y) (nat_cmp u v)) (first (nat_cmp x y) (ranked x y (nat_cmp x y) refl) (nat_cmp u v) (ranked u v (nat_cmp u v) refl))
  where
    first : (r : Ordering) → MatchOrdering r (x < y) (x ≡ y) (y < x) → (s : Ordering) → MatchOrdering s (u < v) (u ≡ v) (v < u)
        → MatchOrdering (ordering_then r s) (x * 2 ^ 20 + u < y * 2 ^ 20 + v) (x * 2 ^ 20 + u ≡ y * 2 ^ 20 + v) (y * 2 ^ 20 + v < x * 2 ^ 20 + u)
    first Less h s k = omega arith
    first Greater h s k = omega arith
    first Equal h Less k = omega arith
    first Equal h Equal k = omega arith
    first Equal h Greater k = omega arith

pub by_rank : (a b : TaskId) → task_id_cmp a b ≡ nat_cmp (rank a) (rank b)
by_rank a b = in_two a.node b.node a.number b.number (omega arith) (omega arith)

-- ids of one rank are one
pub same_rank : (a b : TaskId) → rank a ≡ rank b → a ≡ b
same_rank a b e = same_id a b (omega arith) (omega arith)

-- ---- pairs

up_to : (x y : ℕ) → is_gt (nat_cmp x y) ≡ false → x ≤ y
up_to x y e = by_case (nat_cmp x y) (ranked x y (nat_cmp x y) refl) e
  where
    by_case : (r : Ordering) → MatchOrdering r (x < y) (x ≡ y) (y < x) → is_gt r ≡ false → x ≤ y
    by_case Less h e = omega arith
    by_case Equal h e = omega arith
    by_case Greater h e = absurd (cc)

pub not_above : (x y : ℕ) → x ≤ y → is_gt (nat_cmp x y) ≡ false
not_above x y le = by_case (nat_cmp x y) (ranked x y (nat_cmp x y) refl)
  where
    by_case : (r : Ordering) → MatchOrdering r (x < y) (x ≡ y) (y < x) → is_gt r ≡ false
    by_case Less h = refl
    by_case Equal h = refl
    by_case Greater h = absurd (omega arith)

-- two pairs, the first of which does not stand after the second
pub not_after : (a b : Owned) → is_gt (owned_cmp a b) ≡ false → (rank a.owner ≤ rank b.owner) × (rank b.owner ≤ rank a.owner → rank a.id ≤ rank b.id)
not_after a b e = by_case (nat_cmp (rank a.owner) (rank b.owner)) (ranked (rank a.owner) (rank b.owner) (nat_cmp (rank a.owner) (rank b.owner)) refl)
    (rw (by_rank a.owner b.owner, by_rank a.id b.id) at e)
  where
    by_case : (r : Ordering) → MatchOrdering r (rank a.owner < rank b.owner) (rank a.owner ≡ rank b.owner) (rank b.owner < rank a.owner) → is_gt (ordering_then r (nat_cmp (rank a.id) (rank b.id))) ≡ false
        → (rank a.owner ≤ rank b.owner) × (rank b.owner ≤ rank a.owner → rank a.id ≤ rank b.id)
    by_case Less h e = (omega arith, λ back. absurd (omega arith))
    by_case Equal h e = (omega arith, λ back. up_to (rank a.id) (rank b.id) e)
    by_case Greater h e = absurd (cc)

-- ---- tests

pub same_test : (a b : TaskId) → a ≡ b → (a.node == b.node) && (a.number == b.number) ≡ true
same_test a b e =
    let nodes : a.node ≡ b.node = ap (λ t. t.node) e in
    let numbers : a.number ≡ b.number = ap (λ t. t.number) e in
    let node_test : (a.node == b.node) ≡ true = grind (arith, nat_tests) in
    let number_test : (a.number == b.number) ≡ true = grind (arith, nat_tests) in
    rw (node_test, number_test) refl

pub not_so : (b : Bool) → (IsTrue b → ⊥) → b ≡ false
not_so true never = absurd (never (search rules))
not_so false never = refl

-- the pair that was added or removed, as a test
pub pair_at : (by : Option TaskId) (owner id o q : TaskId) → by ≡ Some owner → is_at (owned_cmp (record { owner = owner; id = id })) (record { owner = o; id = q }) ≡ is_pair by id o q
pair_at by owner id o q e = sym (ap (λ b. is_pair b id o q) e ∙ tied_then (task_id_cmp owner o) (task_id_cmp id q))
