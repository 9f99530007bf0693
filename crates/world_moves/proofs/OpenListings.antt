-- Listings by their node and task.
use Rattle.std.proofs.Common.{◌≡◌, ◌==◌, ℕ, refl, arith}
use Rattle.std.specs.Prelude.{◌&&◌}
use Rattle.std.specs.BTreeMap.{is_at}
use Rattle.std.specs.Ordering.{is_eq, nat_cmp, ordering_then}
use Rattle.std.specs.declared.cmp.Ordering.{Ordering}
use Rattle.std.specs.declared.cmp.Ordering.TheVariants.{Less, Equal, Greater}
use Rattle.std.proofs.lemmas.Bool.Decides.{nat_tests}
use Rattle.task_ids.specs.TaskIdOrder.{task_id_cmp}
use Rattle.task_events.specs.Same.{same_pair}
use Rattle.task_laws.proofs.Same.{same_tests}
use Rattle.node_parts.specs.declared.listing.Listing.{Listing}
use Rattle.world_moves.specs.Listings.{listing_cmp}
use Rattle.world_moves.proofs.KeptTasks.{is_at_task}

eq_then : (o p : Ordering) → is_eq (ordering_then o p) ≡ (is_eq o && is_eq p)
eq_then Less p = refl
eq_then Equal p = refl
eq_then Greater p = refl

eq_numbers : (n m : ℕ) → is_eq (nat_cmp n m) ≡ (n == m)
eq_numbers n m = grind (arith, nat_tests)

-- the order of listings tells them apart
pub is_at_listing : (a l : Listing) → is_at (listing_cmp a) l ≡ same_pair l.parent l.node a.parent a.node
is_at_listing a l =
    let both = eq_then (nat_cmp a.node l.node) (task_id_cmp a.parent l.parent) in
    let node = eq_numbers a.node l.node in
    let parent = is_at_task a.parent l.parent in
    grind (arith, same_tests)
