-- The order of listings.
use Rattle.std.proofs.Common.{◌≡◌, true}
use Rattle.std.specs.Cmp.{IsTotalOrder}
use Rattle.std.specs.Ordering.{nat_cmp, is_le}
use Rattle.std.proofs.lemmas.Cmp.{nat_cmp_total, on_total, then_total}
use Rattle.std.proofs.lemmas.Map.Lookups.{CmpEqualImpliesEq, exact_pairs, exact_unsigned}
use Rattle.task_ids.specs.TaskIdOrder.{task_id_cmp}
use Rattle.task_ids.proofs.OneValue.{one_value}
use Rattle.task_ids.proofs.TaskIdKeys.{exact_ids, ids_total}
use Rattle.node_parts.specs.declared.listing.Listing.{Listing}
use Rattle.world_moves.specs.Listings.{listing_cmp}

-- listings that compare alike are one
pub exact_listings : CmpEqualImpliesEq listing_cmp
exact_listings a b h =
    let same = exact_pairs nat_cmp task_id_cmp exact_unsigned exact_ids (a.node, a.parent) (b.node, b.parent) h in
    λ i. record { node = (same i).0; parent = (same i).1 }

pub listings_total : IsTotalOrder listing_cmp
listings_total = then_total (on_total (λ l. l.node) nat_cmp_total) (on_total (λ l. l.parent) ids_total)

-- listings that are not above each other are one
pub one_listing : (l m : Listing) → is_le (listing_cmp l m) ≡ true → is_le (listing_cmp m l) ≡ true → l ≡ m
one_listing = one_value listing_cmp listings_total exact_listings
