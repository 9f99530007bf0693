use Rattle.std.proofs.Common.{length, ap, arith}
use Rattle.reindex.proofs.BatchLemmas.{counts_none}
use Rattle.reindex.proofs.bulk.Bulk.new.Goals as goal

pub invariant_of-result : goal.invariant_of-result
invariant_of-result c = record {
  few = omega (arith, c.in_ok-parts.ensures.few);
  in_order = omega arith;
  asked = omega (arith, ap length c.in_ok-open.ensures.items);
  room = omega (arith, c.in_ok-open.ensures.capacity);
  bounded = rw c.no_counts.ensures (counts_none _);
}
