-- What an answer that a task which writes can have adds to what was counted.
use Rattle.std.proofs.Common.{◌≡◌, ℕ, ◌<◌, ◌≤◌, true, arith}
use Rattle.std.proofs.lemmas.Bool.{and_parts, and_from, ltb-true, lt-ltb}
use Rattle.task_events.specs.declared.reply.Counts.{Counts}
use Rattle.task_events.specs.declared.reply.Reply.{Reply}
use Rattle.task_events.specs.declared.reply.Reply.TheVariants.{Search, Top, Hits, AllFailed, Wrote, Cancelled, Rejected}
use Rattle.task_events.specs.Counting.{are_below, carried, failures_of}
use Rattle.reindex.specs.Answers.{writer_can_have}
use Rattle.reindex.specs.Counts.{AreBelow}

pub below_each : (limit : ℕ) (counts : Counts) → are_below limit counts ≡ true → AreBelow limit counts
below_each limit counts below =
    let five = and_parts _ _ below in
    let four = and_parts _ _ five.0 in
    let three = and_parts _ _ four.0 in
    let two = and_parts _ _ three.0 in
    record {
      total = ltb-true _ _ two.0;
      created = ltb-true _ _ two.1;
      updated = ltb-true _ _ three.1;
      batches = ltb-true _ _ four.1;
      failures = ltb-true _ _ five.1;
    }

pub below_all : (limit : ℕ) (counts : Counts) → AreBelow limit counts → are_below limit counts ≡ true
below_all limit counts below =
    and_from _ _ (and_from _ _ (and_from _ _ (and_from _ _ (lt-ltb _ _ below.total) (lt-ltb _ _ below.created)) (lt-ltb _ _ below.updated)) (lt-ltb _ _ below.batches))
    (lt-ltb _ _ below.failures)

-- it carries counts below the limit, and tells one failure more at most
pub record IsLow (limit : ℕ) (reply : Reply) : Type 0 where
  pub carries : AreBelow limit (carried reply)
  pub tells : failures_of reply ≤ limit

pub told_low : (limit : ℕ) (reply : Reply) → 0 < limit → writer_can_have limit reply ≡ true → IsLow limit reply
told_low limit (Wrote counts) some can = let below = below_each limit counts can in record { carries = below; tells = omega (arith, below.failures) }
told_low limit (Cancelled task cancel counts) some can = let below = below_each limit counts can in record { carries = below; tells = omega (arith, below.failures) }
told_low limit (Rejected node) some can = record {
  carries = record { total = some; created = some; updated = some; batches = some; failures = some };
  tells = omega arith;
}
told_low limit (Search page) some can = absurd cc
told_low limit (Top top) some can = absurd cc
told_low limit (Hits hits) some can = absurd cc
told_low limit (AllFailed failed) some can = absurd cc
