-- What holds of the fields of a reindex that is cut into slices, and for which slice it asks next.
use Rattle.std.proofs.Common.{◌≡◌, ℕ, ◌^◌, ◌<◌, true, length, sym, ap, ◌∙◌, Some, arith}
use Rattle.std.specs.Prelude.{Option, option_map}
use Rattle.std.proofs.lemmas.Bool.{and_parts}
use Rattle.task_events.specs.declared.reply.Reply.{Reply}
use Rattle.task_events.specs.declared.reply.Reply.TheVariants.{Wrote}
use Rattle.task_events.specs.declared.request.Request.TheVariants as asks
use Rattle.task_events.specs.declared.request.SliceAsk.{SliceAsk}
use Rattle.task_events.specs.declared.step.Do.TheVariants.{AskNext}
use Rattle.task_events.specs.Counting.{are_below, carried, failures_of}
use Rattle.task_events.specs.SearchTask.{ask_or_end}
use Rattle.task_events.specs.Slicing.{slice_at}
use Rattle.reindex.specs.Bulks.{without}
use Rattle.reindex.specs.OpenAsks.{is_settled}
use Rattle.reindex.specs.Roots.{Cutting, cut_next, cut_takes, cut_with_answer}
use Rattle.reindex.specs.RootFields.{IsCut}
use Rattle.reindex.proofs.Answers.{IsLow, below_all, told_low}
use Rattle.reindex.proofs.BatchLemmas.{without-lt}
use Rattle.reindex.proofs.SliceLemmas.{slice_is}

pub cut_asks : (c : Cutting) (a : SliceAsk) → a.reindex ≡ c.ask → a.slice ≡ c.made → AskNext (asks.Slice a) ≡ cut_next c
cut_asks c a reindex slice =
    let is : slice_at c.ask c.made ≡ Some a = (λ i. slice_at (sym reindex i) (sym slice i)) ∙ slice_is a.reindex a.slice a.slice_in_range in
    sym (ap (λ (o : Option SliceAsk). ask_or_end (option_map asks.Slice o) (is_settled c.open_asks) (Wrote c.counts)) is)

pub cut_fed : (c : Cutting) (capacity ask : ℕ) (reply : Reply) → IsCut c capacity → cut_takes c ask reply ≡ true → IsCut (cut_with_answer c ask reply) capacity
cut_fed c capacity ask reply is_cut takes =
    let parts = and_parts _ _ takes in
    let fewer : length (without ask c.open_asks) < length c.open_asks = without-lt ask c.open_asks parts.0 in
    let low = told_low (2 ^ 50) reply (omega arith) parts.1 in
    record {
      in_order = is_cut.in_order;
      few = is_cut.few;
      asked = omega arith;
      room = is_cut.room;
      bounded = record {
        total = omega (arith, low.carries.total);
        created = omega (arith, low.carries.created);
        updated = omega (arith, low.carries.updated);
        batches = omega (arith, low.carries.batches);
        failures = omega (arith, low.tells);
      };
    }

-- each number is far below where a sum would wrap
pub cut_small : (c : Cutting) (capacity : ℕ) → IsCut c capacity → are_below (2 ^ 62) c.counts ≡ true
cut_small c capacity h = below_all (2 ^ 62) c.counts (record { total = omega arith; created = omega arith; updated = omega arith; batches = omega arith; failures = omega arith })

-- what a reply tells that a slice can have
slice_told : (c : Cutting) (ask : ℕ) (reply : Reply) → cut_takes c ask reply ≡ true → IsLow (2 ^ 50) reply
slice_told c ask reply takes = told_low (2 ^ 50) reply (omega arith) (and_parts _ _ takes).1

pub told_small : (c : Cutting) (ask : ℕ) (reply : Reply) → cut_takes c ask reply ≡ true → are_below (2 ^ 62) (carried reply) ≡ true
told_small c ask reply takes =
    let low = slice_told c ask reply takes in
    below_all (2 ^ 62) (carried reply)
    (record {
      total = omega (arith, low.carries.total);
      created = omega (arith, low.carries.created);
      updated = omega (arith, low.carries.updated);
      batches = omega (arith, low.carries.batches);
      failures = omega (arith, low.carries.failures);
    })

pub told_few : (c : Cutting) (ask : ℕ) (reply : Reply) → cut_takes c ask reply ≡ true → failures_of reply < 2 ^ 62
told_few c ask reply takes = let low = slice_told c ask reply takes in omega (arith, low.tells)
