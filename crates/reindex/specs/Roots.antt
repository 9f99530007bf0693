-- A reindex that is cut into slices: what it does next, and the sums of what its slices did.
use Rattle.std.specs.Prelude.{◌≡◌, ℕ, ◌+◌, ◌^◌, ◌≤◌, List, [], ◌∷◌, ◌++◌, length, Bool, ◌&&◌, nat_lt, option_map}
use Rattle.task_events.specs.declared.request.ReindexAsk.{ReindexAsk}
use Rattle.task_events.specs.declared.request.Request.TheVariants as asks
use Rattle.task_events.specs.declared.reply.Counts.{Counts}
use Rattle.task_events.specs.declared.reply.Reply.{Reply}
use Rattle.task_events.specs.declared.reply.Reply.TheVariants.{Wrote}
use Rattle.task_events.specs.declared.step.Asked.{Asked}
use Rattle.task_events.specs.declared.step.Do.{Do}
use Rattle.task_events.specs.Counting.{answers_in, carried, failures_of, sums_of}
use Rattle.task_events.specs.SearchTask.{ask_or_end}
use Rattle.task_events.specs.Slicing.{slice_at}
use Rattle.task_events.specs.Tasks.{no_counts}
use Rattle.reindex.specs.Answers.{writer_can_have}
use Rattle.reindex.specs.Bulks.{is_open, without}
use Rattle.reindex.specs.OpenAsks.{AreNumbered, open_in, is_settled}

pub record Cutting : Type 0 where
  pub ask : ReindexAsk
  -- how many slices were asked for
  pub made : ℕ
  -- the asks that have no answer yet
  pub open_asks : List ℕ
  pub counts : Counts

-- it has asked for nothing yet
pub record IsNewCut (ask : ReindexAsk) (c : Cutting) : Type 0 where
  pub ask_is : c.ask ≡ ask
  pub made_is : c.made ≡ 0
  pub open_is : c.open_asks ≡ []
  pub counts_are : c.counts ≡ no_counts

-- it asks for its slices in order, and ends once all have answered
abbrev pub cut_next : Cutting → Do
cut_next c = ask_or_end (option_map asks.Slice (slice_at c.ask c.made)) (is_settled c.open_asks) (Wrote c.counts)

-- it asks for a slice next
abbrev pub cut_may_ask : Cutting → Bool
cut_may_ask c = nat_lt c.made c.ask.slices

abbrev pub cut_with_ask : Cutting → ℕ → Cutting
cut_with_ask c ask = record c { made = c.made + 1; open_asks = c.open_asks ++ ask ∷ [] }

-- the ask has no answer yet, and the reply is one that a slice can have
abbrev pub cut_takes : Cutting → ℕ → Reply → Bool
cut_takes c ask reply = is_open ask c.open_asks && writer_can_have (2 ^ 50) reply

-- the sums so far and what one reply more tells
abbrev pub sum_with : Counts → Reply → Counts
sum_with counts reply = record {
  total = counts.total + (carried reply).total;
  created = counts.created + (carried reply).created;
  updated = counts.updated + (carried reply).updated;
  batches = counts.batches + (carried reply).batches;
  failures = counts.failures + failures_of reply;
}

abbrev pub cut_with_answer : Cutting → ℕ → Reply → Cutting
cut_with_answer c ask reply = record c { open_asks = without ask c.open_asks; counts = sum_with c.counts reply }

-- ---- the state is what the asks with their answers say

-- This reindex has made these asks, and is in this state.
pub record IsCutAt (ask : ReindexAsk) (asked : List Asked) (c : Cutting) : Type 0 where
  pub ask_is : c.ask ≡ ask
  pub numbered : AreNumbered asked
  pub few : length asked ≤ ask.slices
  pub made_is : c.made ≡ length asked
  pub open_are : c.open_asks ≡ open_in asked
  pub counts_are : c.counts ≡ sums_of (answers_in asked)
