-- How far a bulk has come, by its asks and their answers.
use Rattle.std.specs.Prelude.{◌≡◌, ℕ, ◌*◌, ◌^◌, ◌≤◌, List, length}
use Rattle.task_events.specs.declared.request.BulkAsk.{BulkAsk}
use Rattle.task_events.specs.declared.step.Asked.{Asked}
use Rattle.task_events.specs.BulkTask.{parts_of}
use Rattle.task_events.specs.Counting.{answers_in, written_in}
use Rattle.reindex.specs.BulkFields.{AreUpTo, answered}
use Rattle.reindex.specs.Bulks.{Bulking}
use Rattle.reindex.specs.OpenAsks.{AreNumbered, open_in}

-- These are its asks so far, each with its answer once it has come.
pub record IsBulkAt (ask : BulkAsk) (shards : ℕ) (asked : List Asked) (b : Bulking) : Type 0 where
  pub parts_are : b.parts ≡ parts_of ask shards
  pub made_is : b.made ≡ length asked
  pub in_order : b.made ≤ length b.parts
  pub numbered : AreNumbered asked
  -- the open asks are those without an answer
  pub open_are : b.open_asks ≡ open_in asked
  pub fewer : length b.open_asks ≤ b.made
  -- the counts are the sums over the answers
  pub counts_are : b.counts ≡ written_in (answers_in asked)
  -- an answer adds at most 2^18 to each number
  pub bounded : AreUpTo (answered b * 2 ^ 18) b.counts
