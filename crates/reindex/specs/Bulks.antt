-- A batch of documents that are written to an index: what it asks for, shard by shard, and what it has counted.
use Rattle.std.specs.Prelude.{ℕ, ◌+◌, ◌^◌, List, [], ◌∷◌, ◌++◌, length, map, filter, slice_get, Bool, not, ◌&&◌, ◌==◌, nat_lt}
use Rattle.std.specs.List.{list_any}
use Rattle.task_events.specs.declared.request.BulkAsk.{BulkAsk}
use Rattle.task_events.specs.declared.request.BulkShardAsk.{BulkShardAsk}
use Rattle.task_events.specs.declared.request.Request.TheVariants.{BulkShard}
use Rattle.task_events.specs.declared.reply.Counts.{Counts}
use Rattle.task_events.specs.declared.reply.Reply.{Reply}
use Rattle.task_events.specs.declared.reply.Reply.TheVariants.{Wrote}
use Rattle.task_events.specs.declared.step.Do.{Do}
use Rattle.task_events.specs.BulkTask.{parts_of}
use Rattle.task_events.specs.SearchTask.{ask_or_end}
use Rattle.task_events.specs.Tasks.{no_counts}
use Rattle.reindex.specs.Answers.{writer_can_have, with_written}
use Rattle.reindex.specs.OpenAsks.{is_settled}

pub record Bulking : Type 0 where
  pub parts : List BulkShardAsk
  -- how many parts were asked for
  pub made : ℕ
  -- the asks that have no answer yet
  pub open_asks : List ℕ
  pub counts : Counts

abbrev pub new_bulk : BulkAsk → ℕ → Bulking
new_bulk ask shards = record { parts = parts_of ask shards; made = 0; open_asks = []; counts = no_counts }

-- it asks for each part, in order, and ends once all have answered
abbrev pub bulk_next : Bulking → Do
bulk_next b = ask_or_end (slice_get (map BulkShard b.parts) b.made) (is_settled b.open_asks) (Wrote b.counts)

-- a part is left to ask for
abbrev pub bulk_may_ask : Bulking → Bool
bulk_may_ask b = nat_lt b.made (length b.parts)

abbrev pub bulk_with_ask : Bulking → ℕ → Bulking
bulk_with_ask b ask = record b { made = b.made + 1; open_asks = b.open_asks ++ ask ∷ [] }

-- the ask has no answer yet
abbrev pub is_open : ℕ → List ℕ → Bool
is_open ask asks = list_any (λ other. other == ask) asks

-- the asks that have no answer once this one has
abbrev pub without : ℕ → List ℕ → List ℕ
without ask asks = filter (λ other. not (other == ask)) asks

-- the ask has no answer yet, and the reply is one that a part can have
abbrev pub bulk_takes : Bulking → ℕ → Reply → Bool
bulk_takes b ask reply = is_open ask b.open_asks && writer_can_have (2 ^ 18) reply

-- the writes and the failures of a part are added
abbrev pub bulk_with_answer : Bulking → ℕ → Reply → Bulking
bulk_with_answer b ask reply = record b { open_asks = without ask b.open_asks; counts = with_written b.counts reply }
