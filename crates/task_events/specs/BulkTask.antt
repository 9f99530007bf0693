-- A bulk: it has a batch of documents written, shard by shard.
use Rattle.std.specs.Prelude.{ℕ, ◌^◌, List, [], ◌∷◌, ◌++◌, length, codes, decimal, filter, map, slice_get, ◌==◌, None}
use Rattle.std.specs.List.{flat_map, range_with_len}
use Rattle.task_ids.specs.declared.action.Action.TheVariants as actions
use Rattle.task_ids.specs.declared.doc.Doc.{Doc}
use Rattle.task_ids.specs.Placing.{shard_of}
use Rattle.task_events.specs.declared.request.BulkAsk.{BulkAsk}
use Rattle.task_events.specs.declared.request.BulkShardAsk.{BulkShardAsk}
use Rattle.task_events.specs.declared.request.Request.TheVariants as asks
use Rattle.task_events.specs.declared.reply.Reply.TheVariants.{Wrote}
use Rattle.task_events.specs.declared.step.Asked.{Asked}
use Rattle.task_events.specs.declared.step.Do.{Do}
use Rattle.task_events.specs.Counting.{answers_in, written_in, wrote_can_have}
use Rattle.task_events.specs.Kind.{Kind}
use Rattle.task_events.specs.SearchTask.{ask_or_end}
use Rattle.task_events.specs.Searches.{are_answered}

-- the documents of a batch that lie in a shard, in order
abbrev pub docs_in : List Doc → ℕ → ℕ → List Doc
docs_in docs shards shard = filter (λ doc. shard_of doc.id shards == shard) docs

-- a shard without a document has no part
abbrev pub part_with : List ℕ → ℕ → List Doc → List BulkShardAsk
part_with index shard [] = []
part_with index shard (doc ∷ docs) = record { dest = index; shard = shard; docs = doc ∷ docs } ∷ []

-- the documents of a batch, shard by shard, of each shard that has one
abbrev pub parts_of : BulkAsk → ℕ → List BulkShardAsk
parts_of ask shards = flat_map (λ shard. part_with ask.dest shard (docs_in ask.docs shards shard)) (range_with_len 0 shards)

-- it asks for each part, in order, and ends once all have answered
abbrev pub bulk_step : BulkAsk → ℕ → List Asked → Do
bulk_step ask shards asked = ask_or_end (slice_get (map asks.BulkShard (parts_of ask shards)) (length asked)) (are_answered asked) (Wrote (written_in (answers_in asked)))

abbrev pub bulk_task : BulkAsk → Kind
bulk_task ask = record {
  action = actions.Bulk;
  description = codes "requests[" ++ decimal (length ask.docs) ++ codes "], indices[" ++ ask.dest ++ codes "]";
  place = None;
  docs = [];
  step = λ cluster corpus t p now. bulk_step ask cluster.shards p.asked;
  counts = λ p. written_in (answers_in p.asked);
  limit = 2 ^ 22;
  replies = λ shards reply. wrote_can_have (2 ^ 22) reply;
}
