-- The part of a bulk in one shard: it writes its documents there, in order.
use Rattle.std.specs.Prelude.{ℕ, ◌^◌, ◌++◌, length, codes, decimal, Some}
use Rattle.task_ids.specs.declared.action.Action.TheVariants as actions
use Rattle.task_events.specs.declared.request.BulkShardAsk.{BulkShardAsk}
use Rattle.task_events.specs.declared.reply.Counts.{Counts}
use Rattle.task_events.specs.declared.reply.Reply.TheVariants.{Wrote}
use Rattle.task_events.specs.declared.step.Do.{Do}
use Rattle.task_events.specs.Counting.{wrote_can_have}
use Rattle.task_events.specs.Kind.{Kind, Progress}
use Rattle.task_events.specs.Looking.{is_done, work_or_end}

-- the documents that it has created and replaced
abbrev pub writes_counted : (created updated : ℕ) → Counts
writes_counted created updated = record { total = 0; created = created; updated = updated; batches = 0; failures = 0 }

-- it writes its documents, and ends with their counts
abbrev pub bulk_shard_step : BulkShardAsk → Progress → Do
bulk_shard_step ask p = work_or_end (is_done p.turns (length ask.docs)) (Wrote (writes_counted p.created p.updated))

abbrev pub bulk_shard_task : BulkShardAsk → Kind
bulk_shard_task ask = record {
  action = actions.BulkShard;
  description = codes "requests[" ++ decimal (length ask.docs) ++ codes "], index[" ++ ask.dest ++ codes "][" ++ decimal ask.shard ++ codes "]";
  place = Some (ask.dest, ask.shard);
  docs = ask.docs;
  step = λ cluster corpus t p now. bulk_shard_step ask p;
  counts = λ p. writes_counted p.created p.updated;
  limit = 2 ^ 18;
  replies = λ shards reply. wrote_can_have (2 ^ 18) reply;
}
