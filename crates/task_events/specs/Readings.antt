-- What a search looks through, and what a page of one does.
use Rattle.std.specs.Prelude.{ℕ, List, Option, Some, None, map}
use Rattle.std.specs.List.{range_with_len}
use Rattle.task_ids.specs.declared.task_id.TaskId.{TaskId}
use Rattle.task_events.specs.declared.context.Context.{Context}
use Rattle.task_events.specs.declared.reading.ShardRead.{ShardRead}
use Rattle.task_events.specs.declared.reading.ShardRead.TheVariants.{Newest, Kept}
use Rattle.task_events.specs.declared.request.HitKey.{HitKey}
use Rattle.task_events.specs.declared.request.SearchAsk.{SearchAsk}
use Rattle.task_events.specs.Contexts.{context_of}

pub record Reading : Type 0 where
  -- what is looked for, and how much of it is shown
  pub ask : SearchAsk
  -- the shards, in order
  pub shards : List ShardRead
  -- the cursor: where there is one, only rows after it are shown
  pub after : Option HitKey
  -- the context that the answer names
  pub context : Option TaskId

-- a search looks through the newest versions of all shards of its index, and names the context that it opens
abbrev pub search_reading : TaskId → SearchAsk → ℕ → Reading
search_reading task ask shards = record { ask = ask; shards = map Newest (range_with_len 0 shards); after = None; context = context_of task ask }

-- a page looks through the shards of its context, each at the version that is kept, after the cursor
abbrev pub page_reading : Context → Reading
page_reading c = record { ask = c.ask; shards = map Kept c.shards; after = c.after; context = Some c.id }

abbrev pub shard_read : ShardRead → ℕ
shard_read (Newest shard) = shard
shard_read (Kept kept) = kept.shard

-- the version that is asked for, where it is not the newest
abbrev pub version_read : ShardRead → Option ℕ
version_read (Newest shard) = None
version_read (Kept kept) = Some kept.version
