-- What a request reads, and which replies say what it read.
use Rattle.std.specs.Prelude.{◌≡◌, ℕ, ◌<◌, ◌≤◌, ◌++◌, true, List, [], length, slice_get, Option, Some, None, ⊤}
use Rattle.std.specs.List.{AllByRecursion}
use Rattle.task_ids.specs.Placing.{shard_of}
use Rattle.task_ids.specs.declared.cluster.Cluster.{Cluster}
use Rattle.task_ids.specs.declared.corpus.Corpus.{Corpus}
use Rattle.task_ids.specs.declared.doc.Doc.{Doc}
use Rattle.search_phase.specs.Searching.{IsHonest}
use Rattle.task_events.specs.declared.request.Request.{Request}
use Rattle.task_events.specs.declared.context.Context.{Context}
use Rattle.task_events.specs.declared.reply.ShardCount.{ShardCount}
use Rattle.task_events.specs.declared.request.BulkShardAsk.{BulkShardAsk}
use Rattle.task_events.specs.declared.request.Request.TheVariants.{Search, Query, Fetch, Bulk, BulkShard}
use Rattle.task_events.specs.declared.reply.Reply.{Reply}
use Rattle.task_events.specs.Documents.{writes_of, writes_at}
use Rattle.task_events.specs.Kinds.{kind_of, can_have}
use Rattle.task_events.specs.Written.{corpus_at}
use Rattle.task_events.specs.declared.event.Event.{Event}
use Rattle.command_roots.specs.Roots.{scripted}
use Rattle.script_lang.specs.declared.command.Script.{Script}

-- the writes of a shard of an index
abbrev pub written : Cluster → Corpus → List ℕ → ℕ → List Doc
written cluster corpus index shard = writes_of corpus cluster.shards index shard

-- the writes that a task's work looks at: those of the shard of its request
abbrev pub own_writes : Cluster → Corpus → Option Request → List Doc
own_writes cluster corpus None = []
own_writes cluster corpus (Some r) = writes_at cluster corpus (kind_of r).place

abbrev pub index_writes : Cluster → Corpus → Option (List ℕ × ℕ) → ℕ → List Doc
index_writes cluster corpus None shard = []
index_writes cluster corpus (Some place) shard = written cluster corpus place.0 shard

-- what a request of a shard reads: the writes of the shards of its index
abbrev pub writes_for : Cluster → Corpus → Request → ℕ → List Doc
writes_for cluster corpus r shard = index_writes cluster corpus (kind_of r).place shard

-- a reply that a request can have, and that says what its shard's writes say at a version
abbrev pub IsGoodReply : Cluster → Corpus → Request → Reply → Type 0
IsGoodReply cluster corpus r reply = (can_have cluster.shards r reply ≡ true) × IsHonest (writes_for cluster corpus r) r reply

-- a shard is one of an index, and a version of it that is named was written
abbrev pub IsShardWithin : Cluster → Corpus → List ℕ → ℕ → Option ℕ → Type 0
IsShardWithin cluster corpus index shard version = (shard < cluster.shards) × ((v : ℕ) → version ≡ Some v → v ≤ length (written cluster corpus index shard))

-- a part of a bulk has the documents of a shard, at most as many as a page
pub record IsPartWithin (cluster : Cluster) (ask : BulkShardAsk) : Type 0 where
  pub shard : ask.shard < cluster.shards
  pub few : length ask.docs ≤ 10000
  pub in_shard : AllByRecursion (λ doc. shard_of doc.id cluster.shards ≡ ask.shard) ask.docs

-- so it is with a request of a shard; and no search shows more than so many documents, nor are more written at once
abbrev pub IsWithin : Cluster → Corpus → Request → Type 0
IsWithin cluster corpus (Query ask) = IsShardWithin cluster corpus ask.index ask.shard ask.version
IsWithin cluster corpus (Fetch ask) = IsShardWithin cluster corpus ask.index ask.shard (Some ask.version)
IsWithin cluster corpus (BulkShard ask) = IsPartWithin cluster ask
IsWithin cluster corpus (Bulk ask) = length ask.docs ≤ 10000
IsWithin cluster corpus (Search ask) = ask.body.size ≤ 10000
IsWithin cluster corpus _ = ⊤

-- and with the shards that a context keeps
pub record IsContextWithin (cluster : Cluster) (corpus : Corpus) (c : Context) : Type 0 where
  -- of at most as many shards as an index has
  pub few : length c.shards ≤ cluster.shards
  -- and its pages show at most so many documents
  pub shown : c.ask.body.size ≤ 10000
  pub shards : (place : ℕ) (n : ShardCount) → slice_get c.shards place ≡ Some n → IsShardWithin cluster corpus c.ask.index n.shard (Some n.version)

-- what is written so far, in a run of a script over a corpus
abbrev pub so_far : Corpus → Script → List Event → Corpus
so_far corpus script h = corpus_at corpus (scripted script) h

-- Each shard has what it had, and perhaps more was written to it since.
abbrev pub Grows : Cluster → Corpus → Corpus → Type 0
Grows cluster old new = (index : List ℕ) (shard : ℕ) → (more : List Doc) × (written cluster new index shard ≡ written cluster old index shard ++ more)
