use Rattle.std.proofs.Common.{◌≡◌, take}
use Rattle.task_events.specs.BulkTask.{docs_in}
use Rattle.reindex.proofs.batch.docs_in.Given as goal

abbrev pub invariant-loop-doc : goal.invariant-loop-doc
invariant-loop-doc l = l.found.items ≡ docs_in (take l.doc-index l.docs) l.shards l.shard
