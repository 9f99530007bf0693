-- What a write does.
use Rattle.std.specs.Prelude.{ℕ, List, if◌then◌else◌}
use Rattle.task_ids.specs.declared.doc.Doc.{Doc}
use Rattle.task_ids.specs.Rows.{is_alive}
use Rattle.shard_docs.specs.declared.shard.Written.{Written}
use Rattle.shard_docs.specs.declared.shard.Written.TheVariants.{Created, Updated}

-- an id is updated exactly where a document of it is alive after the writes so far
abbrev pub outcome_of : List ℕ → List Doc → Written
outcome_of id writes = if is_alive id writes then Updated else Created
