use Rattle.serde_json.specs.View.{view}
use Rattle.shard_docs.proofs.TextLines.{text_of_json}
use Rattle.shard_docs.proofs.json_line.source_of_line.Goals as goal

pub returns-in-Err-Memory-clause-memory : goal.returns-in-Err-Memory-clause-memory
returns-in-Err-Memory-clause-memory c = text_of_json c.args.line.now (view c.in_ok-value.value) c.in_ok-value.ensures.value
