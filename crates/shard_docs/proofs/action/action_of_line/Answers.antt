use Rattle.serde_json.specs.View.{view}
use Rattle.shard_docs.proofs.TextLines.{said, text_of_whole}
use Rattle.shard_docs.proofs.action.action_of_line.Goals as goal

pub returns-clause-memory : goal.returns-clause-memory
returns-clause-memory c = said _ c.action_of_value.result (text_of_whole c.args.line.now (view c.in_ok-value.value) c.in_ok-value.ensures.value)
