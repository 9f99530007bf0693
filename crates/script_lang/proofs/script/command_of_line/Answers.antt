use Rattle.std.proofs.Common.{◌<◌, length, IsTrue, arith}
use Rattle.serde_json.specs.View.{view}
use Rattle.shard_docs.specs.Json.{is_text}
use Rattle.shard_docs.proofs.TextLines.{said, text_of_whole}
use Rattle.script_lang.proofs.script.command_of_line.Goals as goal

pub returns-clause-memory : goal.returns-clause-memory
returns-clause-memory c =
    let few : length c.args.before.now < 65535 = omega arith in
    said ((length c.args.before.now < 65535) × IsTrue (is_text c.args.line.now)) c.command_in.result (few, text_of_whole c.args.line.now (view c.in_ok-value.value) c.in_ok-value.ensures.value)
