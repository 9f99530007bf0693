use Rattle.std.proofs.Common.{arith}
use Rattle.std.proofs.lemmas.Grind.{common_steps}
use Rattle.std.proofs.lemmas.Str.{is_utf8-from_IsUtf8, IsUtf8-from_is_utf8}
use Rattle.shard_docs.specs.Json.{is_text, json_of, max_line}
use Rattle.shard_docs.proofs.json_line.value_of_line.Goals as goal

pub returns-in_default-clause-value : goal.returns-in_default-clause-value
unfolding json_of max_line
returns-in_default-clause-value c = grind (arith, common_steps, IsUtf8-from_is_utf8)

pub returns-in-Ok-from_str-clause-value : goal.returns-in-Ok-from_str-clause-value
unfolding json_of max_line
returns-in-Ok-from_str-clause-value c = grind (arith, common_steps, is_utf8-from_IsUtf8)

pub returns-in-Err-2-clause-value : goal.returns-in-Err-2-clause-value
unfolding json_of max_line
returns-in-Err-2-clause-value c = grind (arith, common_steps, is_utf8-from_IsUtf8, c.from_str.ensures.err)

pub returns-in-Err-clause-memory : goal.returns-in-Err-clause-memory
unfolding is_text max_line
returns-in-Err-clause-memory c = grind (arith, common_steps, is_utf8-from_IsUtf8)
