use Rattle.std.proofs.Common.{◌≡◌, ◌≤◌, ◌+◌, [], length, IsTrue}
use Rattle.std.specs.Str.Lines.{lines}
use Rattle.shard_docs.specs.Json.{begins_with_text}
use Rattle.script_lang.specs.Script.{commands_of}
use Rattle.script_lang.proofs.script.read_script.Given as goal

-- the rest is read as the whole is, after the commands so far
abbrev pub invariant-loop-text : goal.invariant-loop-text
invariant-loop-text l = record {
  reads : commands_of l.mode l.cluster.nodes l.number l.commands (lines l.rest) ≡ commands_of l.mode l.cluster.nodes l.line [] (lines l.bytes);
  begins : IsTrue (begins_with_text (lines l.rest)) → IsTrue (begins_with_text (lines l.bytes));
  fits : l.number + length l.rest ≤ l.line + length l.bytes;
}

abbrev pub decreases-loop-text : goal.decreases-loop-text
decreases-loop-text l = length l.rest
