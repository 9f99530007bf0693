use Rattle.std.proofs.Common.{◌≡◌, ◌++◌, string_bytes}
use Rattle.script_lang.specs.Generator.{rounds}
use Rattle.script_lang.proofs.generator.write_rounds.Given as goal

abbrev pub invariant-loop-before : goal.invariant-loop-before
invariant-loop-before l = string_bytes l.out ≡ string_bytes l.initial.out ++ rounds l.number l.before
