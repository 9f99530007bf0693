use Rattle.std.proofs.Common.{◌≡◌, ◌++◌, string_bytes}
use Rattle.std.specs.Fn.{iterate}
use Rattle.script_lang.specs.Generator.{next_number, documents}
use Rattle.script_lang.proofs.generator.write_documents.Given as goal

abbrev pub invariant-loop-id : goal.invariant-loop-id
invariant-loop-id l = record {
  written : string_bytes l.out ≡ string_bytes l.initial.out ++ documents l.number l.id;
  moved : l.chance ≡ iterate next_number l.id l.number;
}
