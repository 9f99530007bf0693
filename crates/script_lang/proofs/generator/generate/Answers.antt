use Rattle.std.proofs.Common.{rules}
use Rattle.script_lang.specs.Generator.{generated}
use Rattle.script_lang.proofs.generator.generate.Goals as goal

pub returns : goal.returns
unfolding generated
returns c = search rules
