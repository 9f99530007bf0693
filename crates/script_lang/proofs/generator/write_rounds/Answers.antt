use Rattle.std.proofs.Common.{rules}
use Rattle.script_lang.specs.Generator.{rounds}
use Rattle.script_lang.proofs.GeneratorLemmas.{one_round, then_more}
use Rattle.script_lang.proofs.generator.write_rounds.Goals as goal

pub loop-before-init : goal.loop-before-init
unfolding rounds
loop-before-init c = search rules

pub loop-before-preserved : goal.loop-before-preserved
loop-before-preserved c = then_more _ _ _ _ _ _ c.loop-before.invariant c.in_ok-write_round.ensures (one_round c.args.number c.loop-before.before c.from.result c.from.ensures)
