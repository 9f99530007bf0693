use Rattle.std.proofs.Common.{subst}
use Rattle.std.proofs.lemmas.Option.{IfSome_then}
use Rattle.top_parts.proofs.SourceLemmas.{told_as, fault_as}
use Rattle.run_top.specs.Kept.{IsAfterReading}
use Rattle.run_top.proofs.top.pool_top.Goals as goal

pub returns-in-Ok-clause-input : goal.returns-in-Ok-clause-input
returns-in-Ok-clause-input g c = IfSome_then (g.S.Source.left c.args.input.now) c.in-Ok.ensures.input (λ bytes read. c.run_and_print.ensures.input bytes read)

pub returns-in-Ok-clause-too_long : goal.returns-in-Ok-clause-too_long
returns-in-Ok-clause-too_long g c =
    told_as _ _ (g.S.Source.left c.args.input.now) (g.S.Source.left c.read_whole.new.source) c.in-Ok.ensures.too_long
    (λ given. cc)
    (λ told. absurd (subst IsAfterReading told c.run_and_print.ensures.status))

pub returns-in-Ok-clause-source_told : goal.returns-in-Ok-clause-source_told
returns-in-Ok-clause-source_told g c =
    fault_as _ _ (g.S.Source.faults c.args.input.now) (g.S.Source.faults c.read_whole.new.source) c.in-Ok.ensures.told
    (λ failed. cc)
    (λ told. absurd (subst IsAfterReading told c.run_and_print.ensures.status))
