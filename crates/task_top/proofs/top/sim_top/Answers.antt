use Rattle.std.proofs.Common.{[], subst}
use Rattle.std.proofs.lemmas.Option.{IfSome_then}
use Rattle.world_steps.proofs.Fitting.{all_can}
use Rattle.top_parts.proofs.SourceLemmas.{told_as, fault_as}
use Rattle.task_top.specs.Kept.{IsAfterReading}
use Rattle.task_top.proofs.AtMoments.{past_of_nothing, past_of_run}
use Rattle.task_top.proofs.RanSoFar.{whole_or_none}
use Rattle.task_top.proofs.TopLemmas.{answers_kept}
use Rattle.task_top.proofs.top.sim_top.Goals as goal

pub run_and_print-requires-clause-can_run : goal.run_and_print-requires-clause-can_run
run_and_print-requires-clause-can_run g c = all_can c.args.cluster.now.nodes [] _ c.in-Ok.ensures.fits

pub returns-in-Ok-clause-input : goal.returns-in-Ok-clause-input
returns-in-Ok-clause-input g c =
    let kept = c.run_and_print.ensures in
    IfSome_then (g.S.Source.left c.args.input.now) c.in-Ok.ensures.input
    (λ bytes read. answers_kept c.args.cluster.now bytes c.run_and_print.result.1 c.run_and_print.result.0 c.in-Ok.corpus c.in-Ok.script kept.status kept.corpus kept.script read)

pub returns-in-Ok-clause-too_long : goal.returns-in-Ok-clause-too_long
returns-in-Ok-clause-too_long g c =
    told_as _ _ (g.S.Source.left c.args.input.now) (g.S.Source.left c.read_whole.new.source) c.in-Ok.ensures.too_long
    (λ given. cc)
    (λ told. absurd (subst IsAfterReading told c.run_and_print.ensures.status))

pub returns-in-Ok-clause-source_told : goal.returns-in-Ok-clause-source_told
returns-in-Ok-clause-source_told g c =
    fault_as _ _ (g.S.Source.faults c.args.input.now) (g.S.Source.faults c.read_whole.new.source) c.in-Ok.ensures.told
    (λ failed. cc)
    (λ told. absurd (subst IsAfterReading told c.run_and_print.ensures.status))

pub returns-in-Ok-clause-whole : goal.returns-in-Ok-clause-whole
returns-in-Ok-clause-whole g c =
    let kept = c.run_and_print.ensures in
    whole_or_none c.args.cluster.now c.early_ends.ensures.full c.early_ends.ensures.spent c.run_and_print.result.0 c.run_and_print.result.1 _ _ kept.fits kept.run kept.cause

pub returns-in-Ok-clause-laws : goal.returns-in-Ok-clause-laws
returns-in-Ok-clause-laws g c = λ later h e.
    let kept = c.run_and_print.ensures in
    let past = past_of_run c.args.cluster.now c.earlier_is_lawful.ensures c.earlier_is_so_far.ensures c.whole_is_so_far.ensures c.run_and_print.result.0 c.run_and_print.result.1 kept.status kept.run kept.lawful kept.plain kept.alone later h e in
    c.all_laws.ensures.laws c.args.cluster.now h past.lawful

pub returns-in-Err-Refused-clause-laws : goal.returns-in-Err-Refused-clause-laws
returns-in-Err-Refused-clause-laws g c = λ later h e. let past = past_of_nothing c.args.cluster.now c.nothing.result c.nothing.ensures later h e in c.all_laws.ensures.laws c.args.cluster.now h past.lawful

pub returns-in-Err-ReadFault-clause-laws : goal.returns-in-Err-ReadFault-clause-laws
returns-in-Err-ReadFault-clause-laws g c = λ later h e. let past = past_of_nothing c.args.cluster.now c.nothing-in-Err-ReadFault.result c.nothing-in-Err-ReadFault.ensures later h e in c.all_laws.ensures.laws c.args.cluster.now h past.lawful

pub returns-in-Err-Memory-clause-laws : goal.returns-in-Err-Memory-clause-laws
returns-in-Err-Memory-clause-laws g c = λ later h e. let past = past_of_nothing c.args.cluster.now c.nothing-in-Err-Memory.result c.nothing-in-Err-Memory.ensures later h e in c.all_laws.ensures.laws c.args.cluster.now h past.lawful

pub returns-in-Ok-clause-cancelled : goal.returns-in-Ok-clause-cancelled
returns-in-Ok-clause-cancelled g c = λ later h e.
    let kept = c.run_and_print.ensures in
    let past = past_of_run c.args.cluster.now c.earlier_is_lawful.ensures c.earlier_is_so_far.ensures c.whole_is_so_far.ensures c.run_and_print.result.0 c.run_and_print.result.1 kept.status kept.run kept.lawful kept.plain kept.alone later h e in
    c.all_laws.ensures.cancelled c.args.cluster.now h past.lawful

pub returns-in-Err-Refused-clause-cancelled : goal.returns-in-Err-Refused-clause-cancelled
returns-in-Err-Refused-clause-cancelled g c = λ later h e. let past = past_of_nothing c.args.cluster.now c.nothing.result c.nothing.ensures later h e in c.all_laws.ensures.cancelled c.args.cluster.now h past.lawful

pub returns-in-Err-ReadFault-clause-cancelled : goal.returns-in-Err-ReadFault-clause-cancelled
returns-in-Err-ReadFault-clause-cancelled g c = λ later h e. let past = past_of_nothing c.args.cluster.now c.nothing-in-Err-ReadFault.result c.nothing-in-Err-ReadFault.ensures later h e in c.all_laws.ensures.cancelled c.args.cluster.now h past.lawful

pub returns-in-Err-Memory-clause-cancelled : goal.returns-in-Err-Memory-clause-cancelled
returns-in-Err-Memory-clause-cancelled g c = λ later h e. let past = past_of_nothing c.args.cluster.now c.nothing-in-Err-Memory.result c.nothing-in-Err-Memory.ensures later h e in c.all_laws.ensures.cancelled c.args.cluster.now h past.lawful

pub returns-in-Ok-clause-results : goal.returns-in-Ok-clause-results
returns-in-Ok-clause-results g c = λ later h e.
    let kept = c.run_and_print.ensures in
    let past = past_of_run c.args.cluster.now c.earlier_is_lawful.ensures c.earlier_is_so_far.ensures c.whole_is_so_far.ensures c.run_and_print.result.0 c.run_and_print.result.1 kept.status kept.run kept.lawful kept.plain kept.alone later h e in
    c.all_laws.ensures.results c.args.cluster.now c.run_and_print.result.1.script h past.lawful

pub returns-in-Err-Refused-clause-results : goal.returns-in-Err-Refused-clause-results
returns-in-Err-Refused-clause-results g c = λ later h e. let past = past_of_nothing c.args.cluster.now c.nothing.result c.nothing.ensures later h e in c.all_laws.ensures.results c.args.cluster.now c.nothing.result.script h past.lawful

pub returns-in-Err-ReadFault-clause-results : goal.returns-in-Err-ReadFault-clause-results
returns-in-Err-ReadFault-clause-results g c = λ later h e. let past = past_of_nothing c.args.cluster.now c.nothing-in-Err-ReadFault.result c.nothing-in-Err-ReadFault.ensures later h e in c.all_laws.ensures.results c.args.cluster.now c.nothing-in-Err-ReadFault.result.script h past.lawful

pub returns-in-Err-Memory-clause-results : goal.returns-in-Err-Memory-clause-results
returns-in-Err-Memory-clause-results g c = λ later h e. let past = past_of_nothing c.args.cluster.now c.nothing-in-Err-Memory.result c.nothing-in-Err-Memory.ensures later h e in c.all_laws.ensures.results c.args.cluster.now c.nothing-in-Err-Memory.result.script h past.lawful

pub returns-in-Ok-clause-plain : goal.returns-in-Ok-clause-plain
returns-in-Ok-clause-plain g c = λ later h e.
    let kept = c.run_and_print.ensures in
    let past = past_of_run c.args.cluster.now c.earlier_is_lawful.ensures c.earlier_is_so_far.ensures c.whole_is_so_far.ensures c.run_and_print.result.0 c.run_and_print.result.1 kept.status kept.run kept.lawful kept.plain kept.alone later h e in
    past.plain

pub returns-in-Err-Refused-clause-plain : goal.returns-in-Err-Refused-clause-plain
returns-in-Err-Refused-clause-plain g c = λ later h e. let past = past_of_nothing c.args.cluster.now c.nothing.result c.nothing.ensures later h e in past.plain

pub returns-in-Err-ReadFault-clause-plain : goal.returns-in-Err-ReadFault-clause-plain
returns-in-Err-ReadFault-clause-plain g c = λ later h e. let past = past_of_nothing c.args.cluster.now c.nothing-in-Err-ReadFault.result c.nothing-in-Err-ReadFault.ensures later h e in past.plain

pub returns-in-Err-Memory-clause-plain : goal.returns-in-Err-Memory-clause-plain
returns-in-Err-Memory-clause-plain g c = λ later h e. let past = past_of_nothing c.args.cluster.now c.nothing-in-Err-Memory.result c.nothing-in-Err-Memory.ensures later h e in past.plain

pub returns-in-Ok-clause-alone : goal.returns-in-Ok-clause-alone
returns-in-Ok-clause-alone g c = λ later h e.
    let kept = c.run_and_print.ensures in
    let past = past_of_run c.args.cluster.now c.earlier_is_lawful.ensures c.earlier_is_so_far.ensures c.whole_is_so_far.ensures c.run_and_print.result.0 c.run_and_print.result.1 kept.status kept.run kept.lawful kept.plain kept.alone later h e in
    past.alone

pub returns-in-Err-Refused-clause-alone : goal.returns-in-Err-Refused-clause-alone
returns-in-Err-Refused-clause-alone g c = λ later h e. let past = past_of_nothing c.args.cluster.now c.nothing.result c.nothing.ensures later h e in past.alone

pub returns-in-Err-ReadFault-clause-alone : goal.returns-in-Err-ReadFault-clause-alone
returns-in-Err-ReadFault-clause-alone g c = λ later h e. let past = past_of_nothing c.args.cluster.now c.nothing-in-Err-ReadFault.result c.nothing-in-Err-ReadFault.ensures later h e in past.alone

pub returns-in-Err-Memory-clause-alone : goal.returns-in-Err-Memory-clause-alone
returns-in-Err-Memory-clause-alone g c = λ later h e. let past = past_of_nothing c.args.cluster.now c.nothing-in-Err-Memory.result c.nothing-in-Err-Memory.ensures later h e in past.alone

pub returns-in-Ok-clause-unharmed : goal.returns-in-Ok-clause-unharmed
returns-in-Ok-clause-unharmed g c = λ later h e.
    let kept = c.run_and_print.ensures in
    let past = past_of_run c.args.cluster.now c.earlier_is_lawful.ensures c.earlier_is_so_far.ensures c.whole_is_so_far.ensures c.run_and_print.result.0 c.run_and_print.result.1 kept.status kept.run kept.lawful kept.plain kept.alone later h e in
    c.answer_laws.ensures.unharmed c.args.cluster.now c.run_and_print.result.1.corpus c.run_and_print.result.1.script h past.lawful past.plain

pub returns-in-Err-Refused-clause-unharmed : goal.returns-in-Err-Refused-clause-unharmed
returns-in-Err-Refused-clause-unharmed g c = λ later h e. let past = past_of_nothing c.args.cluster.now c.nothing.result c.nothing.ensures later h e in c.answer_laws.ensures.unharmed c.args.cluster.now c.nothing.result.corpus c.nothing.result.script h past.lawful past.plain

pub returns-in-Err-ReadFault-clause-unharmed : goal.returns-in-Err-ReadFault-clause-unharmed
returns-in-Err-ReadFault-clause-unharmed g c = λ later h e. let past = past_of_nothing c.args.cluster.now c.nothing-in-Err-ReadFault.result c.nothing-in-Err-ReadFault.ensures later h e in c.answer_laws.ensures.unharmed c.args.cluster.now c.nothing-in-Err-ReadFault.result.corpus c.nothing-in-Err-ReadFault.result.script h past.lawful past.plain

pub returns-in-Err-Memory-clause-unharmed : goal.returns-in-Err-Memory-clause-unharmed
returns-in-Err-Memory-clause-unharmed g c = λ later h e. let past = past_of_nothing c.args.cluster.now c.nothing-in-Err-Memory.result c.nothing-in-Err-Memory.ensures later h e in c.answer_laws.ensures.unharmed c.args.cluster.now c.nothing-in-Err-Memory.result.corpus c.nothing-in-Err-Memory.result.script h past.lawful past.plain

pub returns-in-Ok-clause-wrote : goal.returns-in-Ok-clause-wrote
returns-in-Ok-clause-wrote g c = λ later h e.
    let kept = c.run_and_print.ensures in
    let past = past_of_run c.args.cluster.now c.earlier_is_lawful.ensures c.earlier_is_so_far.ensures c.whole_is_so_far.ensures c.run_and_print.result.0 c.run_and_print.result.1 kept.status kept.run kept.lawful kept.plain kept.alone later h e in
    c.answer_laws.ensures.wrote c.args.cluster.now c.run_and_print.result.1.corpus c.run_and_print.result.1.script h past.ran past.lawful past.plain

pub returns-in-Err-Refused-clause-wrote : goal.returns-in-Err-Refused-clause-wrote
returns-in-Err-Refused-clause-wrote g c = λ later h e. let past = past_of_nothing c.args.cluster.now c.nothing.result c.nothing.ensures later h e in c.answer_laws.ensures.wrote c.args.cluster.now c.nothing.result.corpus c.nothing.result.script h past.ran past.lawful past.plain

pub returns-in-Err-ReadFault-clause-wrote : goal.returns-in-Err-ReadFault-clause-wrote
returns-in-Err-ReadFault-clause-wrote g c = λ later h e. let past = past_of_nothing c.args.cluster.now c.nothing-in-Err-ReadFault.result c.nothing-in-Err-ReadFault.ensures later h e in c.answer_laws.ensures.wrote c.args.cluster.now c.nothing-in-Err-ReadFault.result.corpus c.nothing-in-Err-ReadFault.result.script h past.ran past.lawful past.plain

pub returns-in-Err-Memory-clause-wrote : goal.returns-in-Err-Memory-clause-wrote
returns-in-Err-Memory-clause-wrote g c = λ later h e. let past = past_of_nothing c.args.cluster.now c.nothing-in-Err-Memory.result c.nothing-in-Err-Memory.ensures later h e in c.answer_laws.ensures.wrote c.args.cluster.now c.nothing-in-Err-Memory.result.corpus c.nothing-in-Err-Memory.result.script h past.ran past.lawful past.plain

pub returns-in-Ok-clause-copied : goal.returns-in-Ok-clause-copied
returns-in-Ok-clause-copied g c = λ later h e.
    let kept = c.run_and_print.ensures in
    let past = past_of_run c.args.cluster.now c.earlier_is_lawful.ensures c.earlier_is_so_far.ensures c.whole_is_so_far.ensures c.run_and_print.result.0 c.run_and_print.result.1 kept.status kept.run kept.lawful kept.plain kept.alone later h e in
    c.answer_laws.ensures.copied c.args.cluster.now c.run_and_print.result.1.corpus c.run_and_print.result.1.script h past.ran past.lawful past.plain

pub returns-in-Err-Refused-clause-copied : goal.returns-in-Err-Refused-clause-copied
returns-in-Err-Refused-clause-copied g c = λ later h e. let past = past_of_nothing c.args.cluster.now c.nothing.result c.nothing.ensures later h e in c.answer_laws.ensures.copied c.args.cluster.now c.nothing.result.corpus c.nothing.result.script h past.ran past.lawful past.plain

pub returns-in-Err-ReadFault-clause-copied : goal.returns-in-Err-ReadFault-clause-copied
returns-in-Err-ReadFault-clause-copied g c = λ later h e. let past = past_of_nothing c.args.cluster.now c.nothing-in-Err-ReadFault.result c.nothing-in-Err-ReadFault.ensures later h e in c.answer_laws.ensures.copied c.args.cluster.now c.nothing-in-Err-ReadFault.result.corpus c.nothing-in-Err-ReadFault.result.script h past.ran past.lawful past.plain

pub returns-in-Err-Memory-clause-copied : goal.returns-in-Err-Memory-clause-copied
returns-in-Err-Memory-clause-copied g c = λ later h e. let past = past_of_nothing c.args.cluster.now c.nothing-in-Err-Memory.result c.nothing-in-Err-Memory.ensures later h e in c.answer_laws.ensures.copied c.args.cluster.now c.nothing-in-Err-Memory.result.corpus c.nothing-in-Err-Memory.result.script h past.ran past.lawful past.plain

pub returns-in-Ok-clause-throttled : goal.returns-in-Ok-clause-throttled
returns-in-Ok-clause-throttled g c = λ later h e.
    let kept = c.run_and_print.ensures in
    let past = past_of_run c.args.cluster.now c.earlier_is_lawful.ensures c.earlier_is_so_far.ensures c.whole_is_so_far.ensures c.run_and_print.result.0 c.run_and_print.result.1 kept.status kept.run kept.lawful kept.plain kept.alone later h e in
    c.answer_laws.ensures.throttled c.args.cluster.now c.run_and_print.result.1.corpus c.run_and_print.result.1.script h past.ran past.lawful

pub returns-in-Err-Refused-clause-throttled : goal.returns-in-Err-Refused-clause-throttled
returns-in-Err-Refused-clause-throttled g c = λ later h e. let past = past_of_nothing c.args.cluster.now c.nothing.result c.nothing.ensures later h e in c.answer_laws.ensures.throttled c.args.cluster.now c.nothing.result.corpus c.nothing.result.script h past.ran past.lawful

pub returns-in-Err-ReadFault-clause-throttled : goal.returns-in-Err-ReadFault-clause-throttled
returns-in-Err-ReadFault-clause-throttled g c = λ later h e. let past = past_of_nothing c.args.cluster.now c.nothing-in-Err-ReadFault.result c.nothing-in-Err-ReadFault.ensures later h e in c.answer_laws.ensures.throttled c.args.cluster.now c.nothing-in-Err-ReadFault.result.corpus c.nothing-in-Err-ReadFault.result.script h past.ran past.lawful

pub returns-in-Err-Memory-clause-throttled : goal.returns-in-Err-Memory-clause-throttled
returns-in-Err-Memory-clause-throttled g c = λ later h e. let past = past_of_nothing c.args.cluster.now c.nothing-in-Err-Memory.result c.nothing-in-Err-Memory.ensures later h e in c.answer_laws.ensures.throttled c.args.cluster.now c.nothing-in-Err-Memory.result.corpus c.nothing-in-Err-Memory.result.script h past.ran past.lawful
