use Rattle.std.proofs.Common.{sym, ◌∙◌}
use Rattle.script_lang.proofs.Places.{found_here, found_later, found_nowhere}
use Rattle.script_lang.proofs.names.place_among.Goals as goal

pub returns-then-eq-clause-found : goal.returns-then-eq-clause-found
returns-then-eq-clause-found c =
    sym (found_here c.args.name.now c.args.names.now c.loop-place.place _ c.loop-place-test.true (sym c.if-eq.ensures)) ∙ c.loop-place.invariant

pub loop-place-preserved : goal.loop-place-preserved
loop-place-preserved c =
    sym (found_later c.args.name.now c.args.names.now c.loop-place.place _ c.loop-place-test.true (sym c.if-eq.ensures)) ∙ c.loop-place.invariant

pub returns-clause-found : goal.returns-clause-found
returns-clause-found c =
    sym (found_nowhere c.args.name.now c.args.names.now c.loop-place.place c.loop-place.auto.place-end c.loop-place-test.false) ∙ c.loop-place.invariant
