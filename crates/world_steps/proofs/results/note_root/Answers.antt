use Rattle.std.proofs.Common.{◌∙◌, refl, sym}
use Rattle.world_steps.proofs.ResultsFollow.{rooted_apart, rooted_stored}
use Rattle.world_steps.proofs.results.note_root.Goals as goal

pub returns-then-not-stores-clause-known : goal.returns-then-not-stores-clause-known
returns-then-not-stores-clause-known c = λ h known.
    let old = c.args.results.now in
    rooted_apart c.args.script.now h old (record old { roots = c.insert.new.self }) known c.args.command c.args.task refl c.in-Ok.ensures.updates.0 c.requires.fresh (sym c.if-not-stores.ensures) refl

pub returns-in-Ok-insert-clause-known : goal.returns-in-Ok-insert-clause-known
returns-in-Ok-insert-clause-known c = λ h known.
    let old = c.args.results.now in
    rooted_stored c.args.script.now h old (record old { roots = c.insert.new.self; storing = c.insert-2.new.self }) known c.args.command c.args.task refl c.in-Ok.ensures.updates.0 c.requires.fresh (sym c.stores.ensures ∙ c.if-not-stores.false) c.in-Ok-insert.ensures.updates.0
