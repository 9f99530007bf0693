use Rattle.std.proofs.Common.{◌≡◌, refl, false, true, sym, subst}
use Rattle.std.specs.Prelude.{IsTrue}
use Rattle.data_core.proofs.Turned.{fed_answers, passed_answers}
use Rattle.data_core.proofs.answers.take_answer.Goals as goal

pub returns-then-fits-clause-turned : goal.returns-then-fits-clause-turned
returns-then-fits-clause-turned g c =
    let old = c.args.core.now in
    fed_answers g.B.DataBoard.rests c.feed.result (λ posts. posts.items) c.args.answered c.args.board.now old c.feed.new.core c.feed.new.board c.feed.ensures.none c.feed.ensures.taken c.feed.ensures.calls c.feed.ensures.rest
    (c.fits.ensures.0 (subst IsTrue (sym c.if-fits.true) refl))

pub returns-clause-turned : goal.returns-clause-turned
returns-clause-turned g c =
    passed_answers g.B.DataBoard.rests c.args.answered c.args.board.now c.args.core.now c.new.result.items c.new.ensures.items
    (λ fits. absurd (let f : false ≡ true = subst IsTrue c.if-fits.false (c.fits.ensures.1 fits) in cc))
