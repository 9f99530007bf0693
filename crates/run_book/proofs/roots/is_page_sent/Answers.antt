use Rattle.std.proofs.Common.{sym, ◌∙◌}
use Rattle.task_ids.proofs.SameId.{same_id-from_test}
use Rattle.run_book.proofs.roots.is_page_sent.Goals as goal

pub returns-then-eq : goal.returns-then-eq
returns-then-eq c =
    let same = same_id-from_test c.args.ask.now.id c.args.sent.now.ask.id (sym c.eq.ensures ∙ c.if-eq.true) in
    ((λ shows. record { context = same; cursor = c.shows.ensures.0 shows }), (λ is. c.shows.ensures.1 is.cursor))
