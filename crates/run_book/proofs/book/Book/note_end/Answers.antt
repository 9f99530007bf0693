-- A page turns its context.
use Rattle.std.proofs.Common.{sym, subst}
use Rattle.run_book.specs.Contexts.{AreOpened}
use Rattle.run_book.proofs.Opened.{page_turned}
use Rattle.run_book.proofs.book.Book.note_end.Goals as goal

pub returns-in_ok-turn_page-in-Some-Some-clause-opened : goal.returns-in_ok-turn_page-in-Some-Some-clause-opened
returns-in_ok-turn_page-in-Some-Some-clause-opened g c =
    let book = c.args.self.now in
    subst (AreOpened g.W.Run.setting) (sym c.in_ok-turn_page-in-Some-Some.ensures.turned) (page_turned g.W.Run.setting book.contexts c.requires.opened book.clock c.in-Some-Some.ask c.args.answered.now.reply)
