-- The page is one of the search that opened its context.
use Rattle.std.proofs.Common.{sym, ◌∙◌}
use Rattle.run_book.proofs.Opened.{page_opened}
use Rattle.run_book.proofs.StartLetters.{page_tells}
use Rattle.run_book.specs.Begun.{ask_of, opener_in}
use Rattle.run_book.proofs.book.Book.start_scroll.Goals as goal

pub started-requires-clause-search : goal.started-requires-clause-search
started-requires-clause-search g c =
    rw (c.in_ok-root.ensures.search, c.opener_of.ensures) (page_opened g.W.Run.setting c.args.self.now c.requires.opened c.args.number c.in-Some.id c.in-Some-2.page (sym c.in_ok-page.ensures ∙ c.in-Some-2.is)).0

pub started-requires-clause-tells : goal.started-requires-clause-tells
started-requires-clause-tells g c =
    let book = c.args.self.now in
    let id = c.in-Some.id in
    let page = c.in-Some-2.page in
    let opened = page_opened g.W.Run.setting book c.requires.opened c.args.number id page (sym c.in_ok-page.ensures ∙ c.in-Some-2.is) in
    rw (c.in_ok-root.ensures.request, c.in_ok-root.ensures.page, c.in_ok-root.ensures.search, c.opener_of.ensures) (page_tells g.W.Run.setting c.args.number (opener_in book c.args.number id) c.args.command.now (ask_of id c.args.keep) page opened.1)
