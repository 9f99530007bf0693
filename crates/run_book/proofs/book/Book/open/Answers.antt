-- The context that opens is for what its search looks for.
use Rattle.std.proofs.Common.{◌≡◌, ℕ, Some, ap, sym, subst, ◌∙◌}
use Rattle.std.specs.FinMap.{insert}
use Rattle.task_events.specs.declared.context.Context.{Context}
use Rattle.task_events.specs.declared.reply.SearchReply.{SearchReply}
use Rattle.run_book.specs.Contexts.{IsOpenedBy, opened}
use Rattle.run_book.proofs.Opened.{one_more}
use Rattle.run_book.proofs.book.Book.open.Goals as goal

pub returns-in_ok-start-in-Some-2-clause-opened : goal.returns-in_ok-start-in-Some-2-clause-opened
returns-in_ok-start-in-Some-2-clause-opened g c =
    let run = g.W.Run.setting in
    let book = c.args.self.now in
    let id = c.in-Some.id in
    let ask = c.in-Search-Search.ask in
    let reply = c.in-Search-Search.reply in
    let context = c.in-Some-2.context in
    let made : context ≡ opened id ask reply book.clock = (rw c.in-Some-2.is at c.in_ok-context.ensures.some) ∙ ap (λ r. opened id ask r book.clock) c.get-3.ensures in
    let names : reply.context ≡ Some id = ap (λ (r : SearchReply). r.context) (sym c.get.ensures) ∙ c.in-Some.is in
    let may : (now : ℕ) → IsOpenedBy run (opened id ask reply now) c.args.command = rw (c.in-Search-Search.is-0, c.in-Search-Search.is-1, names) at c.requires.may in
    let is : IsOpenedBy run context c.args.command = subst (λ x. IsOpenedBy run x c.args.command) (sym made) (may book.clock) in
    let same = ap (λ (x : Context). x.id) made in
    one_more run book.contexts c.requires.opened id context c.args.command is (record { table = c.start.new.self; openers = c.note.new.self }) (c.in_ok-start-in-Some-2.ensures.ok ∙ ap (λ i. insert book.contexts.table i context) same) c.in_ok-note-in-Some-2.ensures
