-- A command that waits for this answer has it.
use Rattle.std.proofs.Common.{◌-◌, sym, subst}
use Rattle.run_book.specs.Contexts.{AreOpened}
use Rattle.run_book.specs.Entries.{Turned}
use Rattle.run_book.specs.Hearing.{with_state}
use Rattle.run_book.specs.Answering.{after_root}
use Rattle.run_book.proofs.Keeping.{same_time}
use Rattle.run_book.proofs.RootAnswers.{root_heard, root_may_open}
use Rattle.run_book.proofs.book.Book.hear_root_answer.Goals as goal

pub note_end-requires-clause-may : goal.note_end-requires-clause-may
note_end-requires-clause-may g c = root_may_open g.W.Run.cancels g.W.Run.setting c.args.self.now c.args.answered c.requires.lawful c.requires.tells c.requires.keeps (c.awaits.ensures.0 c.if-not-awaits.false)

pub returns-clause-keeps : goal.returns-clause-keeps
returns-clause-keeps g c =
    let book = c.args.self.now in
    let a = c.args.answered in
    let after = c.end_root.new.self in
    let told = subst (λ v. Turned (with_state (after_root a.reply)) (a.place.command - 1) v after.entries.items) c.note_end.ensures.entries c.end_root.ensures.told in
    let opened = subst (AreOpened g.W.Run.setting) (sym c.end_root.ensures.contexts) c.in_ok-note_end.ensures.opened in
    root_heard g.W.Run.cancels g.W.Run.setting book a c.requires.lawful c.requires.tells c.requires.keeps (c.awaits.ensures.0 c.if-not-awaits.false) after told opened (same_time book c.note_end.new.self after c.note_end.ensures.same c.end_root.ensures.same)
