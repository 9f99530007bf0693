-- What is taken is what the command came to.
use Rattle.std.proofs.Common.{sym, ◌∙◌}
use Rattle.run_book.specs.Answering.{without_answer}
use Rattle.run_book.specs.Hearing.{with_state}
use Rattle.run_book.proofs.Answers.{taken_fits}
use Rattle.run_book.proofs.Keeping.{heard, note_of, prints_of}
use Rattle.run_book.proofs.book.Book.take_note.Goals as goal

pub returns-in_err-reply-clause-keeps : goal.returns-in_err-reply-clause-keeps
returns-in_err-reply-clause-keeps g c = heard _ g.W.Run.setting _ _ _ (with_state without_answer) (λ known script parts k d e fits. taken_fits _ _ known script parts k d e.state fits) c.take_answer.ensures.told c.take_answer.ensures.contexts c.take_answer.ensures.same c.requires.keeps

pub returns-clause-keeps : goal.returns-clause-keeps
returns-clause-keeps g c = heard _ g.W.Run.setting _ _ _ (with_state without_answer) (λ known script parts k d e fits. taken_fits _ _ known script parts k d e.state fits) c.take_answer.ensures.told c.take_answer.ensures.contexts c.take_answer.ensures.same c.requires.keeps

pub returns-clause-note : goal.returns-clause-note
returns-clause-note g c = λ place number. note_of _ g.W.Run.setting c.args.self.now c.args.command place c.in_ok-reply.field-0 c.requires.keeps (sym c.take_answer.ensures.answer ∙ c.in_ok-reply.was) number

pub returns-clause-printable : goal.returns-clause-printable
returns-clause-printable g c = prints_of _ g.W.Run.setting c.args.self.now c.args.command c.in_ok-reply.field-0 c.requires.keeps (sym c.take_answer.ensures.answer ∙ c.in_ok-reply.was)
