-- The book keeps what it keeps by each letter.
use Rattle.std.proofs.Common.{None, Some}
use Rattle.run_book.specs.declared.entry.Entry.{Entry}
use Rattle.run_book.specs.declared.entry.State.{State}
use Rattle.run_book.specs.Answering as answers
use Rattle.run_book.specs.Hearing.{with_state}
use Rattle.run_book.specs.Listing.{part_of}
use Rattle.run_book.proofs.Answers.{cancelled_fits, named_fits, not_found_fits, rows_fit}
use Rattle.run_book.proofs.Keeping.{heard}
use Rattle.run_book.proofs.book.Book.hear_body.Goals as goal

pub returns-in-Root-clause-keeps : goal.returns-in-Root-clause-keeps
returns-in-Root-clause-keeps g c = heard _ g.W.Run.setting _ _ _ (λ (e : Entry). record e { root = Some c.in-Root.task }) (λ known script parts k d e fits. fits) c.hear_root.ensures.told c.hear_root.ensures.contexts c.hear_root.ensures.same c.requires.keeps

pub returns-in-Rows-clause-keeps : goal.returns-in-Rows-clause-keeps
returns-in-Rows-clause-keeps g c = heard _ g.W.Run.setting _ _ _ (with_state (answers.after_rows (part_of c.args.self.now.nodes c.args.self.now.workers c.in-Rows.node c.in-Rows.worker) c.in-Rows.rows)) (λ known script parts k d e fits. rows_fit _ _ known script parts k d _ _ e.state fits) c.in_ok-hear_rows-in-Rows.ensures.told c.hear_rows.ensures.contexts c.hear_rows.ensures.same c.requires.keeps

pub returns-in-Named-clause-keeps : goal.returns-in-Named-clause-keeps
returns-in-Named-clause-keeps g c = heard _ g.W.Run.setting _ _ _ (with_state (answers.after_named c.in-Named.node c.in-Named.tasks)) (λ known script parts k d e fits. named_fits _ _ known script parts k d _ _ e.state fits) c.in_ok-hear_named-in-Named.ensures.told c.hear_named.ensures.contexts c.hear_named.ensures.same c.requires.keeps

pub returns-in-AnswerPlaced-clause-keeps : goal.returns-in-AnswerPlaced-clause-keeps
returns-in-AnswerPlaced-clause-keeps g c = heard _ g.W.Run.setting _ _ _ (with_state (λ (s : State). answers.after_cancelled s c.in-AnswerPlaced.task None)) (λ known script parts k d e fits. cancelled_fits _ _ known script parts k d _ None tt e.state fits) c.in_ok-hear_cancelled-in-AnswerPlaced.ensures.told c.hear_cancelled.ensures.contexts c.hear_cancelled.ensures.same c.requires.keeps

pub returns-in-AnswerDone-clause-keeps : goal.returns-in-AnswerDone-clause-keeps
returns-in-AnswerDone-clause-keeps g c =
    let lawful = rw c.in-AnswerDone.is at c.requires.lawful in
    heard _ g.W.Run.setting _ _ _ (with_state (λ (s : State). answers.after_cancelled s c.in-AnswerDone.task (Some c.in-AnswerDone.receipt))) (λ known script parts k d e fits. cancelled_fits _ _ known script parts k d _ (Some c.in-AnswerDone.receipt) lawful.1 e.state fits) c.in_ok-hear_cancelled-in-AnswerDone.ensures.told c.hear_cancelled-in-AnswerDone.ensures.contexts c.hear_cancelled-in-AnswerDone.ensures.same c.requires.keeps

pub returns-in-NotFound-clause-keeps : goal.returns-in-NotFound-clause-keeps
returns-in-NotFound-clause-keeps g c = heard _ g.W.Run.setting _ _ _ (with_state answers.after_not_found) (λ known script parts k d e fits. not_found_fits _ _ known script parts k d e.state fits) c.hear_not_found.ensures.told c.hear_not_found.ensures.contexts c.hear_not_found.ensures.same c.requires.keeps
