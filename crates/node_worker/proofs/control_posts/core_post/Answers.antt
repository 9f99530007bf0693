-- An answer that a cancellation is done has the receipt of its task.
use Rattle.std.proofs.Common.{sym, ◌∙◌}
use Rattle.node_worker.proofs.Posting.{own_task}
use Rattle.node_worker.proofs.control_posts.core_post.Goals as goal

pub to_driver-requires-in-AnswerDone-clause-lawful : goal.to_driver-requires-in-AnswerDone-clause-lawful
to_driver-requires-in-AnswerDone-clause-lawful g c =
    let lawful = rw c.in-AnswerDone.is at c.requires.lawful in
    (lawful, own_task _ _ (sym c.is_own.ensures ∙ c.if-not-is_own.false))
