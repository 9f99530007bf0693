-- The task that asked is the one of the receipt's parent.
use Rattle.std.proofs.Common.{sym, subst, ◌∙◌}
use Rattle.live_tasks.specs.Answering.{IsAnswer, asker}
use Rattle.live_tasks.proofs.live.LiveTasks.answer.Goals as goal

pub answer_at-requires-clause-fits : goal.answer_at-requires-clause-fits
answer_at-requires-clause-fits g c = subst (λ p. IsAnswer c.args.receipt c.args.reply (asker c.args.self.now p)) (sym c.parent.ensures ∙ c.in-Some.is) c.requires.fits
