-- The task stays as it was but for a mark that it is told.
use Rattle.std.proofs.Common.{◌≡◌, false, refl, sym, subst}
use Rattle.live_tasks.specs.Entries.{closed}
use Rattle.live_tasks.specs.Ties.{IsPassed}
use Rattle.live_tasks.proofs.Belonging.{together_changed, changes_none, keeps_others, entry_is, ticket_of, passed_of}
use Rattle.live_tasks.proofs.Remaining.{closed_remains, same_remains}
use Rattle.live_tasks.proofs.live.LiveTasks.track.Goals as goal

pub track-requires-clause-ticket : goal.track-requires-clause-ticket
track-requires-clause-ticket g c = ticket_of _ _ _ _ _ c.requires.together c.args.number c.task.result.now c.task.ensures

pub track-requires-clause-clear : goal.track-requires-clause-clear
track-requires-clause-clear g c =
    let e = c.task.result.now in
    let old : e.running.is_new ≡ false = subst IsPassed c.task.ensures c.requires.live in
    subst (g.B.DataBoard.clear c.args.board.now) (sym (entry_is _ _ _ _ _ c.requires.together c.args.number e c.task.ensures).numbered) (passed_of _ _ _ _ _ c.requires.together c.args.number e c.task.ensures old)

pub returns-in-Cleared-clause-together : goal.returns-in-Cleared-clause-together
returns-in-Cleared-clause-together g c =
    let e = c.task.result.now in
    together_changed _ _ _ _ _ c.requires.together _ _ _ _ _ c.track.ensures.kept.2 (refl, refl) c.args.number e e c.task.ensures (changes_none c.args.self.now c.args.number e c.task.ensures) (same_remains e)
    c.track.ensures.tickets.0 c.track.ensures.kept.0 (keeps_others _ _ _ c.track.ensures.tickets.1) (λ old. c.track.ensures.tickets.1 _ (passed_of _ _ _ _ _ c.requires.together c.args.number e c.task.ensures old))

pub returns-in-Cancelled-clause-together : goal.returns-in-Cancelled-clause-together
returns-in-Cancelled-clause-together g c =
    let e = c.task.result.now in
    let one = c.close.ensures.closed e c.task.ensures in
    together_changed _ _ _ _ _ c.requires.together _ _ _ _ _ c.track.ensures.kept.2 (refl, refl) c.args.number e (closed e c.in-Cancelled.cancel) c.task.ensures (one.0, (λ p. refl), one.1, refl) (closed_remains e c.in-Cancelled.cancel)
    c.track.ensures.tickets.0 c.track.ensures.kept.0 (keeps_others _ _ _ c.track.ensures.tickets.1) (λ old. c.track.ensures.tickets.1 _ (passed_of _ _ _ _ _ c.requires.together c.args.number e c.task.ensures old))

pub returns-in-Cancelled-clause-tracked : goal.returns-in-Cancelled-clause-tracked
returns-in-Cancelled-clause-tracked g c = λ e was. let one = c.close.ensures.closed e was in (one.0, (λ p. refl), one.1, refl)
