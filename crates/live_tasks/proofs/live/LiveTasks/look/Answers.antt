-- The task stays as it was but for a mark that it is told.
use Rattle.std.proofs.Common.{refl}
use Rattle.live_tasks.specs.Entries.{closed}
use Rattle.live_tasks.proofs.Belonging.{together_changed, changes_none, keeps_others, ticket_of, passed_of}
use Rattle.live_tasks.proofs.Remaining.{closed_remains, same_remains}
use Rattle.live_tasks.proofs.live.LiveTasks.look.Goals as goal

pub look-requires : goal.look-requires
look-requires g c = record { ticket = ticket_of _ _ _ _ _ c.requires.together c.args.number c.task.result.now c.task.ensures }

pub returns-in-None-clause-together : goal.returns-in-None-clause-together
returns-in-None-clause-together g c =
    let e = c.task.result.now in
    together_changed _ _ _ _ _ c.requires.together _ _ _ _ _ c.look.ensures.kept.2 (refl, refl) c.args.number e e c.task.ensures (changes_none c.args.self.now c.args.number e c.task.ensures) (same_remains e)
    c.look.ensures.tickets.0 c.look.ensures.kept.0 (keeps_others _ _ _ c.look.ensures.tickets.1) (λ old. c.look.ensures.tickets.1 _ (passed_of _ _ _ _ _ c.requires.together c.args.number e c.task.ensures old))

pub returns-in-Some-clause-together : goal.returns-in-Some-clause-together
returns-in-Some-clause-together g c =
    let e = c.task.result.now in
    let one = c.close.ensures.closed e c.task.ensures in
    together_changed _ _ _ _ _ c.requires.together _ _ _ _ _ c.look.ensures.kept.2 (refl, refl) c.args.number e (closed e c.in-Some.cancel) c.task.ensures (one.0, (λ p. refl), one.1, refl) (closed_remains e c.in-Some.cancel)
    c.look.ensures.tickets.0 c.look.ensures.kept.0 (keeps_others _ _ _ c.look.ensures.tickets.1) (λ old. c.look.ensures.tickets.1 _ (passed_of _ _ _ _ _ c.requires.together c.args.number e c.task.ensures old))

pub returns-in-Some-clause-looked : goal.returns-in-Some-clause-looked
returns-in-Some-clause-looked g c = λ e was. let one = c.close.ensures.closed e was in (one.0, (λ p. refl), one.1, refl)
