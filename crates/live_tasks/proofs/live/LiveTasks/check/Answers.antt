-- A child whose check was clear has passed; a refused one is as it was.
use Rattle.std.proofs.Common.{◌≡◌, ℕ, true, refl, subst}
use Rattle.node_boards.specs.Seats.{KeepsOthers}
use Rattle.live_tasks.specs.Entries.{passed}
use Rattle.live_tasks.specs.Ties.{IsNew}
use Rattle.live_tasks.proofs.Belonging.{together_changed, changes_none, entry_is, ticket_of}
use Rattle.live_tasks.proofs.Remaining.{passed_remains, same_remains}
use Rattle.live_tasks.proofs.live.LiveTasks.check.Goals as goal

pub check-requires : goal.check-requires
check-requires g c = record { ticket = ticket_of _ _ _ _ _ c.requires.together c.args.number c.task.result.now c.task.ensures }

pub returns-in-Clear-clause-together : goal.returns-in-Clear-clause-together
returns-in-Clear-clause-together g c =
    let e = c.task.result.now in
    let one = c.pass.ensures.passed e c.task.ensures in
    let number = (entry_is _ _ _ _ _ c.requires.together c.args.number e c.task.ensures).numbered in
    let keeps = subst (λ (n : ℕ). KeepsOthers (g.B.DataBoard.clear c.args.board.now) (g.B.DataBoard.clear c.check.new.self) n) number c.check.ensures.others in
    together_changed _ _ _ _ _ c.requires.together _ _ _ _ _ c.check.ensures.kept.2 (refl, refl) c.args.number e (passed e) c.task.ensures (one.0, (λ p. refl), one.1, refl) (passed_remains e)
    c.check.ensures.tickets c.check.ensures.kept.0 keeps (λ old. subst (g.B.DataBoard.clear c.check.new.self) number (c.check.ensures.clear c.in-Clear.is))

pub returns-in-Banned-clause-together : goal.returns-in-Banned-clause-together
returns-in-Banned-clause-together g c =
    let e = c.task.result.now in
    let number = (entry_is _ _ _ _ _ c.requires.together c.args.number e c.task.ensures).numbered in
    let keeps = subst (λ (n : ℕ). KeepsOthers (g.B.DataBoard.clear c.args.board.now) (g.B.DataBoard.clear c.check.new.self) n) number c.check.ensures.others in
    let new : e.running.is_new ≡ true = subst IsNew c.task.ensures c.requires.new in
    together_changed _ _ _ _ _ c.requires.together _ _ _ _ _ c.check.ensures.kept.2 (refl, refl) c.args.number e e c.task.ensures (changes_none c.args.self.now c.args.number e c.task.ensures) (same_remains e)
    c.check.ensures.tickets c.check.ensures.kept.0 keeps (λ old. absurd (cc))
