-- The task has one unanswered ask less, or is as it was.
use Rattle.std.proofs.Common.{Option, Some, None, refl, sym, subst, ◌∙◌}
use Rattle.std.specs.Prelude.{IfSome, IsSome}
use Rattle.node_boards.specs.Calls.{untrack}
use Rattle.node_boards.specs.Seats.{HasTicket}
use Rattle.live_tasks.specs.declared.entry.Entry.{Entry}
use Rattle.live_tasks.specs.Answering.{IsAnswer, untracking}
use Rattle.live_tasks.specs.Chains.{Chain}
use Rattle.live_tasks.specs.Entries.{after_answer}
use Rattle.live_tasks.specs.Live.{entry_at}
use Rattle.live_tasks.specs.Ties.{AskedOnNodes, IsEntry}
use Rattle.live_tasks.proofs.Belonging.{some_entry, one_entry, together_changed, keeps_others, same_tickets, ticket_of, passed_of}
use Rattle.live_tasks.proofs.Remaining.{answered_remains, same_remains}
use Rattle.live_tasks.proofs.live.LiveTasks.answer_at.Goals as goal

pub note_answer-requires-clause-nodes : goal.note_answer-requires-clause-nodes
note_answer-requires-clause-nodes g c = nodes_of (entry_at c.args.self.now c.args.number) (c.requires.together.tasks.entries c.args.number)
  where
    nodes_of : (o : Option Entry) → IfSome o (IsEntry c.args.self.now.node c.args.number) → IfSome o (λ e. AskedOnNodes e.running.track)
    nodes_of None h = tt
    nodes_of (Some e) h = h.on_nodes

pub task-requires : goal.task-requires
task-requires g c =
    let found = some_entry (IsAnswer c.args.receipt c.args.reply) (entry_at c.args.self.now c.args.number) (λ h. h) c.requires.fits in
    record { live = subst IsSome (sym (c.in-Ok-Some.ensures.answered found.0 found.1).0.0) refl }

pub untrack-requires-clause-ticket : goal.untrack-requires-clause-ticket
untrack-requires-clause-ticket g c =
    let found = some_entry (IsAnswer c.args.receipt c.args.reply) (entry_at c.args.self.now c.args.number) (λ h. h) c.requires.fits in
    let same = one_entry _ _ (sym (c.in-Ok-Some.ensures.answered found.0 found.1).0.0 ∙ c.task.ensures) in
    subst (λ (x : Entry). HasTicket (g.B.DataBoard.has c.args.board.now) x.running.ticket) same (ticket_of _ _ _ _ _ c.requires.together c.args.number found.0 found.1)

pub returns-in-Ok-Some-clause-together : goal.returns-in-Ok-Some-clause-together
returns-in-Ok-Some-clause-together g c =
    let found = some_entry (IsAnswer c.args.receipt c.args.reply) (entry_at c.args.self.now c.args.number) (λ h. h) c.requires.fits in
    let e = found.0 in
    let one = c.in-Ok-Some.ensures.answered e found.1 in
    let u = c.untrack.ensures in
    together_changed _ _ _ _ _ c.requires.together _ _ _ _ _ u.kept.2 (refl, refl) c.args.number e (after_answer e c.args.receipt.ask c.args.reply c.args.now) found.1 (one.0, (λ p. refl), one.1, refl)
    (answered_remains e c.args.receipt.ask c.args.reply c.args.now) u.tickets.0 u.kept.0 (keeps_others _ _ _ u.tickets.1) (λ old. u.tickets.1 _ (passed_of _ _ _ _ _ c.requires.together c.args.number e found.1 old))

pub returns-in-Ok-None-clause-together : goal.returns-in-Ok-None-clause-together
returns-in-Ok-None-clause-together g c =
    let found = some_entry (IsAnswer c.args.receipt c.args.reply) (entry_at c.args.self.now c.args.number) (λ h. h) c.requires.fits in
    let e = found.0 in
    let one = c.in-Ok-None.ensures.answered e found.1 in
    together_changed _ _ _ _ _ c.requires.together _ _ _ _ _ refl (refl, refl) c.args.number e (after_answer e c.args.receipt.ask c.args.reply c.args.now) found.1 (one.0, (λ p. refl), one.1, refl)
    (answered_remains e c.args.receipt.ask c.args.reply c.args.now) (same_tickets _) refl (λ m other h. h) (passed_of _ _ _ _ _ c.requires.together c.args.number e found.1)

pub returns-in-Err-clause-together : goal.returns-in-Err-clause-together
returns-in-Err-clause-together g c =
    let found = some_entry (IsAnswer c.args.receipt c.args.reply) (entry_at c.args.self.now c.args.number) (λ h. h) c.requires.fits in
    let e = found.0 in
    let one = c.in-Err.ensures.err e found.1 in
    together_changed _ _ _ _ _ c.requires.together _ _ _ _ _ refl (refl, refl) c.args.number e e found.1 (one.0, (λ p. refl), one.1, refl)
    (same_remains e) (same_tickets _) refl (λ m other h. h) (passed_of _ _ _ _ _ c.requires.together c.args.number e found.1)

pub returns-in-Ok-Some-clause-calls : goal.returns-in-Ok-Some-clause-calls
returns-in-Ok-Some-clause-calls g c = λ e was.
    let same = one_entry _ _ (sym (c.in-Ok-Some.ensures.answered e was).0.0 ∙ c.task.ensures) in
    let rests = subst (λ (x : Entry). g.B.DataBoard.rests c.args.board.now c.untrack.new.self (untrack x.running.ticket c.in-Ok-Some.node)) (sym same) c.untrack.ensures.rests in
    subst (λ o. Chain g.B.DataBoard.rests c.args.board.now (untracking e.running.ticket o) c.untrack.new.self) (sym c.in-Ok-Some.field-0-is ∙ c.in-Ok-Some.ensures.left e was) (c.untrack.new.self, rests, refl)

pub returns-in-Ok-None-clause-calls : goal.returns-in-Ok-None-clause-calls
returns-in-Ok-None-clause-calls g c = λ e was. subst (λ o. Chain g.B.DataBoard.rests c.args.board.now (untracking e.running.ticket o) c.args.board.now) (sym c.in-Ok-None.field-0-is ∙ c.in-Ok-None.ensures.left e was) refl
