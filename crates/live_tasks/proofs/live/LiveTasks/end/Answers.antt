-- The task leaves both tables and the seat.
use Rattle.std.proofs.Common.{◌≡◌, ℕ, refl, sym, ap, subst, ◌∙◌}
use Rattle.child_track.specs.Track.{unanswered}
use Rattle.node_boards.specs.Seats.{HasTicket, KeepsOthers, OneLess}
use Rattle.live_tasks.specs.Answering.{IsAnsweredFully}
use Rattle.live_tasks.proofs.Belonging.{together_less, entry_is, ticket_of}
use Rattle.live_tasks.proofs.live.LiveTasks.end.Goals as goal

pub end-requires-clause-ticket : goal.end-requires-clause-ticket
end-requires-clause-ticket g c =
    subst (λ t. HasTicket (g.B.DataBoard.has c.args.board.now) t) (sym c.into_parts-ticket.ensures.right.0) (ticket_of _ _ _ _ _ c.requires.together c.args.number c.take-entry.result c.take-entry.ensures.task)

pub end-requires-clause-track : goal.end-requires-clause-track
end-requires-clause-track g c =
    let r = c.into_parts-ticket.ensures.right in
    ap (λ t. t.task) r.1 ∙ (entry_is _ _ _ _ _ c.requires.together c.args.number c.take-entry.result c.take-entry.ensures.task).tracked ∙ sym (ap (λ t. t.id) r.0)

pub end-requires-clause-answered : goal.end-requires-clause-answered
end-requires-clause-answered g c =
    let none : unanswered c.take-entry.result.running.track ≡ 0 = subst IsAnsweredFully c.take-entry.ensures.task c.requires.answered in
    ap unanswered c.into_parts-ticket.ensures.right.1 ∙ none

pub returns-clause-together : goal.returns-clause-together
returns-clause-together g c =
    let e = c.take-entry.result in
    let t = c.take-entry.ensures in
    let number = ap (λ t. t.id.number) c.into_parts-ticket.ensures.right.0 ∙ (entry_is _ _ _ _ _ c.requires.together c.args.number e t.task).numbered in
    together_less _ _ _ _ _ c.requires.together _ _ _ _ _ c.end.ensures.kept.2 (refl, refl) c.args.number e t.task t.gone t.left
    (subst (λ (n : ℕ). OneLess (g.B.DataBoard.has c.args.board.now) (g.B.DataBoard.has c.end.new.self) n) number c.end.ensures.gone)
    (subst (λ (n : ℕ). KeepsOthers (g.B.DataBoard.clear c.args.board.now) (g.B.DataBoard.clear c.end.new.self) n) number c.end.ensures.others)
    c.end.ensures.kept.0 refl
