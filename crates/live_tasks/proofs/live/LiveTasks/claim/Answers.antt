-- The task is kept under its number, or has ended unkept.
use Rattle.std.proofs.Common.{ℕ, Some, refl, sym, ap, subst, ◌∙◌}
use Rattle.std.specs.BTreeMap as tree
use Rattle.std.specs.Ordering.{nat_cmp}
use Rattle.race_board.specs.Keys.{parent_key}
use Rattle.node_boards.specs.Seats.{KeepsOthers, OneLess}
use Rattle.task_table.specs.TicketParts.{TicketParts}
use Rattle.live_tasks.specs.declared.entry.Entry.{Entry}
use Rattle.live_tasks.specs.Live.{entry_at, number_at, ChangesAt}
use Rattle.live_tasks.specs.Registers.{new_entry}
use Rattle.live_tasks.proofs.Belonging.{together_more, together_back}
use Rattle.live_tasks.proofs.Claimed.{same_ticket, claimed_entry, claimed_parent, claimed_passed}
use Rattle.live_tasks.proofs.Seated.{fresh_number}
use Rattle.live_tasks.proofs.live.LiveTasks.claim.Goals as goal

pub put-requires-clause-free : goal.put-requires-clause-free
put-requires-clause-free g c = fresh_number _ _ _ _ c.requires.together.seated c.in-Ok.ensures.more.1.0

pub returns-in-Ok-put-clause-together : goal.returns-in-Ok-put-clause-together
returns-in-Ok-put-clause-together g c =
    let all = c.requires.together in
    let t = c.in-Ok.ensures.ticket in
    let is = c.into_entry-entry.ensures in
    let e = c.into_entry-entry.result in
    let place = ap (λ (x : Entry). x.place) is in
    let free = ap (λ p. number_at c.args.self.now p) place ∙ c.requires.place in
    together_more _ _ _ _ _ all _ _ _ _ _ c.in-Ok.ensures.kept.1 (refl, refl) c.args.id.number (parent_key c.parent_of.result) e c.in-Ok-put.ensures.kept c.in-Ok-put.ensures.placed free
    c.in-Ok.ensures.more.1 c.in-Ok.ensures.others (claimed_parent c.in-Ok.ticket c.args.parts e is c.parent_of.result c.args.token t.2 c.parent_of.ensures)
    (claimed_passed c.in-Ok.ticket c.args.parts e is (g.B.DataBoard.clear c.claim.new.self) c.args.id.number c.parent_of.result c.args.token t.2 c.parent_of.ensures c.in-Ok.ensures.root)
    (claimed_entry c.in-Ok.ticket c.args.parts e is c.args.self.now.node c.args.id.number (t.0 ∙ sym all.of_node) t.1)
    c.in-Ok.ensures.more.0 refl

pub returns-in-Ok-put-clause-entry : goal.returns-in-Ok-put-clause-entry
returns-in-Ok-put-clause-entry g c = λ t e.
    let k = c.in-Ok.ensures.ticket in
    let all = c.requires.together in
    let ticket = same_ticket c.in-Ok.ticket c.args.id c.args.token (k.0 ∙ sym all.of_node ∙ sym c.requires.id.0) k.1 k.2 in
    subst (λ (x : Entry). ChangesAt (entry_at c.args.self.now) (tree.get nat_cmp c.put.new.tasks) c.args.id.number (Some x)) (c.into_entry-entry.ensures ∙ ap (λ (x : TicketParts). new_entry x c.args.parts) ticket) c.in-Ok-put.ensures.kept

pub returns-in-Err-put-clause-err : goal.returns-in-Err-put-clause-err
returns-in-Err-put-clause-err g c = (c.in-Err-put.ensures.err.0, c.in-Err-put.ensures.err.1, c.in-Err-put.ensures.as_many)

pub returns-in-Err-put-clause-together : goal.returns-in-Err-put-clause-together
returns-in-Err-put-clause-together g c =
    let given = c.in-Err-put.ensures.given_back ∙ c.into_entry-entry.ensures in
    let number = ap (λ (x : Entry). x.running.ticket.id.number) given ∙ c.in-Ok.ensures.ticket.1 in
    let less = subst (λ (n : ℕ). OneLess (g.B.DataBoard.has c.claim.new.self) (g.B.DataBoard.has c.end_unkept.new.board) n) number c.end_unkept.ensures.gone in
    let keeps = subst (λ (n : ℕ). KeepsOthers (g.B.DataBoard.clear c.claim.new.self) (g.B.DataBoard.clear c.end_unkept.new.board) n) number c.end_unkept.ensures.others in
    together_back _ _ _ _ _ c.requires.together _ _ _ _ _ (c.end_unkept.ensures.kept.1 ∙ c.in-Ok.ensures.kept.1) (refl, refl) (g.B.DataBoard.has c.claim.new.self) (g.B.DataBoard.clear c.claim.new.self) c.args.id.number _
    (c.in-Err-put.ensures.err.0, c.in-Err-put.ensures.err.1, c.in-Err-put.ensures.as_many) c.in-Ok.ensures.more.1 less c.in-Ok.ensures.others keeps (c.end_unkept.ensures.kept.0 ∙ c.in-Ok.ensures.more.0) refl
