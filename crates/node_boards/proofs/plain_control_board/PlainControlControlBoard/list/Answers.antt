-- The numbers that are handed over are marked, and no others but those that were before.
use Rattle.node_boards.proofs.Marking.{listed_known, listed_only}
use Rattle.node_boards.proofs.plain_control_board.PlainControlControlBoard.list.Goals as goal

pub returns-clause-handed : goal.returns-clause-handed
returns-clause-handed g c = λ n there. rw c.note_listed.ensures.kept.0
    (listed_known c.deref_mut.result.now c.list-count.new.table c.args.self.now.seat.marked.items c.list-count.new.self.marked.items c.list-count.result c.list-count.new.found c.args.place c.list-count.ensures.lists n there)

pub returns-clause-marks : goal.returns-clause-marks
returns-clause-marks g c = λ n is.
    listed_only c.deref_mut.result.now c.list-count.new.table c.args.self.now.seat.marked.items c.list-count.new.self.marked.items c.list-count.result c.list-count.new.found c.args.place c.list-count.ensures.lists n (rw c.note_listed.ensures.kept.0 at is)

pub returns-clause-bans : goal.returns-clause-bans
returns-clause-bans g c = rw c.list-count.ensures.bans.0 at c.note_listed.ensures.bans
