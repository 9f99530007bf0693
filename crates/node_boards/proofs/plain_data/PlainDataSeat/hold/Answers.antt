-- A free place is taken.
use Rattle.std.proofs.Common.{arith, ◌≡◌, true}
use Rattle.node_boards.proofs.Tickets.{more_held, apart_more, clear_more}
use Rattle.node_boards.proofs.plain_data.PlainDataSeat.hold.Goals as goal

pub invariant_of-self-clause-apart : goal.invariant_of-self-clause-apart
invariant_of-self-clause-apart g c = let r = c.requires.room in apart_more _ _ _ r.0 r.1 r.2 c.args.self.now.apart

pub returns-clause-more : goal.returns-clause-more
returns-clause-more g c = let r = c.requires.room in more_held _ _ _ r.0 r.1 r.2

pub returns-clause-root : goal.returns-clause-root
returns-clause-root g c = λ root. let r = c.requires.room in let known = rw root at c.is_none.ensures in
    let is : c.is_none.result ≡ true = grind arith in clear_more _ _ _ r.0 r.1 r.2 is
