-- The place of the ticket is free again.
use Rattle.std.proofs.Common.{ℕ}
use Rattle.node_boards.proofs.Lookups.{none_less}
use Rattle.node_boards.proofs.Tickets.{apart_within, less_held, none_has}
use Rattle.node_boards.proofs.plain_data.PlainDataSeat.let_go.Goals as goal

pub invariant_of-self-clause-apart : goal.invariant_of-self-clause-apart
invariant_of-self-clause-apart g c = let at = rw c.deref.ensures.value at c.in-Some.ensures in apart_within _ _ _ _ at c.args.self.now.apart _ (λ m is. absurd is)

pub returns-in-Some-clause-gone : goal.returns-in-Some-clause-gone
returns-in-Some-clause-gone g c = let at = rw c.deref.ensures.value at c.in-Some.ensures in less_held _ _ _ _ at c.args.self.now.apart

pub returns-in_default-clause-gone : goal.returns-in_default-clause-gone
returns-in_default-clause-gone g c = let none = rw c.deref.ensures.value at c.in_default.ensures in none_less _ _ (none_has _ _ none)
