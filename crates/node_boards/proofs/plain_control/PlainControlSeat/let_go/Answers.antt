-- The place of the ban is free again.
use Rattle.node_boards.proofs.PlacedBans.{one_each_within, less_bans, none_less, not_placed, had_ban}
use Rattle.node_boards.proofs.plain_control.PlainControlSeat.let_go.Goals as goal

pub invariant_of-self-clause-one_each : goal.invariant_of-self-clause-one_each
invariant_of-self-clause-one_each g c = let at = rw c.deref.ensures.value at c.in-Some.ensures in one_each_within _ _ _ at.0 c.args.self.now.one_each (λ p k is. absurd is)

pub returns-in-Some-clause-had : goal.returns-in-Some-clause-had
returns-in-Some-clause-had g c = let at = rw c.deref.ensures.value at c.in-Some.ensures in had_ban _ _ _ _ at

pub returns-in-Some-clause-gone : goal.returns-in-Some-clause-gone
returns-in-Some-clause-gone g c = let at = rw c.deref.ensures.value at c.in-Some.ensures in less_bans _ _ _ _ at c.args.self.now.one_each

pub returns-in-None-clause-had : goal.returns-in-None-clause-had
returns-in-None-clause-had g c = let none = rw c.deref.ensures.value at c.in-None.ensures in not_placed _ _ none

pub returns-in-None-clause-gone : goal.returns-in-None-clause-gone
returns-in-None-clause-gone g c = let none = rw c.deref.ensures.value at c.in-None.ensures in none_less _ _ (not_placed _ _ none)
