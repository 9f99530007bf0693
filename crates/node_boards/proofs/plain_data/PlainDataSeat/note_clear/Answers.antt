-- The ticket is the same but for its check.
use Rattle.std.proofs.Common.{refl}
use Rattle.node_boards.proofs.Tickets.{apart_within, now_clear, same_held, clear_unless, none_held}
use Rattle.node_boards.proofs.plain_data.PlainDataSeat.note_clear.Goals as goal

pub invariant_of-self-clause-apart : goal.invariant_of-self-clause-apart
invariant_of-self-clause-apart g c = let at = rw c.deref.ensures.value at c.in-Some.ensures in apart_within _ _ _ _ at c.args.self.now.apart _ (λ m is. is)

pub returns-in-Some-clause-clear : goal.returns-in-Some-clause-clear
returns-in-Some-clause-clear g c = let at = rw c.deref.ensures.value at c.in-Some.ensures in now_clear _ _ _ _ at c.args.self.now.apart _ refl refl refl

pub returns-in_default-clause-clear : goal.returns-in_default-clause-clear
returns-in_default-clause-clear g c = let none = rw c.deref.ensures.value at c.in_default.ensures in λ i. clear_unless _ _ (none_held _ _ none i)
