-- The ban is the same but for its listing.
use Rattle.std.proofs.lemmas.Grind.{common_steps}
use Rattle.std.proofs.Common.{arith, ◌≡◌, Option, Some, subst, sym}
use Rattle.node_boards.specs.PlainSeats.{IsBan, placed}
use Rattle.node_boards.specs.declared.plain_rows.Placed.{Placed}
use Rattle.node_boards.proofs.PlacedBans.{one_each_within}
use Rattle.node_boards.proofs.plain_control.PlainControlSeat.note_listed.Goals as goal

pub invariant_of-self-clause-one_each : goal.invariant_of-self-clause-one_each
invariant_of-self-clause-one_each g c =
    let there : placed c.args.self.now.bans.items c.args.place ≡ Some c.in-Some.ban = grind (arith, common_steps) in
    one_each_within _ _ _ c.requires c.args.self.now.one_each (λ p k is. let P : Option Placed → Type 0 = λ b. IsBan p k b in subst P (sym there) is)
