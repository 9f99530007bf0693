use Rattle.std.proofs.Common.{◌+◌, length, arith}
use Rattle.line_print.proofs.TurnLemmas.{many_turns, turn_lent}
use Rattle.line_print.proofs.run.Run.turn.Goals as goal

pub index-requires : goal.index-requires
index-requires c =
    omega (arith, many_turns c.args.self.now.turns.items (length c.args.self.now.script.now + 1) c.args.self.now.history.now c.requires.ready.turns)

pub returns : goal.returns
returns c =
    turn_lent c.args.self.now.turns.items (length c.args.self.now.script.now + 1) c.args.command c.args.self.now.history.now c.index.result.now c.requires.ready.turns (omega arith) c.index.ensures
