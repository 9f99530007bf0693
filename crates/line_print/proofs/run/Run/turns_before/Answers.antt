use Rattle.std.proofs.Common.{◌≤◌, ◌+◌, length, arith, sym, ap}
use Rattle.std.proofs.lemmas.List.{length-take-le}
use Rattle.line_print.proofs.TurnLemmas.{many_turns, told_in}
use Rattle.line_print.proofs.run.Run.turns_before.Goals as goal

pub slice_bounds-result-end : goal.slice_bounds-result-end
slice_bounds-result-end c =
    let within : c.args.command ≤ length c.deref.result.now =
    omega (arith, ap length c.deref.ensures.value, many_turns c.args.self.now.turns.items (length c.args.self.now.script.now + 1) c.args.self.now.history.now c.requires.ready.turns) in
    sym (length-take-le c.args.command c.deref.result.now within)

pub returns : goal.returns
returns c =
    rw c.deref.ensures.value
    (told_in c.args.self.now.turns.items (length c.args.self.now.script.now + 1) c.args.command c.args.self.now.history.now c.requires.ready.turns (omega arith))
