use Rattle.std.proofs.Common.{◌≡◌, ap, ◌∙◌, reverse, arith}
use Rattle.std.specs.List.{after_first}
use Rattle.task_events.specs.Turns.{is_begin}
use Rattle.line_print.proofs.TurnLemmas.{turn_more, rest_more}
use Rattle.line_print.proofs.turns.turns_of.Goals as goal

pub loop-preserved : goal.loop-preserved
loop-preserved c = record {
  told = rw c.in_ok-push.ensures.items (turn_more _ _ _ c.loop.counter c.args.history.now c.loop.invariant.told c.loop.invariant.left c.in_ok-next_turn.ensures.turn);
  left = c.in_ok-next_turn.ensures.after ∙ ap (after_first is_begin) c.loop.invariant.left ∙ rest_more c.loop.counter (reverse c.args.history.now);
  rest = c.in_ok-next_turn.ensures.rest;
  ends = c.in_ok-next_turn.ensures.ends;
}

pub returns-clause-turns : goal.returns-clause-turns
returns-clause-turns c =
    let same : c.loop.counter ≡ c.args.commands = omega arith in
    rw (c.in_ok-push-2.ensures.items, ← same) (turn_more _ _ _ c.loop.counter c.args.history.now c.loop.invariant.told c.loop.invariant.left c.in_ok-next_turn-2.ensures.turn)
