use Rattle.std.proofs.Common.{◌≡◌, map, reverse, length}
use Rattle.std.specs.List.{range_with_len}
use Rattle.task_events.specs.Turns.{events_of}
use Rattle.line_print.specs.Ends.{AreEndsBefore, IsRest}
use Rattle.line_print.proofs.TurnLemmas.{rest_at}
use Rattle.line_print.proofs.turns.turns_of.Given as goal

-- the turns so far, and what comes after as many beginnings
abbrev pub invariant-loop : goal.invariant-loop
invariant-loop l = record {
  told : l.turns.items ≡ map (λ k. events_of k l.history) (range_with_len 0 l.counter);
  left : l.rest ≡ rest_at l.counter (reverse l.history);
  rest : IsRest l.history l.rest;
  ends : AreEndsBefore l.history l.rest l.ends;
}

-- what comes after the last of these commands
abbrev pub invariant-loop-rest : goal.invariant-loop-rest
invariant-loop-rest l = record {
  rest : IsRest l.history l.rest;
  ends : AreEndsBefore l.history l.rest l.ends;
}

abbrev pub decreases-loop-rest : goal.decreases-loop-rest
decreases-loop-rest l = length l.rest
