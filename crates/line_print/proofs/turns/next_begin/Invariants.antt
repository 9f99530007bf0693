use Rattle.std.proofs.Common.{◌≡◌, ◌+◌, ◌≤◌, reverse, drop}
use Rattle.std.specs.List.{position_or_len}
use Rattle.task_events.specs.Turns.{is_begin}
use Rattle.line_print.specs.Ends.{AreEndsOfFirst}
use Rattle.line_print.proofs.turns.next_begin.Given as goal

-- no command began so far
abbrev pub invariant-loop-at : goal.invariant-loop-at
invariant-loop-at l = record {
  later : l.from ≤ l.at;
  none : l.from + position_or_len is_begin (drop l.from (reverse l.history)) ≡ l.at + position_or_len is_begin (drop l.at (reverse l.history));
  ends : AreEndsOfFirst l.at (reverse l.history) l.ends;
}
