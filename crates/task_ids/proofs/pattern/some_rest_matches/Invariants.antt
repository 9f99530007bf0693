use Rattle.std.proofs.Common.{◌+◌, ◌*◌, length}
use Rattle.task_ids.proofs.LastStar.{Tries}
use Rattle.task_ids.proofs.Patterns.{some_matches}
use Rattle.task_ids.proofs.pattern.some_rest_matches.Given as goal

abbrev pub invariant-loop-byte : goal.invariant-loop-byte
invariant-loop-byte l = Tries (some_matches l.pattern l.text) (length l.text) l.after l.from l.wanted l.rest

abbrev pub decreases-loop-byte : goal.decreases-loop-byte
decreases-loop-byte l = (length l.after + length l.from) * (length l.text + 1) + length l.rest
