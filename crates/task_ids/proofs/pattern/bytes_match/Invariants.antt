use Rattle.std.proofs.Common.{◌≡◌, length}
use Rattle.task_ids.specs.Pattern.{matches_pattern}
use Rattle.task_ids.proofs.pattern.bytes_match.Given as goal

-- what is left of the text matches what is left of the pattern exactly where the whole does
abbrev pub invariant-loop-first : goal.invariant-loop-first
invariant-loop-first l = matches_pattern l.wanted l.rest ≡ matches_pattern l.pattern l.text

abbrev pub decreases-loop-first : goal.decreases-loop-first
decreases-loop-first l = length l.wanted
