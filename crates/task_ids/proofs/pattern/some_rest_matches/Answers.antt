use Rattle.std.proofs.Common.{◌∷◌, ap, ◌∙◌}
use Rattle.task_ids.proofs.LastStar.{at_start, at_star, at_byte, at_miss, missed_byte, missed_end, at_end}
use Rattle.task_ids.proofs.pattern.some_rest_matches.Goals as goal
use Rattle.task_ids.proofs.pattern.some_rest_matches.Goals.{in_default-split_first-via-in-Some-2+else-first-byte, in_default-split_first-via-in_default-split_first}

pub loop-byte-init : goal.loop-byte-init
loop-byte-init c = at_start c.args.pattern.now c.args.text.now

pub loop-byte-preserved-then-first-eq42 : goal.loop-byte-preserved-then-first-eq42
loop-byte-preserved-then-first-eq42 c =
    at_star _ _ c.loop-byte.after.now c.loop-byte.from.now c.loop-byte.wanted.now c.loop-byte.rest.now c.in-Some-split_first.more.now
    (c.in-Some-split_first.ensures.cases.0 ∙ ap (λ b. b ∷ c.in-Some-split_first.more.now) c.if-first-eq42.true) c.loop-byte.invariant

pub loop-byte-preserved-then-first-byte : goal.loop-byte-preserved-then-first-byte
loop-byte-preserved-then-first-byte c =
    at_byte _ _ c.loop-byte.after.now c.loop-byte.from.now c.loop-byte.wanted.now c.loop-byte.rest.now c.in-Some-split_first.more.now c.in-Some.later.now c.in-Some-split_first.first.now c.in-Some.byte.now
    c.in-Some-split_first.ensures.cases.0 c.in-Some.ensures.cases.0 c.if-first-eq42.false c.if-first-byte.true c.loop-byte.invariant

pub loop-byte-preserved : goal.loop-byte-preserved
loop-byte-preserved c =
    at_miss _ _ c.loop-byte.after.now c.loop-byte.from.now c.loop-byte.wanted.now c.loop-byte.rest.now c.after_first-from.result.now c.after_first-from.ensures
    (elim c.in_default-split_first.branch [
      | in_default-split_first-via-in-Some-2+else-first-byte w ↦ missed_byte c.loop-byte.wanted.now c.loop-byte.rest.now w.in-Some-split_first.more.now c.in-Some.later.now w.in-Some-split_first.first.now c.in-Some.byte.now
          w.in-Some-split_first.ensures.cases.0 c.in-Some.ensures.cases.0 w.if-first-eq42.false w.if-first-byte.false
      | in_default-split_first-via-in_default-split_first w ↦ missed_end c.loop-byte.wanted.now c.loop-byte.rest.now c.in-Some.later.now c.in-Some.byte.now w.in_default-split_first.ensures.cases c.in-Some.ensures.cases.0
    ]) c.loop-byte.invariant

pub returns : goal.returns
returns c = c.all_stars.ensures ∙ at_end _ _ c.loop-byte.after.now c.loop-byte.from.now c.loop-byte.wanted.now c.loop-byte.rest.now c.in_default.ensures.cases c.loop-byte.invariant
