use Rattle.std.proofs.Common.{◌∙◌}
use Rattle.task_ids.specs.Pattern.{matches_pattern}
use Rattle.task_ids.proofs.Patterns.{by_test}
use Rattle.task_ids.proofs.pattern.matches_pattern.Goals as goal

pub returns-clause-replaced : goal.returns-clause-replaced
returns-clause-replaced c = by_test c.bytes_match.result c.args.pattern.now c.args.text.now
    (c.bytes_match.ensures ∙ (λ i. matches_pattern (c.as_bytes.ensures.value i) (c.as_bytes-2.ensures.value i)))
