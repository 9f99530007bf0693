use Rattle.std.proofs.Common.{ap, ◌∙◌}
use Rattle.std.specs.List.{list_any}
use Rattle.query_match.specs.Matching.{holds}
use Rattle.query_match.specs.Values.{held_behind}
use Rattle.query_match.specs.declared.query.Test.TheVariants.{Equals}
use Rattle.shard_docs.proofs.Adding.{then_ok}
use Rattle.shard_docs.proofs.index.Index.add.Goals as goal

pub returns-clause-added : goal.returns-clause-added
returns-clause-added c =
    then_ok c.add_members.result _ _ c.add_members.ensures.added (λ added f v plain here. added f v plain (ap (λ d. list_any (holds (Equals v)) (held_behind f d)) c.members.ensures.all ∙ here))

pub returns-clause-kept : goal.returns-clause-kept
returns-clause-kept c = λ f v none. c.add_members.ensures.kept f v (ap (λ d. list_any (holds (Equals v)) (held_behind f d)) c.members.ensures.all ∙ none)
