use Rattle.std.proofs.Common.{sym, ap, subst, ◌∙◌, true≢false}
use Rattle.serde_json.specs.View.{view}
use Rattle.query_match.specs.Matching.{holds}
use Rattle.query_match.specs.Values.{is_key}
use Rattle.query_match.specs.declared.query.Test.TheVariants.{Equals}
use Rattle.shard_docs.specs.Places.{HasAdded}
use Rattle.shard_docs.proofs.Adding.{then_ok}
use Rattle.shard_docs.proofs.AtKey.{at_key}
use Rattle.shard_docs.proofs.Keeping.{not_at_key}
use Rattle.shard_docs.proofs.index.Index.add_member.Goals as goal

pub returns-then-not-is_key-clause-added : goal.returns-then-not-is_key-clause-added
returns-then-not-is_key-clause-added c = λ f v plain here.
    let same = at_key (holds (Equals v)) f c.args.key.now (view c.args.value.now) plain here in
    absurd (true≢false (sym plain ∙ ap is_key same.0 ∙ sym c.is_key.ensures ∙ c.if-not-is_key.true))

pub returns-clause-added : goal.returns-clause-added
returns-clause-added c =
    then_ok c.add_values.result _ _ c.add_values.ensures.added (λ added f v plain here.
    let same = at_key (holds (Equals v)) f c.args.key.now (view c.args.value.now) plain here in
    subst (λ g. HasAdded c.args.place g v c.args.self.now c.add_values.new.self) (sym same.0) (added v same.1))

pub returns-clause-kept : goal.returns-clause-kept
returns-clause-kept c = λ f v none. c.add_values.ensures.kept f v (not_at_key (holds (Equals v)) f c.args.key.now (view c.args.value.now) none)
