use Rattle.std.proofs.Common.{◌≡◌, ℕ, true, List, [], ◌∷◌, ap, ◌∙◌, subst, refl}
use Rattle.std.specs.Prelude.{is_some}
use Rattle.serde_json.specs.Data.{Data}
use Rattle.serde_json.specs.Find.{as_object}
use Rattle.serde_json.specs.View.{view}
use Rattle.task_ids.specs.Source.{values_at}
use Rattle.task_ids.specs.declared.source.Member.{Member}
use Rattle.query_match.specs.declared.scalar.Scalar.TheVariants.{Whole}
use Rattle.query_match.specs.Values.{is_key, values_in}
use Rattle.shard_docs.specs.Numbers.{GainsOnly}
use Rattle.shard_docs.specs.declared.numbers.Numbers.{Numbers}
use Rattle.shard_docs.proofs.Gaining.{OfSource, gains_as, gains_both, gains_none}
use Rattle.shard_docs.proofs.OneNumber.{at_key, each_at}
use Rattle.shard_docs.proofs.numbers.Numbers.add.Goals as goal

-- what a member adds is of the row
of_member : (source : Data) (place : ℕ) (x : Member) (key : List ℕ) (first mid next : Numbers) → is_some (as_object source) ≡ true → values_at x.key source ≡ view x.value ∷ [] → key ≡ x.key → GainsOnly (OfSource place source) first mid
    → GainsOnly (λ f n. (f ≡ key) × (is_key f ≡ true) × (n.place ≡ place) × (values_in (view x.value) ≡ Whole n.number ∷ [])) mid next → GainsOnly (OfSource place source) first next
of_member source place x key first mid next is alone named so_far more =
    gains_both (OfSource place source) first mid next so_far
    (gains_as (λ f n. (f ≡ key) × (is_key f ≡ true) × (n.place ≡ place) × (values_in (view x.value) ≡ Whole n.number ∷ [])) (OfSource place source) mid next
    (λ f n has. (has.2, at_key f source (view x.value) n.number has.1 is (ap (λ k. values_at k source) (has.0 ∙ named) ∙ alone) has.3))
    more)

pub loop-member-init : goal.loop-member-init
loop-member-init c = gains_none (OfSource c.args.place c.args.source.now) c.args.self.now

pub returns-then-is_err : goal.returns-then-is_err
returns-then-is_err c =
    let source = c.args.source.now in
    let items = c.members-member-items.result.now in
    let is = subst (λ (d : Data). is_some (as_object d) ≡ true) c.members-member-items.ensures.all refl in
    let alone = each_at (λ (m : Member). values_at m.key source ≡ view m.value ∷ []) items c.loop-member.member-index c.member-item.result c.members-member-items.ensures.alone c.loop-member-test.true c.member-item.is in
    of_member source c.args.place c.member-item.result c.as_str-key.result.now c.args.self.now c.loop-member.self c.add_member.new.self is alone (c.as_str-key.ensures ∙ c.get.ensures) c.loop-member.invariant c.add_member.ensures

pub loop-member-preserved : goal.loop-member-preserved
loop-member-preserved c =
    let source = c.args.source.now in
    let items = c.members-member-items.result.now in
    let is = subst (λ (d : Data). is_some (as_object d) ≡ true) c.members-member-items.ensures.all refl in
    let alone = each_at (λ (m : Member). values_at m.key source ≡ view m.value ∷ []) items c.loop-member.member-index c.member-item.result c.members-member-items.ensures.alone c.loop-member-test.true c.member-item.is in
    of_member source c.args.place c.member-item.result c.as_str-key.result.now c.args.self.now c.loop-member.self c.add_member.new.self is alone (c.as_str-key.ensures ∙ c.get.ensures) c.loop-member.invariant c.add_member.ensures

pub returns : goal.returns
returns c = c.loop-member.invariant
