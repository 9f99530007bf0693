-- The first member of this key is the only one.
use Rattle.std.proofs.Common.{◌≡◌, true, false, ap, sym, subst, ◌∙◌, rules}
use Rattle.std.specs.Bool.{nat_eq}
use Rattle.std.specs.Cmp.Lexicographic.{pointwise}
use Rattle.std.specs.Option.{option_to_list}
use Rattle.serde_json.specs.Data.{Data, object}
use Rattle.serde_json.specs.Find.{get}
use Rattle.task_ids.specs.Source.{members_in, values_at}
use Rattle.task_ids.proofs.Members.{once, one_look}
use Rattle.task_ids.proofs.source.DocSource.get.Goals as goal

pub returns-then-eq-clause-found : goal.returns-then-eq-clause-found
returns-then-eq-clause-found c =
    let same = sym c.if-eq.true ∙ c.eq.ensures ∙ ap (pointwise nat_eq c.args.key.now) (c.as_str.ensures ∙ c.get-in-loop-member.ensures) in
    let here = one_look c.args.key.now c.as_slice-member-items.result.now c.loop-member.member-index c.member-item.result true c.loop-member-test.true c.member-item.is same in
    let whole : object (members_in c.as_slice-member-items.result.now) ≡ c.args.self.now = search rules in
    sym here ∙ c.loop-member.invariant ∙ ap (get c.args.key.now) whole

pub returns-then-eq-clause-alone : goal.returns-then-eq-clause-alone
returns-then-eq-clause-alone c =
    let whole : object (members_in c.self.inside.members) ≡ c.args.self.now = search rules in
    subst (λ (d : Data). values_at c.args.key.now d ≡ option_to_list (get c.args.key.now d)) whole (once c.args.key.now c.self.inside.members c.self.invariant.1)

pub loop-member-preserved : goal.loop-member-preserved
loop-member-preserved c =
    let same = sym c.if-eq.false ∙ c.eq.ensures ∙ ap (pointwise nat_eq c.args.key.now) (c.as_str.ensures ∙ c.get-in-loop-member.ensures) in
    let here = one_look c.args.key.now c.as_slice-member-items.result.now c.loop-member.member-index c.member-item.result false c.loop-member-test.true c.member-item.is same in
    sym here ∙ c.loop-member.invariant

pub returns-clause-alone : goal.returns-clause-alone
returns-clause-alone c =
    let whole : object (members_in c.self.inside.members) ≡ c.args.self.now = search rules in
    subst (λ (d : Data). values_at c.args.key.now d ≡ option_to_list (get c.args.key.now d)) whole (once c.args.key.now c.self.inside.members c.self.invariant.1)
