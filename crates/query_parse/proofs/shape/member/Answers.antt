use Rattle.std.proofs.Common.{true, false, ap, sym, ◌∙◌}
use Rattle.std.specs.Bool.{nat_eq}
use Rattle.std.specs.Cmp.Lexicographic.{pointwise}
use Rattle.query_parse.proofs.Shapes.{one_look}
use Rattle.query_parse.proofs.shape.member.Goals as goal

pub returns-then-eq : goal.returns-then-eq
returns-then-eq c =
    let same = sym c.if-eq.true ∙ c.eq.ensures ∙ ap (pointwise nat_eq c.args.name.now) c.as_str.ensures in
    sym (one_look c.args.name.now c.args.members.now c.loop-member.member-index c.member-item.result true c.loop-member-test.true c.member-item.is same) ∙ c.loop-member.invariant

pub loop-member-preserved : goal.loop-member-preserved
loop-member-preserved c =
    let same = sym c.if-eq.false ∙ c.eq.ensures ∙ ap (pointwise nat_eq c.args.name.now) c.as_str.ensures in
    sym (one_look c.args.name.now c.args.members.now c.loop-member.member-index c.member-item.result false c.loop-member-test.true c.member-item.is same) ∙ c.loop-member.invariant
