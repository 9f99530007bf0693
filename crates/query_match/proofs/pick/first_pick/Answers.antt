use Rattle.std.proofs.Common.{◌≡◌, ℕ, ◌+◌, ◌<◌, true, false, List, ◌∷◌, drop, length, get_or, Option, Some, None, is_some, option_map, rules, refl, sym, ap, ◌∙◌}
use Rattle.std.specs.Option.{option_or}
use Rattle.std.proofs.lemmas.List.{drop_more, drop_all}
use Rattle.query_match.specs.declared.pick.Pick.{Pick}
use Rattle.query_match.specs.declared.query.Node.{Node}
use Rattle.query_match.specs.Picks.{Picked, picked, first_pick}
use Rattle.query_match.specs.View.{queries_view}
use Rattle.query_match.proofs.pick.first_pick.Goals as goal

one_less : (xs : List Node) (i : ℕ) (x : Node) → i < length xs → x ≡ get_or xs i x → drop i xs ≡ x ∷ drop (i + 1) xs
one_less xs i x l e = drop_more xs i x l ∙ ap (λ y. y ∷ drop (i + 1) xs) (sym e)

-- a clause that picks something picks for all
found : (pick : Option Pick) (rest : Option Picked) → true ≡ is_some pick → option_map picked pick ≡ option_or (option_map picked pick) rest
found (Some pick) rest h = refl
found None rest h = absurd cc

-- and one that picks nothing leaves it to the others
passed : (pick : Option Pick) (rest : Option Picked) → is_some pick ≡ false → option_or (option_map picked pick) rest ≡ rest
passed None rest h = refl
passed (Some pick) rest h = absurd cc

pub returns-then-is_some : goal.returns-then-is_some
returns-then-is_some c =
    let nodes = c.args.nodes.now in
    let i = c.loop-node.node-index in
    let rest = first_pick (queries_view (drop (i + 1) nodes)) in
    let here = one_less nodes i c.node-item.result c.loop-node-test.true c.node-item.is in
    found c.term_pick-pick.result rest (sym c.if-is_some.true ∙ c.is_some.ensures) ∙ ap (λ pick. option_or pick rest) c.term_pick-pick.ensures
    ∙ sym (c.loop-node.invariant ∙ ap (λ l. first_pick (queries_view l)) here)

pub loop-node-preserved : goal.loop-node-preserved
loop-node-preserved c =
    let nodes = c.args.nodes.now in
    let i = c.loop-node.node-index in
    let rest = first_pick (queries_view (drop (i + 1) nodes)) in
    let here = one_less nodes i c.node-item.result c.loop-node-test.true c.node-item.is in
    let none : is_some c.term_pick-pick.result ≡ false = search rules in
    c.loop-node.invariant ∙ ap (λ l. first_pick (queries_view l)) here ∙ ap (λ pick. option_or pick rest) (sym c.term_pick-pick.ensures)
    ∙ passed c.term_pick-pick.result rest none

pub returns : goal.returns
returns c = sym (c.loop-node.invariant ∙ ap (λ l. first_pick (queries_view l)) (drop_all c.loop-node.node-index c.args.nodes.now c.loop-node-test.false))
