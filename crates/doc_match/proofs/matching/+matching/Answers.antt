-- A loop goes on from one node to those after it.
use Rattle.std.proofs.Common.{◌≡◌, ℕ, ◌+◌, ◌<◌, List, ◌∷◌, true, false, sym, ap, ◌∙◌, rules, drop, length, get_or}
use Rattle.std.specs.Prelude.{◌&&◌, not}
use Rattle.std.proofs.lemmas.List.{drop_more, drop_all}
use Rattle.query_match.specs.declared.query.Node.{Node}
use Rattle.query_match.specs.Matching.{all_match, none_matches}
use Rattle.query_match.specs.View.{queries_view}
use Rattle.doc_match.proofs.matching.+matching.Goals as goal

one_less : (xs : List Node) (i : ℕ) (x : Node) → i < length xs → x ≡ get_or xs i x → drop i xs ≡ x ∷ drop (i + 1) xs
one_less xs i x l e = drop_more xs i x l ∙ ap (λ y. y ∷ drop (i + 1) xs) (sym e)

pub all_match-returns-then-not-node_matches : goal.all_match-returns-then-not-node_matches
all_match-returns-then-not-node_matches t c =
    let nodes = c.args.nodes.now in
    let i = c.loop-node.node-index in
    let id = c.args.id.now in
    let source = c.args.source.now in
    let here = one_less nodes i c.node-item.result c.loop-node-test.true c.node-item.is in
    let no : c.node_matches.result ≡ false = search rules in
    sym (c.loop-node.invariant ∙ ap (λ l. all_match (queries_view l) id source) here
    ∙ ap (λ b. b && all_match (queries_view (drop (i + 1) nodes)) id source) (sym c.node_matches.ensures ∙ no))

pub all_match-loop-node-preserved : goal.all_match-loop-node-preserved
all_match-loop-node-preserved t c =
    let nodes = c.args.nodes.now in
    let i = c.loop-node.node-index in
    let id = c.args.id.now in
    let source = c.args.source.now in
    let here = one_less nodes i c.node-item.result c.loop-node-test.true c.node-item.is in
    let yes : c.node_matches.result ≡ true = search rules in
    c.loop-node.invariant ∙ ap (λ l. all_match (queries_view l) id source) here
    ∙ ap (λ b. b && all_match (queries_view (drop (i + 1) nodes)) id source) (sym c.node_matches.ensures ∙ yes)

pub all_match-returns : goal.all_match-returns
all_match-returns t c =
    sym (c.loop-node.invariant ∙ ap (λ l. all_match (queries_view l) c.args.id.now c.args.source.now) (drop_all c.loop-node.node-index c.args.nodes.now c.loop-node-test.false))

pub none_matches-returns-then-node_matches : goal.none_matches-returns-then-node_matches
none_matches-returns-then-node_matches t c =
    let nodes = c.args.nodes.now in
    let i = c.loop-node.node-index in
    let id = c.args.id.now in
    let source = c.args.source.now in
    let here = one_less nodes i c.node-item.result c.loop-node-test.true c.node-item.is in
    sym (c.loop-node.invariant ∙ ap (λ l. none_matches (queries_view l) id source) here
    ∙ ap (λ b. not b && none_matches (queries_view (drop (i + 1) nodes)) id source) (sym c.node_matches.ensures ∙ c.if-node_matches.true))

pub none_matches-loop-node-preserved : goal.none_matches-loop-node-preserved
none_matches-loop-node-preserved t c =
    let nodes = c.args.nodes.now in
    let i = c.loop-node.node-index in
    let id = c.args.id.now in
    let source = c.args.source.now in
    let here = one_less nodes i c.node-item.result c.loop-node-test.true c.node-item.is in
    c.loop-node.invariant ∙ ap (λ l. none_matches (queries_view l) id source) here
    ∙ ap (λ b. not b && none_matches (queries_view (drop (i + 1) nodes)) id source) (sym c.node_matches.ensures ∙ c.if-node_matches.false)

pub none_matches-returns : goal.none_matches-returns
none_matches-returns t c =
    sym (c.loop-node.invariant ∙ ap (λ l. none_matches (queries_view l) c.args.id.now c.args.source.now) (drop_all c.loop-node.node-index c.args.nodes.now c.loop-node-test.false))
