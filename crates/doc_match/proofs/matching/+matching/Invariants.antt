use Rattle.std.proofs.Common.{◌≡◌, drop}
use Rattle.std.specs.Prelude.{nat_le}
use Rattle.query_match.specs.Matching.{all_match, none_matches, match_count}
use Rattle.query_match.specs.View.{queries_view}
use Rattle.doc_match.proofs.matching.+matching.Given as goal

abbrev pub invariant-all_match-loop-node : goal.invariant-all_match-loop-node
invariant-all_match-loop-node l = all_match (queries_view l.nodes) l.id l.source ≡ all_match (queries_view (drop l.node-index l.nodes)) l.id l.source

abbrev pub invariant-none_matches-loop-node : goal.invariant-none_matches-loop-node
invariant-none_matches-loop-node l = none_matches (queries_view l.nodes) l.id l.source ≡ none_matches (queries_view (drop l.node-index l.nodes)) l.id l.source

abbrev pub invariant-enough_match-loop-node : goal.invariant-enough_match-loop-node
invariant-enough_match-loop-node l =
    nat_le l.least (match_count (queries_view l.nodes) l.id l.source) ≡ nat_le l.missing (match_count (queries_view (drop l.node-index l.nodes)) l.id l.source)
