-- The query that a tree of nodes stands for.
use Rattle.std.specs.Prelude.{List, [], ◌∷◌, map}
use Rattle.query_match.specs.Query.{Query, match_all, match_none, field, ids, bool, Queries, no_queries, query}
use Rattle.query_match.specs.declared.query.Node.{Node, fold-Node}
use Rattle.query_match.specs.declared.query.Node.TheOpen.{Node-F}

abbrev pub queries_of : List Query → Queries
queries_of [] = no_queries
queries_of (q ∷ qs) = query q (queries_of qs)

abbrev pub node_step : Node-F Query → Query
node_step Node-F.All = match_all
node_step Node-F.Nothing = match_none
node_step (Node-F.Field f t) = field f t
node_step (Node-F.Ids xs) = ids xs
node_step (Node-F.Bool must filter should must_not least) = bool (queries_of must.items) (queries_of filter.items) (queries_of should.items) (queries_of must_not.items) least

abbrev pub query_view : Node → Query
query_view = fold-Node Query node_step

abbrev pub queries_view : List Node → Queries
queries_view ns = queries_of (map query_view ns)
