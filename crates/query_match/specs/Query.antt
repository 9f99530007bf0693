-- What a query asks, without where it lies in memory.
use Rattle.std.specs.Prelude.{ℕ, List}
use Rattle.query_match.specs.declared.query.Test.{Test}

mutual
  pub data Query : Type 0 where
    match_all : Query
    match_none : Query
    -- something at the field passes the test
    field : List ℕ → Test → Query
    -- the id is one of these
    ids : List (List ℕ) → Query
    -- must, filter, should, must_not, and how many of should
    bool : Queries → Queries → Queries → Queries → ℕ → Query

  pub data Queries : Type 0 where
    no_queries : Queries
    query : Query → Queries → Queries
