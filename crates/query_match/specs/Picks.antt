-- A value that every document that matches a query has at a field.
use Rattle.std.specs.Prelude.{ℕ, List, Bool, true, false, Option, Some, None, if◌then◌else◌}
use Rattle.std.specs.List.{list_any}
use Rattle.std.specs.Option.{option_or}
use Rattle.serde_json.specs.Data.{Data}
use Rattle.query_match.specs.declared.pick.Pick.{Pick}
use Rattle.query_match.specs.declared.query.Test.TheVariants.{Equals}
use Rattle.query_match.specs.declared.scalar.Scalar.{Scalar}
use Rattle.query_match.specs.Matching.{holds}
use Rattle.query_match.specs.Query.{Query, match_all, field, bool, Queries, no_queries, query}
use Rattle.query_match.specs.Values.{held_behind, is_key}

-- a field without a dot, and a value
pub record Picked : Type 0 where
  pub field : List ℕ
  pub value : Scalar

abbrev pub picked : Pick → Picked
picked p = record { field = p.field.now; value = p.value.now }

-- what a term on a field without a dot picks
abbrev pub term_pick : Query → Option Picked
term_pick (field f (Equals v)) = if is_key f then Some (record { field = f; value = v }) else None
term_pick _ = None

-- what the first of some clauses picks that is such a term
abbrev pub first_pick : Queries → Option Picked
first_pick no_queries = None
first_pick (query q qs) = option_or (term_pick q) (first_pick qs)

-- What a query picks: a term itself, and a bool by the first such term that must match, of its must before its filter.
abbrev pub pick_of : Query → Option Picked
pick_of (bool must filter should must_not least) = option_or (first_pick must) (first_pick filter)
pick_of q = term_pick q

-- where something is picked, the source has that value at that field
abbrev pub has_picked : Option Picked → Data → Bool
has_picked None source = true
has_picked (Some p) source = list_any (holds (Equals p.value)) (held_behind p.field source)

-- it matches each document that has what it picks
abbrev pub is_its_pick : Query → Bool
is_its_pick match_all = true
is_its_pick (field f (Equals v)) = is_key f
is_its_pick _ = false
