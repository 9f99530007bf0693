-- What a query matches.
use Rattle.std.specs.Prelude.{ℕ, ◌+◌, List, Bool, true, false, not, ◌&&◌, nat_eq, nat_le, Option, Some, None, if◌then◌else◌}
use Rattle.std.specs.List.{starts_with, list_any}
use Rattle.std.specs.Option.{option_map_or}
use Rattle.std.specs.declared.cmp.Ordering.{Ordering}
use Rattle.std.specs.Ordering.{nat_cmp, int_cmp, is_gt, is_ge, is_lt, is_le}
use Rattle.std.specs.Cmp.Lexicographic.{slice_cmp}
use Rattle.serde_json.specs.Data.{Data}
use Rattle.query_match.specs.declared.scalar.Scalar.{Scalar}
use Rattle.query_match.specs.declared.scalar.Scalar.TheVariants.{Whole, Text, Bool as Truth}
use Rattle.query_match.specs.declared.query.Test.{Test}
use Rattle.query_match.specs.declared.query.Test.TheVariants.{Equals, OneOf, Within, Starts, Exists}
use Rattle.query_match.specs.declared.query.Range.{Range}
use Rattle.query_match.specs.declared.query.Side.{Side}
use Rattle.query_match.specs.declared.query.Side.TheVariants.{Above, From, Below, To}
use Rattle.query_match.specs.Query.{Query, match_all, match_none, field, ids, bool, Queries, no_queries, query}
use Rattle.query_match.specs.Values.{value_eq, same_bytes, values_in, has_value, held_behind}

-- how two whole numbers or two texts stand to each other
abbrev pub kind_order : Scalar → Scalar → Option Ordering
kind_order (Whole a) (Whole b) = Some (int_cmp a b)
kind_order (Text s) (Text t) = Some (slice_cmp nat_cmp s t)
kind_order (Whole a) (Text t) = None
kind_order (Whole a) (Truth c) = None
kind_order (Text s) (Whole b) = None
kind_order (Text s) (Truth c) = None
kind_order (Truth a) b = None

-- where a value stands that meets a bound of its kind
abbrev pub is_on : Side → Ordering → Bool
is_on Above o = is_gt o
is_on From o = is_ge o
is_on Below o = is_lt o
is_on To o = is_le o

abbrev pub meets : Side → Scalar → Option Scalar → Bool
meets side x None = true
meets side x (Some b) = option_map_or (is_on side) (kind_order x b) false

-- all bounds that are given
abbrev pub is_within : Range → Scalar → Bool
is_within r x = meets Above x r.above && meets From x r.from && meets Below x r.below && meets To x r.to

abbrev pub begins_with : List ℕ → Scalar → Bool
begins_with t (Whole a) = false
begins_with t (Text s) = starts_with nat_eq s t
begins_with t (Truth b) = false

abbrev pub passes : Test → Scalar → Bool
passes (Equals v) x = value_eq x v
passes (OneOf vs) x = list_any (λ v. value_eq x v) vs
passes (Within r) x = is_within r x
passes (Starts t) x = begins_with t x
passes Exists x = true

-- what lies at a field passes: one of its values does, or where it is asked to exist, there is a value in it at any depth
abbrev pub holds : Test → Data → Bool
holds (Equals v) d = list_any (passes (Equals v)) (values_in d)
holds (OneOf vs) d = list_any (passes (OneOf vs)) (values_in d)
holds (Within r) d = list_any (passes (Within r)) (values_in d)
holds (Starts t) d = list_any (passes (Starts t)) (values_in d)
holds Exists d = has_value d

abbrev mutual
  -- the document of this id and source matches the query
  pub matches : Query → List ℕ → Data → Bool
  matches match_all id source = true
  matches match_none id source = false
  matches (field f t) id source = list_any (holds t) (held_behind f source)
  matches (ids ts) id source = list_any (same_bytes id) ts
  matches (bool must filter should must_not least) id source =
      all_match must id source && all_match filter id source && none_matches must_not id source && nat_le least (match_count should id source)

  pub all_match : Queries → List ℕ → Data → Bool
  all_match no_queries id source = true
  all_match (query q qs) id source = matches q id source && all_match qs id source

  pub none_matches : Queries → List ℕ → Data → Bool
  none_matches no_queries id source = true
  none_matches (query q qs) id source = not (matches q id source) && none_matches qs id source

  pub match_count : Queries → List ℕ → Data → ℕ
  match_count no_queries id source = 0
  match_count (query q qs) id source = (if matches q id source then 1 else 0) + match_count qs id source
