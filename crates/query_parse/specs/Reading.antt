-- The query that a JSON value is, or the first fault in it: depth first, an object's keys in the order of their bytes.
use Rattle.std.specs.Prelude.{ℕ, ◌+◌, List, [], ◌∷◌, ◌++◌, Bool, true, false, not, ◌&&◌, Option, Some, None, option_and_then, Result, Ok, Err, nat_le, if◌then◌else◌, codes, decimal}
use Rattle.std.specs.List.{list_all, list_any}
use Rattle.std.specs.Ordering.{nat_cmp, match_ordering}
use Rattle.std.specs.Cmp.Lexicographic.{slice_cmp}
use Rattle.serde_json.specs.Data.{Data, null, boolean, number, string, array, object, Items, no_items, item, Members, no_members, member}
use Rattle.serde_json.specs.Find.{get_member, as_array, as_object, as_str, as_number, as_u64}
use Rattle.query_match.specs.declared.scalar.Scalar.{Scalar}
use Rattle.query_match.specs.declared.query.Test.{Test}
use Rattle.query_match.specs.declared.query.Test.TheVariants.{Equals, OneOf, Within, Starts, Exists}
use Rattle.query_match.specs.declared.query.Range.{Range}
use Rattle.query_parse.specs.declared.fault.QueryFault.TheVariants.{UnknownQuery, BadValue, NotOneKey}
use Rattle.query_parse.specs.declared.fault.QueryError.{QueryError}
use Rattle.query_parse.specs.declared.fault.QueryError.TheVariants.{Bad}
use Rattle.query_parse.specs.declared.form.Form.{Form}
use Rattle.query_parse.specs.declared.form.Form.TheVariants as forms
use Rattle.query_parse.specs.declared.leaf.Asked.{Asked}
use Rattle.query_parse.specs.declared.leaf.Asked.TheVariants as asked
use Rattle.query_match.specs.Query.{Query, match_all, match_none, field, ids, bool, Queries, no_queries, query}
use Rattle.query_match.specs.Values.{same_bytes, value_of}
use Rattle.query_parse.specs.Answers.{◌>>=◌}

-- ---- paths: keys and places of lists, joined by dots

abbrev pub under : List ℕ → List ℕ → List ℕ
under path key = path ++ codes "." ++ key

abbrev pub bad_value : {A : Type 0} → List ℕ → Result A QueryError
bad_value path = Err (Bad path BadValue)

abbrev pub needs : {A : Type 0} → List ℕ → Option A → Result A QueryError
needs path (Some x) = Ok x
needs path None = bad_value path

abbrev pub expects : List ℕ → Bool → Result (Unit {0}) QueryError
expects path true = Ok tt
expects path false = bad_value path

-- ---- shapes

abbrev pub member_keys : Members → List (List ℕ)
member_keys no_members = []
member_keys (member k d ms) = k ∷ member_keys ms

-- the key and the value, where there is one key
abbrev pub only_entry : Members → Option (List ℕ × Data)
only_entry no_members = None
only_entry (member k d no_members) = Some (k, d)
only_entry (member k d (member l e ms)) = None

abbrev pub only_member : Data → Option (List ℕ × Data)
only_member d = option_and_then only_entry (as_object d)

-- the value of an object with this key alone
abbrev pub only_named : List ℕ → Data → Option Data
only_named name d = option_and_then (λ m. if same_bytes m.0 name then Some m.1 else None) (only_member d)

-- `v` and its path, for `v` or `{"value": v}` at a path
abbrev pub value_inside : List ℕ → Data → Option Data → List ℕ × Data
value_inside path d None = (path, d)
value_inside path d (Some v) = (under path (codes "value"), v)

abbrev pub unwrapped : List ℕ → Data → List ℕ × Data
unwrapped path d = value_inside path d (only_named (codes "value") d)

-- ---- queries that hold no query

-- whether a name is one of some
abbrev pub is_one_of : List (List ℕ) → List ℕ → Bool
is_one_of names name = list_any (same_bytes name) names

abbrev pub is_bound_name : List ℕ → Bool
is_bound_name = is_one_of (codes "gt" ∷ codes "gte" ∷ codes "lt" ∷ codes "lte" ∷ [])

-- a whole number or a text
abbrev pub bound_of : Data → Option Scalar
bound_of (boolean b) = None
bound_of d = value_of d

-- each item of a list, in order
unfoldable pub each_at : {A : Type 0} → (Data → Option A) → List ℕ → ℕ → Items → Result (List A) QueryError
each_at reads path i no_items = Ok []
each_at reads path i (item d ds) = do
  x ← needs (under path (decimal i)) (reads d)
  xs ← each_at reads path (i + 1) ds
  Ok (x ∷ xs)

unfoldable pub empty_at : List ℕ → Data → Result (Unit {0}) QueryError
empty_at path (object no_members) = Ok tt
empty_at path _ = bad_value path

-- `v` or `{"value": v}`, at the path of a field
unfoldable pub equals_at : List ℕ → Data → Result Test QueryError
equals_at path d = do
  v ← needs (unwrapped path d).0 (value_of (unwrapped path d).1)
  Ok (Equals v)

-- `[v, v]`, at the path of a field
unfoldable pub one_of_at : List ℕ → Data → Result Test QueryError
one_of_at path d = do
  ds ← needs path (as_array d)
  vs ← each_at value_of path 0 ds
  Ok (OneOf vs)

abbrev pub optional_at : {A : Type 0} → (Data → Option A) → List ℕ → Option Data → Result (Option A) QueryError
optional_at reads path None = Ok None
optional_at reads path (Some d) = do
  x ← needs path (reads d)
  Ok (Some x)

unfoldable pub bound_at : List ℕ → List ℕ → Members → Result (Option Scalar) QueryError
bound_at path name ms = optional_at bound_of (under path name) (get_member name ms)

-- the strict and the weak bound of one side, each if it is there
unfoldable pub side_at : List ℕ → (strict weak : List ℕ) → Members → Result (Option Scalar × Option Scalar) QueryError
side_at path strict weak ms = do
  first ← bound_at path strict ms
  second ← bound_at path weak ms
  Ok (first, second)

abbrev pub range_of : Option Scalar × Option Scalar → Option Scalar × Option Scalar → Range
range_of low high = record { above = low.0; from = low.1; below = high.0; to = high.1 }

unfoldable pub bounds_at : List ℕ → Members → Result Range QueryError
bounds_at path ms = do
  _ ← expects path (list_all is_bound_name (member_keys ms))
  low ← side_at path (codes "gt") (codes "gte") ms
  high ← side_at path (codes "lt") (codes "lte") ms
  Ok (range_of low high)

-- `{"gte", "gt", "lte", "lt"}`, at the path of a field
unfoldable pub within_at : List ℕ → Data → Result Test QueryError
within_at path d = do
  ms ← needs path (as_object d)
  range ← bounds_at path ms
  Ok (Within range)

-- `t` or `{"value": t}`, at the path of a field
unfoldable pub starts_at : List ℕ → Data → Result Test QueryError
starts_at path d = do
  front ← needs (unwrapped path d).0 (as_str (unwrapped path d).1)
  Ok (Starts front)

-- what a query asks of a field, from what stands at the field
abbrev pub test_at : Asked → List ℕ → Data → Result Test QueryError
test_at asked.Equal path d = equals_at path d
test_at asked.OneOf path d = one_of_at path d
test_at asked.Within path d = within_at path d
test_at asked.Start path d = starts_at path d

-- a query of one field, the key of its object
unfoldable pub field_at : Asked → List ℕ → Data → Result Query QueryError
field_at asks path d = do
  m ← needs path (only_member d)
  t ← test_at asks (under path m.0) m.1
  Ok (field m.0 t)

-- `{"field": f}`
unfoldable pub exists_at : List ℕ → Data → Result Query QueryError
exists_at path d = do
  e ← needs path (only_named (codes "field") d)
  f ← needs (under path (codes "field")) (as_str e)
  Ok (field f Exists)

-- `{"values": [t, t]}`
unfoldable pub ids_at : List ℕ → Data → Result Query QueryError
ids_at path d = do
  e ← needs path (only_named (codes "values") d)
  ds ← needs (under path (codes "values")) (as_array e)
  ts ← each_at as_str (under path (codes "values")) 0 ds
  Ok (ids ts)

-- ---- the kind of a query

abbrev pub form_named : List ℕ → Option Form
form_named k =
    if same_bytes k (codes "match_all") then Some forms.All else
    (if same_bytes k (codes "match_none") then Some forms.Nothing else
    (if same_bytes k (codes "term") then Some forms.Term else
    (if same_bytes k (codes "terms") then Some forms.Terms else
    (if same_bytes k (codes "range") then Some forms.Range else
    (if same_bytes k (codes "prefix") then Some forms.Prefix else
    (if same_bytes k (codes "exists") then Some forms.Exists else
    (if same_bytes k (codes "ids") then Some forms.Ids else
    (if same_bytes k (codes "bool") then Some forms.Bool else None))))))))

abbrev pub leaf_at : Option Form → List ℕ → Data → Result Query QueryError
leaf_at None path d = Err (Bad path UnknownQuery)
leaf_at (Some forms.All) path d = do
  _ ← empty_at path d
  Ok match_all
leaf_at (Some forms.Nothing) path d = do
  _ ← empty_at path d
  Ok match_none
leaf_at (Some forms.Term) path d = field_at asked.Equal path d
leaf_at (Some forms.Terms) path d = field_at asked.OneOf path d
leaf_at (Some forms.Range) path d = field_at asked.Within path d
leaf_at (Some forms.Prefix) path d = field_at asked.Start path d
leaf_at (Some forms.Exists) path d = exists_at path d
leaf_at (Some forms.Ids) path d = ids_at path d
leaf_at (Some forms.Bool) path d = bad_value path

-- ---- queries that hold queries

abbrev pub is_clause_name : List ℕ → Bool
is_clause_name = is_one_of (codes "filter" ∷ codes "minimum_should_match" ∷ codes "must" ∷ codes "must_not" ∷ codes "should" ∷ [])

-- a whole number from 0 to 1,024
abbrev pub minimum_of : Data → Option ℕ
minimum_of d = option_and_then (λ n. if nat_le n 1024 then Some n else None) (option_and_then as_u64 (as_number d))

unfoldable pub minimum_at : List ℕ → Members → Result (Option ℕ) QueryError
minimum_at path ms = optional_at minimum_of (under path (codes "minimum_should_match")) (get_member (codes "minimum_should_match") ms)

-- how many of should have to match: the given minimum, else 1 with a should and neither must nor filter, else 0
abbrev pub are_none : Queries → Bool
are_none no_queries = true
are_none (query q qs) = false

abbrev pub least_of : Option ℕ → Queries → Queries → Queries → ℕ
least_of (Some n) must filter should = n
least_of None must filter should = if are_none must && are_none filter && not (are_none should) then 1 else 0

-- What a `bool` is, from what each of its clauses is.
unfoldable pub bool_of : List ℕ → Members → (filter must must_not should : Result Queries QueryError) → Result Query QueryError
bool_of path ms filter must must_not should = do
  _ ← expects path (list_all is_clause_name (member_keys ms))
  filter_queries ← filter
  minimum ← minimum_at path ms
  must_queries ← must
  must_not_queries ← must_not
  should_queries ← should
  Ok (bool must_queries filter_queries should_queries must_not_queries (least_of minimum must_queries filter_queries should_queries))

abbrev mutual
  pub query_at : List ℕ → Data → Result Query QueryError
  query_at path null = bad_value path
  query_at path (boolean b) = bad_value path
  query_at path (number n) = bad_value path
  query_at path (string s) = bad_value path
  query_at path (array ds) = bad_value path
  query_at path (object ms) = query_in path ms

  -- an object with one key
  pub query_in : List ℕ → Members → Result Query QueryError
  query_in path no_members = Err (Bad path NotOneKey)
  query_in path (member k d no_members) = query_of (form_named k) (under path k) d
  query_in path (member k d (member l e ms)) = Err (Bad path NotOneKey)

  pub query_of : Option Form → List ℕ → Data → Result Query QueryError
  query_of (Some forms.Bool) path (object ms) =
      bool_of path ms (clause_in path (codes "filter") ms) (clause_in path (codes "must") ms) (clause_in path (codes "must_not") ms) (clause_in path (codes "should") ms)
  query_of form path d = leaf_at form path d

  -- the queries at a key, of which there are none where the key is absent
  pub clause_in : List ℕ → List ℕ → Members → Result Queries QueryError
  clause_in path name no_members = Ok no_queries
  clause_in path name (member k d ms) = match_ordering (slice_cmp nat_cmp name k) (clause_in path name ms) (clause_at (under path name) d) (clause_in path name ms)

  -- one query or a list of them
  pub clause_at : List ℕ → Data → Result Queries QueryError
  clause_at path null = bad_value path
  clause_at path (boolean b) = bad_value path
  clause_at path (number n) = bad_value path
  clause_at path (string s) = bad_value path
  clause_at path (array ds) = queries_at path 0 ds
  clause_at path (object ms) = query_in path ms >>= (λ q. Ok (query q no_queries))

  pub queries_at : List ℕ → ℕ → Items → Result Queries QueryError
  queries_at path i no_items = Ok no_queries
  queries_at path i (item d ds) = query_at (under path (decimal i)) d >>= (λ q. queries_at path (i + 1) ds >>= (λ qs. Ok (query q qs)))

abbrev pub bool_at : List ℕ → Members → Result Query QueryError
bool_at path ms = bool_of path ms (clause_in path (codes "filter") ms) (clause_in path (codes "must") ms) (clause_in path (codes "must_not") ms) (clause_in path (codes "should") ms)
