-- The values of a field in a document, and their order.
use Rattle.std.specs.Prelude.{ℕ, List, [], ◌∷◌, ◌++◌, length, drop, Bool, true, false, not, ◌||◌, ◌==◌, nat_eq, Option, Some, None, option_map, is_some, if◌then◌else◌}
use Rattle.std.specs.Option.{option_map_or, option_to_list}
use Rattle.std.specs.List.{starts_with, flat_map, list_any}
use Rattle.std.specs.declared.cmp.Ordering.{Ordering}
use Rattle.std.specs.declared.cmp.Ordering.TheVariants.{Less, Greater}
use Rattle.std.specs.Ordering.{nat_cmp, int_cmp, int_eq, bool_cmp, is_eq}
use Rattle.std.specs.Cmp.Lexicographic.{pointwise, slice_cmp}
use Rattle.serde_json.specs.Data.{Data, null, boolean, number, string, array, object, Items, no_items, item, Members, no_members, member}
use Rattle.serde_json.specs.Find.{as_integer}
use Rattle.query_match.specs.declared.scalar.Scalar.{Scalar}
use Rattle.query_match.specs.declared.scalar.Scalar.TheVariants.{Whole, Text, Bool as Truth}

-- ---- values

-- whole numbers, then texts by bytes, then false, true
abbrev pub value_cmp : Scalar → Scalar → Ordering
value_cmp (Whole a) (Whole b) = int_cmp a b
value_cmp (Whole a) (Text t) = Less
value_cmp (Whole a) (Truth c) = Less
value_cmp (Text s) (Whole b) = Greater
value_cmp (Text s) (Text t) = slice_cmp nat_cmp s t
value_cmp (Text s) (Truth c) = Less
value_cmp (Truth a) (Whole b) = Greater
value_cmp (Truth a) (Text t) = Greater
value_cmp (Truth a) (Truth b) = bool_cmp a b

abbrev pub same_bytes : List ℕ → List ℕ → Bool
same_bytes s t = pointwise nat_eq s t

-- kind and content are equal
abbrev pub value_eq : Scalar → Scalar → Bool
value_eq (Whole a) (Whole b) = int_eq a b
value_eq (Whole a) (Text t) = false
value_eq (Whole a) (Truth c) = false
value_eq (Text s) (Whole b) = false
value_eq (Text s) (Text t) = same_bytes s t
value_eq (Text s) (Truth c) = false
value_eq (Truth a) (Whole b) = false
value_eq (Truth a) (Text t) = false
value_eq (Truth a) (Truth b) = is_eq (bool_cmp a b)

-- The value that a piece of data is. Null, a list, an object and a number with a fraction or an exponent are none.
abbrev pub value_of : Data → Option Scalar
value_of null = None
value_of (boolean b) = Some (Truth b)
value_of (number n) = option_map Whole (as_integer n)
value_of (string s) = Some (Text s)
value_of (array ds) = None
value_of (object ms) = None

-- the values in a piece of data, lists flattened
abbrev mutual
  pub values_in : Data → List Scalar
  values_in null = []
  values_in (boolean b) = Truth b ∷ []
  values_in (number n) = option_to_list (option_map Whole (as_integer n))
  values_in (string s) = Text s ∷ []
  values_in (array ds) = values_in_each ds
  values_in (object ms) = []

  pub values_in_each : Items → List Scalar
  values_in_each no_items = []
  values_in_each (item d ds) = values_in d ++ values_in_each ds

-- there is a value at any depth, in lists and behind keys
abbrev mutual
  pub has_value : Data → Bool
  has_value null = false
  has_value (boolean b) = true
  has_value (number n) = is_some (as_integer n)
  has_value (string s) = true
  has_value (array ds) = some_has_value ds
  has_value (object ms) = some_key_has_value ms

  pub some_has_value : Items → Bool
  some_has_value no_items = false
  some_has_value (item d ds) = has_value d || some_has_value ds

  pub some_key_has_value : Members → Bool
  some_key_has_value no_members = false
  some_key_has_value (member k d ms) = has_value d || some_key_has_value ms

-- ---- fields

-- a name without a dot
abbrev pub is_key : List ℕ → Bool
is_key f = not (list_any (λ b. b == 46) f)

abbrev pub after_dot : List ℕ → Option (List ℕ)
after_dot [] = None
after_dot (b ∷ rest) = if b == 46 then Some rest else None

-- the rest of a field's name that begins with the key and a dot
abbrev pub after_key : List ℕ → List ℕ → Option (List ℕ)
after_key k f = if starts_with nat_eq f k then after_dot (drop (length k) f) else None

abbrev mutual
  -- what lies at field f of an object: for each key k what is at k, where f is k, and what lies at the rest behind k, where f begins with k and a dot
  pub held_at : List ℕ → Members → List Data
  held_at f no_members = []
  held_at f (member k d ms) = (if same_bytes f k then d ∷ [] else option_map_or (λ rest. held_behind rest d) (after_key k f) []) ++ held_at f ms

  -- what lies at field f of each object in a piece of data, lists flattened
  pub held_behind : List ℕ → Data → List Data
  held_behind f null = []
  held_behind f (boolean b) = []
  held_behind f (number n) = []
  held_behind f (string s) = []
  held_behind f (array ds) = held_behind_each f ds
  held_behind f (object ms) = held_at f ms

  pub held_behind_each : List ℕ → Items → List Data
  held_behind_each f no_items = []
  held_behind_each f (item d ds) = held_behind f d ++ held_behind_each f ds

-- the values of a field in a document
abbrev pub field_values : List ℕ → Data → List Scalar
field_values f source = flat_map values_in (held_behind f source)

-- the part of `held_at` that one key gives
abbrev pub held_by_key : List ℕ → List ℕ → Data → List Data
held_by_key f k d = if same_bytes f k then d ∷ [] else option_map_or (λ rest. held_behind rest d) (after_key k f) []
