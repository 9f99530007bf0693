-- What the source of a document is.
use Rattle.std.specs.Prelude.{◌≡◌, ◌≤◌, ℕ, List, [], ◌∷◌, ◌++◌, map, Bool, true, false, Option, Some, None, is_some, if◌then◌else◌}
use Rattle.std.specs.Cmp.Lexicographic.{slice_cmp}
use Rattle.std.specs.List.Sorted.{IsStrictlySortedBy}
use Rattle.std.specs.Ordering.{nat_cmp, is_eq}
use Rattle.json.specs.Print.{quoted}
use Rattle.serde_json.specs.Data.{Data, null, boolean, number, string, array, object, Members, no_members, member, depth}
use Rattle.serde_json.specs.Find.{as_object}
use Rattle.serde_json.specs.Read.{max_depth}
use Rattle.serde_json.specs.View.{view}
use Rattle.serde_json.specs.Written.{has_float, comma_if, compact_text}
use Rattle.task_ids.specs.declared.source.Member.{Member}

-- An object whose numbers are all whole, from -2^63 to 2^64-1 and not `-0`. A value that was read nests no deeper than 127.
pub record IsSource (d : Data) : Type 0 where
  pub is_object : is_some (as_object d) ≡ true
  pub is_whole : has_float d ≡ false
  pub nests : depth d ≤ max_depth

-- the members as those of a JSON object
abbrev pub members_in : List Member → Members
members_in [] = no_members
members_in (m ∷ ms) = member m.key (view m.value) (members_in ms)

-- a value that is an object
abbrev pub object_or_none : Data → Option Data
object_or_none null = None
object_or_none (boolean b) = None
object_or_none (number n) = None
object_or_none (string s) = None
object_or_none (array ds) = None
object_or_none (object ms) = Some (object ms)

-- in the order of their keys, each key once
abbrev pub AreOrdered : List Member → Type 0
AreOrdered ms = IsStrictlySortedBy (slice_cmp nat_cmp) (map (λ m. m.key) ms)

-- the values at a key of an object
abbrev pub values_among : List ℕ → Members → List Data
values_among k no_members = []
values_among k (member l d ms) = (if is_eq (slice_cmp nat_cmp k l) then d ∷ [] else []) ++ values_among k ms

abbrev pub values_at : List ℕ → Data → List Data
values_at k null = []
values_at k (boolean b) = []
values_at k (number n) = []
values_at k (string s) = []
values_at k (array ds) = []
values_at k (object ms) = values_among k ms

-- a member of an object as compact JSON, behind a comma, if one stands before
abbrev pub member_text : Bool → Member → List ℕ
member_text later m = comma_if later ++ (quoted m.key ++ 58 ∷ compact_text (view m.value))
