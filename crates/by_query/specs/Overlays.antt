-- What becomes of an object when the members of another are set in it.
use Rattle.std.specs.Prelude.{unwrap_or}
use Rattle.serde_json.specs.Data.{Data, object, Members, no_members, member, put}
use Rattle.serde_json.specs.Find.{as_object}

-- these with those of a set, each in its place among the keys
abbrev pub with_members : (set members : Members) → Members
with_members no_members members = members
with_members (member key value set) members = put key value (with_members set members)

abbrev pub members_of : Data → Members
members_of d = unwrap_or (as_object d) no_members

-- the keys of both, in order, with the value of the set where it has the key
abbrev pub overlay : (source set : Data) → Data
overlay source set = object (with_members (members_of set) (with_members (members_of source) no_members))
