-- Objects of JSON, whose keys stand in byte order.
use Rattle.std.specs.Prelude.{ℕ, List, fold}
use Rattle.serde_json.specs.Data.{Data, object, Members, no_members, put}

-- the members with one more for each of some things, at the key of its own
abbrev pub with_each : {X : Type 0} → (X → List ℕ) → (X → Data) → Members → List X → Members
with_each key value members things = fold (λ ms thing. put (key thing) (value thing) ms) members things

-- an object with a member for each of some things
abbrev pub object_by : {X : Type 0} → (X → List ℕ) → (X → Data) → List X → Data
object_by key value things = object (with_each key value no_members things)

-- some members beside others
abbrev pub with_members : Members → List (List ℕ × Data) → Members
with_members members named = with_each (λ m. m.0) (λ m. m.1) members named

-- an object with these members
abbrev pub object_with : List (List ℕ × Data) → Data
object_with named = object (with_members no_members named)
