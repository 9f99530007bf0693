-- The data that a `Json` stands for.
use Rattle.std.specs.Prelude.{ℕ, List, [], ◌∷◌, map}
use Rattle.serde_json.specs.Data.{Data, null, boolean, number, string, array, object, Items, Members, no_members, member}
use Rattle.serde_json.specs.View.{number_view, items_of}
use Rattle.task_ids.specs.declared.json_value.Json.{Json, fold-Json}
use Rattle.task_ids.specs.declared.json_value.Json.TheOpen.{Json-F, JsonMember-F}
use Rattle.task_ids.specs.declared.json_value.JsonMember.{JsonMember}

abbrev pub named_members : List (List ℕ × Data) → Members
named_members [] = no_members
named_members (m ∷ ms) = member m.0 m.1 (named_members ms)

-- one level, with each value inside already seen as its data
abbrev pub json_step : Json-F Data (List ℕ × Data) → Data
json_step Json-F.Null = null
json_step (Json-F.Bool b) = boolean b
json_step (Json-F.Number n) = number (number_view n)
json_step (Json-F.String s) = string s
json_step (Json-F.Array v) = array (items_of v.items)
json_step (Json-F.Object v) = object (named_members v.items)

abbrev pub member_step : JsonMember-F Data (List ℕ × Data) → List ℕ × Data
member_step m = (m.key, m.value)

abbrev pub json_view : Json → Data
json_view = fold-Json Data (List ℕ × Data) json_step member_step

abbrev pub json_items : List Json → Items
json_items js = items_of (map json_view js)

-- the key, and the data that lies there
abbrev pub member_view : JsonMember → List ℕ × Data
member_view m = (m.key, json_view m.value)

abbrev pub json_members : List JsonMember → Members
json_members ms = named_members (map member_view ms)
