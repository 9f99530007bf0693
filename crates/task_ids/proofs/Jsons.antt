-- A JSON value beside the data that it stands for.
use Rattle.std.proofs.Common.{◌≡◌, ℕ, suc, length, List, [], ◌∷◌, map, String, Vec, Global, string_bytes, refl, sym, ap, ◌∙◌, rules}
use Rattle.serde_json.specs.Data.{Data, object, member}
use Rattle.serde_json.specs.Events.{items_len}
use Rattle.serde_json.specs.View.{view, members_view}
use Rattle.serde_json.specs.declared.value.Value.{Value}
use Rattle.task_ids.specs.declared.json_value.Json.TheViews.{Object}
use Rattle.task_ids.specs.declared.json_value.Json.{Json, the_lemmas}
use Rattle.task_ids.specs.declared.json_value.JsonMember.{JsonMember}
use Rattle.task_ids.specs.Json.{named_members, json_view, json_items, member_view, json_members}

pub json_view-Object : (v : Vec JsonMember Global) → json_view (Object v) ≡ object (json_members v.items)
json_view-Object v = search (rules, the_lemmas)

-- an entry of a map, as a member
abbrev pub entry_view : String Global × Value → List ℕ × Data
entry_view e = (string_bytes e.0, view e.1)

of_entries : (es : List (String Global × Value)) → members_view es ≡ named_members (map entry_view es)
of_entries [] = refl
of_entries (e ∷ es) = ap (member (string_bytes e.0) (view e.1)) (of_entries es)

pub same_members : (ms : List JsonMember) (es : List (String Global × Value)) → map member_view ms ≡ map entry_view es → json_members ms ≡ members_view es
same_members ms es h = ap named_members h ∙ sym (of_entries es)

pub items_len-json_items : (js : List Json) → items_len (json_items js) ≡ length js
items_len-json_items [] = refl
items_len-json_items (j ∷ js) = ap suc (items_len-json_items js)

pub ruleset objects = (json_view-Object)
