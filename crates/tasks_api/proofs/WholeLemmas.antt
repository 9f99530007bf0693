-- No number of a list has a fraction.
use Rattle.std.proofs.Common.{◌≡◌, ℕ, zero, suc, Bool, true, false, ◌||◌, List, [], ◌∷◌, ◌++◌, Option, None, Some, map, filter, fold, length, codes, refl}
use Rattle.std.specs.List.{range_with_len}
use Rattle.std.specs.Ordering.{nat_cmp, match_ordering}
use Rattle.std.specs.Cmp.Lexicographic.{slice_cmp}
use Rattle.std.specs.declared.cmp.Ordering.{Ordering}
use Rattle.std.specs.declared.cmp.Ordering.TheVariants.{Less, Equal, Greater}
use Rattle.serde_json.specs.Data.{Data, string, array, Members, no_members, member, put}
use Rattle.serde_json.specs.View.{items_of}
use Rattle.serde_json.specs.Written.{has_float, items_have_float, members_have_float}
use Rattle.task_ids.specs.TaskId.{task_id_text, node_name}
use Rattle.task_ids.specs.declared.task_id.TaskId.{TaskId}
use Rattle.task_ids.specs.declared.task_info.TaskInfo.{TaskInfo}
use Rattle.tasks_api.specs.declared.list.GroupBy.{GroupBy}
use Rattle.tasks_api.specs.declared.list.GroupBy.TheVariants as groups
use Rattle.tasks_api.specs.Objects.{with_each, with_members, object_with}
use Rattle.tasks_api.specs.Lists.{state_part, children_part, description_part, headers_part, place_part, parent_part, start_part, task_json, by_id, on_node, node_json, with_node, nodes_json, children_of, tree_json, is_top, list_json}

either : (a b : Bool) → a ≡ false → b ≡ false → (a || b) ≡ false
either a b h e = cc

parts : (a b : Bool) → (a || b) ≡ false → (a ≡ false) × (b ≡ false)
parts true b h = absurd (cc)
parts false b h = (refl, h)

-- ---- objects

by_order : (o : Ordering) (x y z : Members) → members_have_float x ≡ false → members_have_float y ≡ false → members_have_float z ≡ false → members_have_float (match_ordering o x y z) ≡ false
by_order Less x y z hx hy hz = hx
by_order Equal x y z hx hy hz = hy
by_order Greater x y z hx hy hz = hz

put_whole : (k : List ℕ) (d : Data) (ms : Members) → has_float d ≡ false → members_have_float ms ≡ false → members_have_float (put k d ms) ≡ false
put_whole k d no_members h e = either _ _ h refl
put_whole k d (member l f ms) h e =
    let both = parts (has_float f) (members_have_float ms) e in
    by_order (slice_cmp nat_cmp k l) _ _ _ (either _ _ h e) (either _ _ h both.1) (either _ _ both.0 (put_whole k d ms h both.1))

each_whole : {X : Type 0} (key : X → List ℕ) (value : X → Data) (ms : Members) (xs : List X) → ((x : X) → has_float (value x) ≡ false) → members_have_float ms ≡ false → members_have_float (with_each key value ms xs) ≡ false
each_whole key value ms [] h e = e
each_whole key value ms (x ∷ xs) h e = each_whole key value (put (key x) (value x) ms) xs h (put_whole (key x) (value x) ms (h x) e)

-- no value of some members has a fraction
abbrev AreWhole : List (List ℕ × Data) → Type 0
AreWhole [] = Unit {0}
AreWhole (m ∷ more) = (has_float m.1 ≡ false) × AreWhole more

members_whole : (ms : Members) (named : List (List ℕ × Data)) → AreWhole named → members_have_float ms ≡ false → members_have_float (with_members ms named) ≡ false
members_whole ms [] h e = e
members_whole ms (m ∷ named) h e = members_whole (put m.0 m.1 ms) named h.1 (put_whole m.0 m.1 ms h.0 e)

object_whole : (named : List (List ℕ × Data)) → AreWhole named → has_float (object_with named) ≡ false
object_whole named h = members_whole no_members named h refl

both_whole : (xs ys : List (List ℕ × Data)) → AreWhole xs → AreWhole ys → AreWhole (xs ++ ys)
both_whole [] ys h e = e
both_whole (x ∷ xs) ys h e = (h.0, both_whole xs ys h.1 e)

-- ---- one task

children_whole : (children : List Data) → items_have_float (items_of children) ≡ false → AreWhole (children_part children)
children_whole [] h = tt
children_whole (c ∷ children) h = (h, tt)

description_whole : (detailed : Bool) (description : List ℕ) → AreWhole (description_part detailed description)
description_whole true description = (refl, tt)
description_whole false description = tt

headers_whole : (opaque_id : Option (List ℕ)) → AreWhole (headers_part opaque_id)
headers_whole None = tt
headers_whole (Some opaque_id) = (refl, tt)

parent_whole : (parent : Option TaskId) → AreWhole (parent_part parent)
parent_whole None = tt
parent_whole (Some parent) = (refl, tt)

task_whole : (detailed : Bool) (now : ℕ) (children : List Data) (row : TaskInfo) → items_have_float (items_of children) ≡ false → has_float (task_json detailed now children row) ≡ false
task_whole detailed now children row h =
    let a = state_part row in
    let b = children_part children in
    let c = description_part detailed row.description in
    let d = place_part row in
    let e = parent_part row.parent in
    let f = start_part now row in
    let first = both_whole a b (refl, (refl, (refl, tt))) (children_whole children h) in
    let described = both_whole (a ++ b) c first (description_whole detailed row.description) in
    let placed = both_whole (a ++ b ++ c) d described (object_whole (headers_part row.headers.opaque_id) (headers_whole row.headers.opaque_id), (refl, (refl, tt))) in
    let asked = both_whole (a ++ b ++ c ++ d) e placed (parent_whole row.parent) in
    object_whole (a ++ b ++ c ++ d ++ e ++ f) (both_whole (a ++ b ++ c ++ d ++ e) f asked (refl, (refl, (refl, tt))))

-- ---- many tasks

items_whole : {X : Type 0} (f : X → Data) (xs : List X) → ((x : X) → has_float (f x) ≡ false) → items_have_float (items_of (map f xs)) ≡ false
items_whole f [] h = refl
items_whole f (x ∷ xs) h = either _ _ (h x) (items_whole f xs h)

tree_whole : (detailed : Bool) (now : ℕ) (below : TaskId → List TaskInfo) (levels : ℕ) (row : TaskInfo) → has_float (tree_json (task_json detailed now) below levels row) ≡ false
tree_whole detailed now below zero row = task_whole detailed now [] row refl
tree_whole detailed now below (suc levels) row = task_whole detailed now _ row (items_whole _ (below row.id) (λ child. tree_whole detailed now below levels child))

by_id_whole : (f : TaskInfo → Data) (rows : List TaskInfo) → ((row : TaskInfo) → has_float (f row) ≡ false) → has_float (by_id f rows) ≡ false
by_id_whole f rows h = each_whole (λ row. task_id_text row.id) f no_members rows h refl

node_whole : (f : TaskInfo → Data) (node : ℕ) (rows : List TaskInfo) (ms : Members) → ((row : TaskInfo) → has_float (f row) ≡ false) → members_have_float ms ≡ false → members_have_float (with_node f node rows ms) ≡ false
node_whole f node [] ms h e = e
node_whole f node (row ∷ rows) ms h e = put_whole (node_name node) (node_json f node (row ∷ rows)) ms (object_whole ((codes "name", string (node_name node)) ∷ (codes "tasks", by_id f (row ∷ rows)) ∷ []) (refl, (by_id_whole f (row ∷ rows) h, tt))) e

nodes_whole : (f : TaskInfo → Data) (rows : List TaskInfo) (ms : Members) (nodes : List ℕ) → ((row : TaskInfo) → has_float (f row) ≡ false) → members_have_float ms ≡ false
    → members_have_float (fold (λ members node. with_node f node (on_node node rows) members) ms nodes) ≡ false
nodes_whole f rows ms [] h e = e
nodes_whole f rows ms (node ∷ nodes) h e = nodes_whole f rows (with_node f node (on_node node rows) ms) nodes h (node_whole f node (on_node node rows) ms h e)

one_whole : (key : List ℕ) (value : Data) → has_float value ≡ false → has_float (object_with ((key, value) ∷ [])) ≡ false
one_whole key value h = object_whole ((key, value) ∷ []) (h, tt)

pub list_whole : (group : GroupBy) (detailed : Bool) (now : ℕ) (rows : List TaskInfo) → has_float (list_json group (task_json detailed now) rows) ≡ false
list_whole groups.Nodes detailed now rows =
    one_whole (codes "nodes") (nodes_json (task_json detailed now []) rows) (nodes_whole (task_json detailed now []) rows no_members (range_with_len 1 15) (λ row. task_whole detailed now [] row refl) refl)
list_whole groups.Parents detailed now rows =
    one_whole (codes "tasks") (by_id (λ row. tree_json (task_json detailed now) (children_of rows) (length rows) row) (filter (λ row. is_top rows row) rows))
    (by_id_whole (λ row. tree_json (task_json detailed now) (children_of rows) (length rows) row) (filter (λ row. is_top rows row) rows) (λ row. tree_whole detailed now (children_of rows) (length rows) row))
list_whole groups.None detailed now rows =
    one_whole (codes "tasks") (array (items_of (map (task_json detailed now []) rows))) (items_whole (task_json detailed now []) rows (λ row. task_whole detailed now [] row refl))
