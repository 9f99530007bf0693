-- A measure of data, by which the readers end.
use Rattle.std.proofs.Common.{◌≡◌, ℕ, zero, suc, ◌+◌, ◌<◌, List, [], ◌∷◌, length, get_or, Some, arith, Ordering, Less, Equal, Greater, nat_cmp}
use Rattle.std.specs.Ordering.{match_ordering}
use Rattle.std.specs.Cmp.Lexicographic.{slice_cmp}
use Rattle.serde_json.specs.Data.{Data, null, boolean, number, string, array, object, Items, no_items, item, Members, no_members, member}
use Rattle.serde_json.specs.Find.{get_member}
use Rattle.task_ids.specs.Json.{json_view, json_items}
use Rattle.task_ids.specs.declared.json_value.Json.{Json}

abbrev mutual
  pub data_size : Data → ℕ
  data_size null = 0
  data_size (boolean b) = 0
  data_size (number n) = 0
  data_size (string s) = 0
  data_size (array ds) = items_size ds + 1
  data_size (object ms) = members_size ms + 1

  pub items_size : Items → ℕ
  items_size no_items = 0
  items_size (item d ds) = data_size d + items_size ds + 1

  pub members_size : Members → ℕ
  members_size no_members = 0
  members_size (member k d ms) = data_size d + members_size ms + 1

found_or : (o : Ordering) (k : List ℕ) (d e : Data) (ms : Members) → Some d ≡ match_ordering o (get_member k ms) (Some e) (get_member k ms) → (Some d ≡ get_member k ms → data_size d < members_size ms) → data_size d < data_size e + members_size ms + 1
found_or Less k d e ms h later = let lt : data_size d < members_size ms = later h in omega arith
found_or Equal k d e ms h later = let same : d ≡ e = cc in rw same (omega arith)
found_or Greater k d e ms h later = let lt : data_size d < members_size ms = later h in omega arith

pub size-get_member : (k : List ℕ) (d : Data) (ms : Members) → Some d ≡ get_member k ms → data_size d < members_size ms
size-get_member k d no_members h = absurd cc
size-get_member k d (member l e ms) h = found_or (slice_cmp nat_cmp k l) k d e ms h (size-get_member k d ms)

pub size-item : (vs : List Json) (i : ℕ) (d : Json) → i < length vs → data_size (json_view (get_or vs i d)) < items_size (json_items vs)
size-item [] i d h = absurd (omega arith)
size-item (v ∷ vs) zero d h = omega arith
size-item (v ∷ vs) (suc i) d h = let lt : data_size (json_view (get_or vs i d)) < items_size (json_items vs) = size-item vs i d (omega arith) in omega arith
