-- At which places an index has the values of fields.
use Rattle.std.specs.Prelude.{◌≡◌, ℕ, zero, suc, ◌-◌, List, [], ◌∷◌, ◌++◌, length, slice_get, Bool, true, false, not, ◌&&◌, ◌||◌, ◌==◌, ◌⊎◌, if◌then◌else◌, Some}
use Rattle.std.specs.List.{AllByRecursion}
use Rattle.std.specs.Option.{option_map_or}
use Rattle.std.specs.BTreeMap.{BTreeMap, get}
use Rattle.std.specs.HashMap.{get_by_text}
use Rattle.std.specs.Global.{Vec}
use Rattle.task_ids.specs.declared.doc.Doc.{Doc}
use Rattle.query_match.specs.declared.scalar.Scalar.{Scalar}
use Rattle.query_match.specs.Picks.{has_picked}
use Rattle.query_match.specs.Values.{value_cmp, is_key}
use Rattle.shard_docs.specs.declared.index.Index.{Index}
use Rattle.shard_docs.specs.Deaths.{is_alive_before}
use Rattle.shard_docs.specs.SeenRows.{SeenRows}

-- the places at a value, none where it has no entry
abbrev pub places_at : BTreeMap Scalar (Vec ℕ) → Scalar → List ℕ
places_at values v = option_map_or (λ places. places.items) (get value_cmp values v) []

-- the places at a value of a field
abbrev pub places_of : Index → List ℕ → Scalar → List ℕ
places_of index f v = option_map_or (λ values. places_at values v) (get_by_text index.fields f) []

-- the last place is this one
abbrev pub ends_with_place : ℕ → List ℕ → Bool
ends_with_place place places = option_map_or (λ last. last == place) (slice_get places (length places - 1)) false

-- the places and one more, which stands there once
abbrev pub with_place : ℕ → List ℕ → List ℕ
with_place place places = if ends_with_place place places then places else places ++ place ∷ []

-- at each field and value nothing has changed, or the place is there more
abbrev pub MayAdd : ℕ → Index → Index → Type 0
MayAdd place old new = (f : List ℕ) (v : Scalar) → (places_of new f v ≡ places_of old f v) ⊎ (places_of new f v ≡ with_place place (places_of old f v))

-- the place is there more at a value of a field
abbrev pub HasAdded : ℕ → List ℕ → Scalar → Index → Index → Type 0
HasAdded place f v old new = places_of new f v ≡ with_place place (places_of old f v)

-- where a test of a field and a value fails, their places stay
abbrev pub KeepsUnless : (List ℕ → Scalar → Bool) → Index → Index → Type 0
KeepsUnless test old new = (f : List ℕ) (v : Scalar) → test f v ≡ false → places_of new f v ≡ places_of old f v

-- a document has a value at a field
abbrev pub has_value_at : List ℕ → Scalar → Doc → Bool
has_value_at f v doc = has_picked (Some (record { field = f; value = v })) doc.source

-- the row of a place is not forgotten, and has a value at a field
abbrev pub is_at_row : List ℕ → Scalar → SeenRows → ℕ → Bool
is_at_row f v s place = option_map_or (λ row. is_alive_before s.oldest row.died && has_value_at f v row.doc) (slice_get s.rows place) false

-- there is a row of the place, and it has the value unless it is forgotten
abbrev pub may_be_at_row : List ℕ → Scalar → SeenRows → ℕ → Bool
may_be_at_row f v s place = option_map_or (λ row. not (is_alive_before s.oldest row.died) || has_value_at f v row.doc) (slice_get s.rows place) false

-- places below a number, ascending, of which only those may be missing that fail the test
abbrev pub HasPlaces : (ℕ → Bool) → ℕ → List ℕ → Type 0
HasPlaces test zero places = places ≡ []
HasPlaces test (suc n) places = (before : List ℕ) × HasPlaces test n before × ((places ≡ before ++ n ∷ []) ⊎ ((places ≡ before) × (test n ≡ false)))

-- The index has each place of a row at the values of its fields, but for those that are forgotten. It may have further places, that of the next
-- row too: a write for which memory ran out has left them.
abbrev pub IsIndexOf : SeenRows → Index → Type 0
IsIndexOf s index = (f : List ℕ) (v : Scalar) → is_key f ≡ true → HasPlaces (is_at_row f v s) (suc (length s.rows)) (places_of index f v)

-- the index has no place of a row that has not the value, but for those that are forgotten
abbrev pub IsExactFor : SeenRows → Index → Type 0
IsExactFor s index = (f : List ℕ) (v : Scalar) → AllByRecursion (λ place. may_be_at_row f v s place ≡ true) (places_of index f v)
