-- Places that stay where a document has not a value.
use Rattle.std.proofs.Common.{◌≡◌, ℕ, Bool, true, false, ◌&&◌, ◌||◌, cond, List, [], ◌∷◌, Some, refl, ap, sym, ◌∙◌}
use Rattle.std.specs.List.{list_any}
use Rattle.std.specs.Option.{option_map_or, option_to_list}
use Rattle.serde_json.specs.Data.{Data, null, boolean, number, string, array, object}
use Rattle.query_match.specs.Matching.{passes}
use Rattle.query_match.specs.declared.query.Test.TheVariants.{Equals}
use Rattle.query_match.specs.Values.{same_bytes, value_eq, value_of, values_in, held_by_key, held_behind, after_key}
use Rattle.query_match.specs.declared.scalar.Scalar.{Scalar}
use Rattle.shard_docs.specs.declared.index.Index.{Index}
use Rattle.shard_docs.specs.Places.{places_of}

-- neither this one nor the later ones have the value
pub still_kept : (old mid new : Index) (f : List ℕ) (v : Scalar) (here later : Bool) → (places_of mid f v ≡ places_of old f v) × (here || later ≡ false)
    → (here ≡ false → places_of new f v ≡ places_of mid f v) → (places_of new f v ≡ places_of old f v) × (later ≡ false)
still_kept old mid new f v true later (stays, none) step = absurd cc
still_kept old mid new f v false later (stays, none) step = (step refl ∙ stays, none)

-- a test of two, behind another
pub both_behind : (first here later : Bool) → (first && (here || later)) ≡ ((first && here) || (first && later))
both_behind true here later = refl
both_behind false here later = refl

only_one : (b : Bool) → b || false ≡ b
only_one true = refl
only_one false = refl

not_first : (same : Bool) (test : Data → Bool) (d : Data) (others : List Data) → list_any test (cond same (d ∷ []) others) ≡ false → (same && test d) ≡ false
not_first true test d others none = sym (only_one (test d)) ∙ none
not_first false test d others none = refl

-- where nothing passes that lies at a field by a key, what is at the key does not if it is the field
pub not_at_key : (test : Data → Bool) (f key : List ℕ) (d : Data) → list_any test (held_by_key f key d) ≡ false → (same_bytes f key && test d) ≡ false
not_at_key test f key d none = not_first (same_bytes f key) test d (option_map_or (λ rest. held_behind rest d) (after_key key f) []) none

-- what is a value has no other
values_of_one : (d : Data) (x : Scalar) → value_of d ≡ Some x → values_in d ≡ x ∷ []
values_of_one null x is = absurd cc
values_of_one (boolean b) x is = ap option_to_list is
values_of_one (number n) x is = ap option_to_list is
values_of_one (string s) x is = ap option_to_list is
values_of_one (array ds) x is = absurd cc
values_of_one (object ms) x is = absurd cc

pub one_value : (d : Data) (x v : Scalar) → value_of d ≡ Some x → value_eq x v ≡ list_any (passes (Equals v)) (values_in d)
one_value d x v is = sym (ap (list_any (passes (Equals v))) (values_of_one d x is) ∙ only_one (value_eq x v))
