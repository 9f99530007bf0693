-- A number at a key without a dot is the one value of that field.
use Rattle.std.proofs.Common.{◌≡◌, ℕ, ◌<◌, ◌^◌, Bool, true, false, cond, List, [], ◌∷◌, length, get_or, Some, None, refl, sym, ap, ◌∙◌, ltb}
use Rattle.std.proofs.lemmas.List.{append-nil}
use Rattle.std.proofs.lemmas.Option.{slice_get_read}
use Rattle.std.specs.Prelude.{ℤ, pos}
use Rattle.std.specs.List.{AllByRecursion, flat_map}
use Rattle.std.specs.Option.{option_to_list}
use Rattle.std.specs.Prelude.{option_and_then, option_map, is_some}
use Rattle.serde_json.specs.Data.{Data, null, boolean, number, string, array, object, unsigned, negative, float}
use Rattle.serde_json.specs.Find.{as_object, as_number, as_i64}
use Rattle.task_ids.proofs.Each.{all_here}
use Rattle.task_ids.specs.Source.{values_at}
use Rattle.query_match.specs.declared.scalar.Scalar.TheVariants.{Whole}
use Rattle.query_match.specs.Values.{is_key, values_in, field_values}
use Rattle.doc_match.proofs.Members.{plain_in}

small : (b : Bool) (m n : ℤ) → Some n ≡ cond b (Some m) None → option_to_list (option_map Whole (Some m)) ≡ Whole n ∷ []
small true m n h = ap (λ o. option_to_list (option_map Whole o)) (sym h)
small false m n h = absurd cc

pub number_in : (d : Data) (n : ℤ) → Some n ≡ option_and_then as_i64 (as_number d) → values_in d ≡ Whole n ∷ []
number_in null n h = absurd cc
number_in (boolean b) n h = absurd cc
number_in (number (unsigned k)) n h = small (ltb k (2 ^ 63)) (pos k) n h
number_in (number (negative z)) n h = ap (λ o. option_to_list (option_map Whole o)) (sym h)
number_in (number (float x)) n h = absurd cc
number_in (string s) n h = absurd cc
number_in (array ds) n h = absurd cc
number_in (object ms) n h = absurd cc

pub at_key : (key : List ℕ) (source d : Data) (n : ℤ) → is_key key ≡ true → is_some (as_object source) ≡ true → values_at key source ≡ d ∷ [] → values_in d ≡ Whole n ∷ [] → field_values key source ≡ Whole n ∷ []
at_key key source d n plain is alone only = ap (flat_map values_in) (plain_in key source plain is ∙ alone) ∙ append-nil (values_in d) ∙ only

pub each_at : {X : Type 0} (P : X → Type 0) (xs : List X) (i : ℕ) (x : X) → AllByRecursion P xs → i < length xs → x ≡ get_or xs i x → P x
each_at P xs i x all within is = all_here P xs i x all (slice_get_read xs (length xs) i x refl within is)
