-- An object with one key.
use Rattle.std.proofs.Common.{◌≡◌, ℕ, List, [], ◌∷◌, length, Some, None, string_bytes, refl, sym, ap, arith}
use Rattle.std.specs.Prelude.{slice_get, option_map}
use Rattle.serde_json.specs.Data.{Data}
use Rattle.serde_json.specs.View.{view, members_view}
use Rattle.serde_json.proofs.Views.{Entry}
use Rattle.script_lang.specs.Commands.{only_entry}

pub only_entry-one : (es : List Entry) (e : Entry) → length es ≡ 1 → slice_get es 0 ≡ Some e → Some (string_bytes e.0, view e.1) ≡ only_entry (members_view es)
only_entry-one [] e n h = absurd (omega arith)
only_entry-one (x ∷ []) e n h = let shown : Entry → List ℕ × Data = λ m. (string_bytes m.0, view m.1) in ap (option_map shown) (sym h)
only_entry-one (x ∷ y ∷ es) e n h = absurd (omega arith)

pub only_entry-other : (es : List Entry) → (length es ≡ 1 → ⊥) → None ≡ only_entry (members_view es)
only_entry-other [] n = refl
only_entry-other (x ∷ []) n = absurd (n refl)
only_entry-other (x ∷ y ∷ es) n = refl
