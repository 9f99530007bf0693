-- What lies at a field without a dot by one key.
use Rattle.std.proofs.Common.{◌≡◌, ℕ, Bool, true, false, ◌||◌, cond, List, [], ◌∷◌, refl, sym, ap, ◌∙◌, ⊎_elim, true≢false}
use Rattle.std.proofs.lemmas.Bool.{cases_Bool}
use Rattle.std.proofs.lemmas.Slice.Eq.{bytes_eq-Decides}
use Rattle.std.specs.List.{list_any}
use Rattle.std.specs.Option.{option_map_or}
use Rattle.serde_json.specs.Data.{Data}
use Rattle.query_match.specs.Values.{is_key, held_by_key, held_behind, same_bytes}
use Rattle.doc_match.proofs.Members.{no_dot, no_rest}

or_false : (b : Bool) → b || false ≡ true → b ≡ true
or_false true h = refl
or_false false h = h

-- the key is the field, and what is at it passes
pub at_key : (test : Data → Bool) (f key : List ℕ) (d : Data) → is_key f ≡ true → list_any test (held_by_key f key d) ≡ true → (f ≡ key) × (test d ≡ true)
at_key test f key d plain here =
    let alone = ap (λ o. list_any test (cond (same_bytes f key) (d ∷ []) (option_map_or (λ rest. held_behind rest d) o []))) (no_rest key f (no_dot _ plain)) in
    ⊎_elim
    (λ same. ((bytes_eq-Decides f key).0 same, or_false (test d) (sym (alone ∙ ap (λ b. list_any test (cond b (d ∷ []) [])) same) ∙ here)))
    (λ other. absurd (true≢false (sym here ∙ alone ∙ ap (λ b. list_any test (cond b (d ∷ []) [])) other)))
    (cases_Bool (same_bytes f key))
