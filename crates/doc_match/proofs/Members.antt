-- What lies at a field without a dot is what is at the key of that name, since keys differ.
use Rattle.std.proofs.Common.{◌≡◌, ℕ, zero, suc, Bool, true, false, cond, not, ◌||◌, ◌==◌, List, [], ◌∷◌, ◌++◌, drop, length, is_some, Option, Some, None, option_map, option_copied, String, string_bytes, Global, Bor, refl, sym, ap, subst, ◌∙◌, ◌≢◌, ◌+◌, lit<}
use Rattle.std.specs.List.{list_any, starts_with}
use Rattle.std.specs.List.Sorted.{IsStrictlySortedBy}
use Rattle.std.specs.List.{AllByRecursion}
use Rattle.std.specs.Map.{keys_of, lookup}
use Rattle.std.specs.BTreeMap.{is_at}
use Rattle.std.specs.Option.{MatchOption, option_to_list, option_map_or}
use Rattle.std.specs.Ordering.{is_eq, nat_cmp}
use Rattle.std.specs.Bool.{nat_eq}
use Rattle.std.specs.Str.{IsCharBoundary}
use Rattle.std.specs.Str.Pattern.{FindsTextPrefix, FindsCharPrefix}
use Rattle.std.specs.Cmp.Lexicographic.{slice_cmp}
use Rattle.std.specs.declared.cmp.Ordering.TheVariants.{Less}
use Rattle.std.proofs.lemmas.Bool.{eqb-true}
use Rattle.std.proofs.lemmas.Map.Keys.{sorted_head, sorted_tail}
use Rattle.std.proofs.lemmas.Map.Text.{is_eq-slice_cmp}
use Rattle.std.proofs.lemmas.Str.Pattern.{starts_text, strip_prefix_char}
use Rattle.std.proofs.lemmas.Slice.Eq.{bytes_eq-Decides}
use Rattle.serde_json.specs.declared.value.Value.{Value}
use Rattle.serde_json.specs.Data.{Data, null, boolean, number, string, array, object, Members, no_members, member}
use Rattle.serde_json.specs.Find.{as_object, get}
use Rattle.serde_json.specs.View.{view, members_view}
use Rattle.task_ids.specs.Source.{values_among, values_at}
use Rattle.query_match.specs.Values.{after_dot, after_key, same_bytes, held_at, held_behind, is_key}

-- ---- a name without a dot has no part behind a dot

abbrev pub HasNoDot : List ℕ → Type 0
HasNoDot name = list_any (λ b. b == 46) name ≡ false

pub no_dot : (b : Bool) → not b ≡ true → b ≡ false
no_dot true h = cc
no_dot false h = refl

first_is_none : (b : Bool) (rest : Bool) → b || rest ≡ false → b ≡ false
first_is_none true rest h = h
first_is_none false rest h = refl

rest_has_none : (b : Bool) (rest : Bool) → b || rest ≡ false → rest ≡ false
rest_has_none true rest h = absurd (cc)
rest_has_none false rest h = h

behind : (n : ℕ) (name : List ℕ) → HasNoDot name → after_dot (drop n name) ≡ None
behind zero [] h = refl
behind zero (b ∷ name) h = ap (λ c. cond c (Some name) None) (first_is_none (b == 46) _ h)
behind (suc n) [] h = refl
behind (suc n) (b ∷ name) h = behind n name (rest_has_none (b == 46) _ h)

picked_none : (b : Bool) (o : Option (List ℕ)) → o ≡ None → cond b o None ≡ None
picked_none true o h = h
picked_none false o h = refl

pub no_rest : (key name : List ℕ) → HasNoDot name → after_key key name ≡ None
no_rest key name h = picked_none (starts_with nat_eq name key) (after_dot (drop (length key) name)) (behind (length key) name h)

-- ---- one key

module _ (name : List ℕ) where
  abbrev at_name : List (String Global × Value) → Option Value
  at_name entries = lookup (is_at (λ key. slice_cmp nat_cmp name (string_bytes key))) entries

  -- keys that come later differ
  none_later : (entries : List (String Global × Value)) → AllByRecursion (λ key. slice_cmp nat_cmp name (string_bytes key) ≡ Less) (keys_of entries) → at_name entries ≡ None
  none_later [] h = refl
  none_later (e ∷ entries) h = rw h.0 (none_later entries h.1)

  one_more : (here : Bool) (value : Value) (found : Option Value) (later : List Data) → option_to_list (option_map view found) ≡ later → (here ≡ true → found ≡ None)
      → option_to_list (option_map view (cond here (Some value) found)) ≡ cond here (view value ∷ []) [] ++ later
  one_more true value found later h apart = ap (λ l. view value ∷ l) (sym (ap (λ o. option_to_list (option_map view o)) (apart refl)) ∙ h)
  one_more false value found later h apart = h

  pub lies_at : (entries : List (String Global × Value)) → is_key name ≡ true → IsStrictlySortedBy (λ x y. slice_cmp nat_cmp (string_bytes x) (string_bytes y)) (keys_of entries)
      → option_to_list (option_map view (at_name entries)) ≡ held_at name (members_view entries)
  lies_at [] plain sorted = refl
  lies_at (e ∷ entries) plain sorted =
      let bytes = string_bytes e.0 in
      let same : is_eq (slice_cmp nat_cmp name bytes) ≡ same_bytes name bytes = is_eq-slice_cmp name bytes in
      let later = lies_at entries plain (sorted_tail _ e.0 (keys_of entries) sorted) in
      let apart : same_bytes name bytes ≡ true → at_name entries ≡ None = λ h.
      none_later entries (subst (λ (n : List ℕ). AllByRecursion (λ key. slice_cmp nat_cmp n (string_bytes key) ≡ Less) (keys_of entries)) (sym ((bytes_eq-Decides name bytes).0 h)) (sorted_head _ e.0 (keys_of entries) sorted)) in
      ap (λ b. option_to_list (option_map view (cond b (Some e.1) (at_name entries)))) same
      ∙ one_more (same_bytes name bytes) e.1 (at_name entries) (held_at name (members_view entries)) later apart
      ∙ ap (λ o. cond (same_bytes name bytes) (view e.1 ∷ []) (option_map_or (λ rest. held_behind rest (view e.1)) o []) ++ held_at name (members_view entries)) (sym (no_rest bytes name (no_dot _ plain)))

-- ---- the same in a document

plain_at : (name : List ℕ) (ms : Members) → is_key name ≡ true → held_at name ms ≡ values_among name ms
plain_at name no_members plain = refl
plain_at name (member k d ms) plain =
    ap (λ o. cond (same_bytes name k) (d ∷ []) (option_map_or (λ rest. held_behind rest d) o []) ++ held_at name ms) (no_rest k name (no_dot _ plain))
    ∙ ap (λ b. cond b (d ∷ []) [] ++ held_at name ms) (sym (is_eq-slice_cmp name k))
    ∙ ap (λ l. cond (is_eq (slice_cmp nat_cmp name k)) (d ∷ []) [] ++ l) (plain_at name ms plain)

pub plain_in : (name : List ℕ) (d : Data) → is_key name ≡ true → is_some (as_object d) ≡ true → held_behind name d ≡ values_at name d
plain_in name null plain h = absurd cc
plain_in name (boolean b) plain h = absurd cc
plain_in name (number n) plain h = absurd cc
plain_in name (string s) plain h = absurd cc
plain_in name (array ds) plain h = absurd cc
plain_in name (object ms) plain h = plain_at name ms plain

pub lies_in : (name : List ℕ) (d : Data) (r : Option (Bor Value)) → is_key name ≡ true → is_some (as_object d) ≡ true → option_map (λ (v : Bor Value). view v.now) r ≡ get name d
    → values_at name d ≡ option_to_list (get name d) → option_to_list (option_map (λ (v : Bor Value). view v.now) r) ≡ held_behind name d
lies_in name d r plain is found alone = ap option_to_list found ∙ sym alone ∙ sym (plain_in name d plain is)

-- ---- the rest of a name behind a key and a dot

dot_ahead : (b : ℕ) (rest : List ℕ) (here : Bool) → here ≡ (b == 46) → ((later : List ℕ) → b ∷ rest ≢ 46 ∷ later) → cond here (Some rest) None ≡ None
dot_ahead b rest true h apart = absurd (apart rest (ap (λ d. d ∷ rest) (eqb-true b 46 (sym h))))
dot_ahead b rest false h apart = refl

behind_dot : (name : List ℕ) (r : Option (Bor (List ℕ))) → MatchOption r ((rest : List ℕ) → name ≢ 46 ∷ rest) (λ x. name ≡ 46 ∷ x.now) → option_map (λ x. x.now) r ≡ after_dot name
behind_dot [] None h = refl
behind_dot (b ∷ rest) None h = sym (dot_ahead b rest (b == 46) refl h)
behind_dot name (Some x) h = sym (ap after_dot h)

pub no_prefix : (key name : List ℕ) → FindsTextPrefix key name None → None ≡ after_key key name
no_prefix key name h = ap (λ b. cond b (after_dot (drop (length key) name)) None) (starts_text false key name h)

pub behind_key : (key name rest : List ℕ) (r : Option (Bor (List ℕ))) → (n : ℕ) × FindsTextPrefix key name (Some n) × (rest ≡ drop n name) × (length rest + n ≡ length name)
    → MatchOption r (FindsCharPrefix 46 rest None) (λ x. (n : ℕ) × FindsCharPrefix 46 rest (Some n) × (x.now ≡ drop n rest) × (length x.now + n ≡ length rest)) → option_map (λ x. x.now) r ≡ after_key key name
behind_key key name rest r found dot =
    behind_dot rest r (strip_prefix_char 46 rest r dot (lit< tt))
    ∙ ap after_dot (found.2 ∙ ap (λ n. drop n name) found.1.0)
    ∙ ap (λ b. cond b (after_dot (drop (length key) name)) None) (starts_text true key name (found.0, found.1, subst (IsCharBoundary name) (sym found.1.0) found.1.2))

-- what is lent, seen as data
pub seen : (r : Option (Bor Value)) → option_map (λ (v : Bor Value). view v.now) r ≡ option_map view (option_copied r)
seen None = refl
seen (Some v) = refl
