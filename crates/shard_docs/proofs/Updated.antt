-- The places of an index after an entry was written.
use Rattle.std.proofs.Common.{◌≡◌, ℕ, true, false, ◌&&◌, cond, List, [], Option, Some, refl, sym, ap, ◌∙◌, ⊎_elim, inl, subst, true≢false}
use Rattle.std.proofs.lemmas.Bool.{cases_Bool}
use Rattle.std.proofs.lemmas.Bool.Decides.{Decides-int_eq}
use Rattle.std.proofs.lemmas.Slice.Eq.{bytes_eq-Decides}
use Rattle.std.specs.BTreeMap.{BTreeMap, is_at, get}
use Rattle.std.specs.Global.{Vec}
use Rattle.std.specs.HashMap.{get_by_text}
use Rattle.std.specs.Option.{option_map_or}
use Rattle.std.specs.Cmp.{Equal-is}
use Rattle.std.specs.Str.{bytes_eq}
use Rattle.query_match.specs.Orders.{value_cmp_equal}
use Rattle.query_match.specs.Values.{value_cmp, value_eq, same_bytes}
use Rattle.query_match.specs.declared.scalar.Scalar.{Scalar}
use Rattle.query_match.specs.declared.scalar.Scalar.TheVariants.{Whole, Text, Bool as Truth}
use Rattle.shard_docs.specs.declared.index.Index.{Index}
use Rattle.shard_docs.specs.Places.{places_at, places_of, MayAdd, KeepsUnless}
use Rattle.shard_docs.proofs.Adding.{May}

own : (v : Scalar) → value_eq v v ≡ true
own (Whole a) = (Decides-int_eq a a).1 refl
own (Text s) = (bytes_eq-Decides s s).1 refl
own (Truth true) = refl
own (Truth false) = refl

not_at : (value v : Scalar) → value_eq value v ≡ false → is_at (value_cmp value) v ≡ false
not_at value v apart =
    ⊎_elim
    (λ here.
    let same : value ≡ v = value_cmp_equal value v ((Equal-is (value_cmp value v)).0 here) in
    absurd (true≢false (sym (subst (λ (w : Scalar). value_eq value w ≡ true) same (own value)) ∙ apart)))
    (λ other. other)
    (cases_Bool (is_at (value_cmp value) v))

abbrev pub listed : Option (Vec ℕ) → List ℕ
listed o = option_map_or (λ those. those.items) o []

module _ (old new : BTreeMap Scalar (Vec ℕ)) (value : Scalar) (places : Vec ℕ)
    (updates : (q : Scalar) → get value_cmp new q ≡ cond (is_at (value_cmp value) q) (Some places) (get value_cmp old q)) where
  elsewhere : (v : Scalar) → is_at (value_cmp value) v ≡ false → places_at new v ≡ places_at old v
  elsewhere v other = ap listed (updates v ∙ ap (λ b. cond b (Some places) (get value_cmp old v)) other)

  pub other_values : (v : Scalar) → value_eq value v ≡ false → places_at new v ≡ places_at old v
  other_values v apart = elsewhere v (not_at value v apart)

  pub at_values : (place : ℕ) → May place (places_at old value) places.items → (v : Scalar) → May place (places_at old v) (places_at new v)
  at_values place may v =
      ⊎_elim
      (λ here.
      let same : value ≡ v = value_cmp_equal value v ((Equal-is (value_cmp value v)).0 here) in
      let now : places_at new v ≡ places.items = ap listed (updates v ∙ ap (λ b. cond b (Some places) (get value_cmp old v)) here) in
      subst (λ (l : List ℕ). May place (places_at old v) l) (sym now) (subst (λ (w : Scalar). May place (places_at old w) places.items) same may))
      (λ other. inl (elsewhere v other))
      (cases_Bool (is_at (value_cmp value) v))

module _ (old new : Index) (field : List ℕ) (values : BTreeMap Scalar (Vec ℕ))
    (updates : (f : List ℕ) → get_by_text new.fields f ≡ cond (bytes_eq field f) (Some values) (get_by_text old.fields f)) where
  at_field : (f : List ℕ) (v : Scalar) → bytes_eq field f ≡ true → places_of new f v ≡ places_at values v
  at_field f v here = ap (λ o. option_map_or (λ those. places_at those v) o []) (updates f ∙ ap (λ b. cond b (Some values) (get_by_text old.fields f)) here)

  in_other : (f : List ℕ) (v : Scalar) → bytes_eq field f ≡ false → places_of new f v ≡ places_of old f v
  in_other f v other = ap (λ o. option_map_or (λ those. places_at those v) o []) (updates f ∙ ap (λ b. cond b (Some values) (get_by_text old.fields f)) other)

  pub other_fields : (value : Scalar) → ((v : Scalar) → value_eq value v ≡ false → places_at values v ≡ places_of old field v)
      → KeepsUnless (λ f v. same_bytes f field && value_eq value v) old new
  other_fields value kept f v apart =
      ⊎_elim
      (λ here.
      let same : field ≡ f = (bytes_eq-Decides field f).0 here in
      let other : value_eq value v ≡ false = sym (ap (λ b. b && value_eq value v) ((bytes_eq-Decides f field).1 (sym same))) ∙ apart in
      at_field f v here ∙ kept v other ∙ ap (λ (g : List ℕ). places_of old g v) same)
      (λ other. in_other f v other)
      (cases_Bool (bytes_eq field f))

  pub at_fields : (place : ℕ) → ((v : Scalar) → May place (places_of old field v) (places_at values v)) → MayAdd place old new
  at_fields place may f v =
      ⊎_elim
      (λ here.
      let same : field ≡ f = (bytes_eq-Decides field f).0 here in
      subst (λ (l : List ℕ). May place (places_of old f v) l) (sym (at_field f v here)) (subst (λ (g : List ℕ). May place (places_of old g v) (places_at values v)) same (may v)))
      (λ other. inl (in_other f v other))
      (cases_Bool (bytes_eq field f))
