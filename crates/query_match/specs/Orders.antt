-- The orders of values and of keys are total, and what they tie is equal.
use Rattle.std.specs.Prelude.{◌≡◌, ℕ, ℤ, List, Bool, true, false, ◌⊎◌, refl}
use Rattle.std.proofs.Common.{inl, inr, ap, sym, ◌∙◌}
use Rattle.std.specs.declared.cmp.Ordering.{Ordering}
use Rattle.std.specs.declared.cmp.Ordering.TheVariants.{Less, Equal, Greater}
use Rattle.std.specs.Ordering.{ordering_reverse, nat_cmp, int_cmp, bool_cmp, on, flip_args}
use Rattle.std.specs.Cmp.{IsTotalOrder, on_total, back_total, int_cmp_total, bool_cmp_total}
use Rattle.std.specs.Cmp.Lexicographic.{slice_cmp, nat_list_cmp_total, lists_total}
use Rattle.std.specs.FinMap.{IsAntisymmetric, nat_cmp-IsAntisymmetric, int_cmp-IsAntisymmetric, slice_cmp-IsAntisymmetric}
use Rattle.query_match.specs.declared.scalar.Scalar.{Scalar}
use Rattle.query_match.specs.declared.scalar.Scalar.TheVariants.{Whole, Text, Bool as Truth}
use Rattle.query_match.specs.declared.sort.KeyPart.{KeyPart}
use Rattle.query_match.specs.declared.sort.KeyPart.TheVariants.{Ascending, Descending, Missing}
use Rattle.query_match.specs.Values.{value_cmp}
use Rattle.query_match.specs.Sorting.{part_cmp, key_cmp}

-- ---- one kind, and then another

abbrev kinds_cmp : {A B : Type 0} → (A → A → Ordering) → (B → B → Ordering) → A ⊎ B → A ⊎ B → Ordering
kinds_cmp R S (inl a) (inl b) = R a b
kinds_cmp R S (inl a) (inr d) = Less
kinds_cmp R S (inr c) (inl b) = Greater
kinds_cmp R S (inr c) (inr d) = S c d

module _ {A B : Type 0} {R : A → A → Ordering} {S : B → B → Ordering} (r : IsTotalOrder R) (s : IsTotalOrder S) where
  kinds_antisymm : (x y : A ⊎ B) → kinds_cmp R S x y ≡ ordering_reverse (kinds_cmp R S y x)
  kinds_antisymm (inl a) (inl b) = r.antisymm a b
  kinds_antisymm (inl a) (inr d) = refl
  kinds_antisymm (inr c) (inl b) = refl
  kinds_antisymm (inr c) (inr d) = s.antisymm c d

  kinds_trans : (x y z : A ⊎ B) → kinds_cmp R S x y ≡ Less → kinds_cmp R S y z ≡ Less → kinds_cmp R S x z ≡ Less
  kinds_trans (inl a) (inl b) (inl c) p q = r.trans a b c p q
  kinds_trans (inl a) y (inr f) p q = refl
  kinds_trans (inl a) (inr d) (inl c) p q = absurd cc
  kinds_trans (inr c) (inl b) z p q = absurd cc
  kinds_trans (inr c) (inr d) (inl e) p q = absurd cc
  kinds_trans (inr c) (inr d) (inr f) p q = s.trans c d f p q

  kinds_congr : (x y z : A ⊎ B) → kinds_cmp R S x y ≡ Equal → kinds_cmp R S x z ≡ kinds_cmp R S y z
  kinds_congr (inl a) (inl b) (inl c) p = r.congr a b c p
  kinds_congr (inl a) (inl b) (inr f) p = refl
  kinds_congr (inl a) (inr d) z p = absurd cc
  kinds_congr (inr c) (inl b) z p = absurd cc
  kinds_congr (inr c) (inr d) (inl e) p = refl
  kinds_congr (inr c) (inr d) (inr f) p = s.congr c d f p

  kinds_total : IsTotalOrder (kinds_cmp R S)
  kinds_total = record { antisymm = kinds_antisymm; trans = kinds_trans; congr = kinds_congr }

-- two orders that answer the same
same_total : {K : Type 0} {R S : K → K → Ordering} → ((x y : K) → R x y ≡ S x y) → IsTotalOrder S → IsTotalOrder R
same_total e s = record {
  antisymm = λ x y. e x y ∙ s.antisymm x y ∙ ap ordering_reverse (sym (e y x));
  trans = λ x y z p q. e x z ∙ s.trans x y z (sym (e x y) ∙ p) (sym (e y z) ∙ q);
  congr = λ x y z p. e x z ∙ s.congr x y z (sym (e x y) ∙ p) ∙ sym (e y z);
}

-- ---- values

abbrev scalar_kind : Scalar → ℤ ⊎ (List ℕ ⊎ Bool)
scalar_kind (Whole a) = inl a
scalar_kind (Text s) = inr (inl s)
scalar_kind (Truth b) = inr (inr b)

value_cmp-kinds : (x y : Scalar) → value_cmp x y ≡ on scalar_kind (kinds_cmp int_cmp (kinds_cmp (slice_cmp nat_cmp) bool_cmp)) x y
value_cmp-kinds (Whole a) (Whole b) = refl
value_cmp-kinds (Whole a) (Text t) = refl
value_cmp-kinds (Whole a) (Truth c) = refl
value_cmp-kinds (Text s) (Whole b) = refl
value_cmp-kinds (Text s) (Text t) = refl
value_cmp-kinds (Text s) (Truth c) = refl
value_cmp-kinds (Truth a) (Whole b) = refl
value_cmp-kinds (Truth a) (Text t) = refl
value_cmp-kinds (Truth a) (Truth b) = refl

pub value_cmp_total : IsTotalOrder value_cmp
value_cmp_total = same_total value_cmp-kinds (on_total scalar_kind (kinds_total int_cmp_total (kinds_total nat_list_cmp_total bool_cmp_total)))

-- ---- keys

abbrev tied : Unit {0} → Unit {0} → Ordering
tied a b = Equal

tied_total : IsTotalOrder tied
tied_total = record { antisymm = λ x y. refl; trans = λ x y z p q. p; congr = λ x y z p. refl }

abbrev part_kind : KeyPart → Scalar ⊎ (Scalar ⊎ Unit {0})
part_kind (Ascending v) = inl v
part_kind (Descending v) = inr (inl v)
part_kind Missing = inr (inr tt)

part_cmp-kinds : (x y : KeyPart) → part_cmp x y ≡ on part_kind (kinds_cmp value_cmp (kinds_cmp (flip_args value_cmp) tied)) x y
part_cmp-kinds (Ascending v) (Ascending w) = refl
part_cmp-kinds (Ascending v) (Descending w) = refl
part_cmp-kinds (Ascending v) Missing = refl
part_cmp-kinds (Descending v) (Ascending w) = refl
part_cmp-kinds (Descending v) (Descending w) = refl
part_cmp-kinds (Descending v) Missing = refl
part_cmp-kinds Missing (Ascending w) = refl
part_cmp-kinds Missing (Descending w) = refl
part_cmp-kinds Missing Missing = refl

pub part_cmp_total : IsTotalOrder part_cmp
part_cmp_total = same_total part_cmp-kinds (on_total part_kind (kinds_total value_cmp_total (kinds_total (back_total value_cmp_total) tied_total)))

pub key_cmp_total : IsTotalOrder key_cmp
key_cmp_total = lists_total part_cmp_total

-- ---- what ties is equal

pub value_cmp_equal : IsAntisymmetric value_cmp
value_cmp_equal (Whole a) (Whole b) h = ap Whole (int_cmp-IsAntisymmetric a b h)
value_cmp_equal (Whole a) (Text t) h = absurd cc
value_cmp_equal (Whole a) (Truth c) h = absurd cc
value_cmp_equal (Text s) (Whole b) h = absurd cc
value_cmp_equal (Text s) (Text t) h = ap Text (slice_cmp-IsAntisymmetric nat_cmp-IsAntisymmetric s t h)
value_cmp_equal (Text s) (Truth c) h = absurd cc
value_cmp_equal (Truth a) (Whole b) h = absurd cc
value_cmp_equal (Truth a) (Text t) h = absurd cc
value_cmp_equal (Truth true) (Truth true) h = refl
value_cmp_equal (Truth true) (Truth false) h = absurd cc
value_cmp_equal (Truth false) (Truth true) h = absurd cc
value_cmp_equal (Truth false) (Truth false) h = refl

pub part_cmp_equal : IsAntisymmetric part_cmp
part_cmp_equal (Ascending v) (Ascending w) h = ap Ascending (value_cmp_equal v w h)
part_cmp_equal (Ascending v) (Descending w) h = absurd cc
part_cmp_equal (Ascending v) Missing h = absurd cc
part_cmp_equal (Descending v) (Ascending w) h = absurd cc
part_cmp_equal (Descending v) (Descending w) h = ap Descending (sym (value_cmp_equal w v h))
part_cmp_equal (Descending v) Missing h = absurd cc
part_cmp_equal Missing (Ascending w) h = absurd cc
part_cmp_equal Missing (Descending w) h = absurd cc
part_cmp_equal Missing Missing h = refl

pub key_cmp_equal : (a b : List KeyPart) → key_cmp a b ≡ Equal → a ≡ b
key_cmp_equal = slice_cmp-IsAntisymmetric part_cmp_equal
