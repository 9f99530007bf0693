-- One place more in a list of places, and the same place again.
use Rattle.std.proofs.Common.{◌≡◌, ℕ, ◌+◌, ◌-◌, ◌≤◌, ◌<◌, zero, suc, Bool, true, false, ◌||◌, cond, eqb, List, [], ◌∷◌, ◌++◌, length, Some, Option, refl, sym, ap, ◌∙◌, arith, ⊎_elim, inl, inr, ◌⊎◌, subst}
use Rattle.std.specs.Prelude.{Result, Ok, Err, OnOk, OnErr, IsSome}
use Rattle.std.proofs.lemmas.Bool.{cases_Bool, ne_eqb, eq-eqb}
use Rattle.std.proofs.lemmas.List.{length_push, get_or_push}
use Rattle.std.proofs.lemmas.Option.{slice_get_read}
use Rattle.std.specs.List.{slice_get}
use Rattle.std.specs.Option.{option_map_or}
use Rattle.query_match.specs.declared.scalar.Scalar.{Scalar}
use Rattle.shard_docs.specs.declared.index.Index.{Index}
use Rattle.shard_docs.specs.Places.{ends_with_place, with_place, MayAdd, HasAdded, places_of, HasPlaces}

-- the last place is the one that was pushed
last_pushed : (places : List ℕ) (place : ℕ) → slice_get (places ++ place ∷ []) (length (places ++ place ∷ []) - 1) ≡ Some place
last_pushed places place =
    let more : length (places ++ place ∷ []) ≡ length places + 1 = length_push places place in
    slice_get_read (places ++ place ∷ []) (length (places ++ place ∷ [])) (length (places ++ place ∷ []) - 1) place refl (omega (arith, more))
    (sym (get_or_push places place place (length (places ++ place ∷ []) - 1) (omega (arith, more))))

pub ends_pushed : (places : List ℕ) (place last : ℕ) → ends_with_place place (places ++ last ∷ []) ≡ eqb last place
ends_pushed places place last = ap (λ o. option_map_or (λ l. eqb l place) o false) (last_pushed places last)

pub with_new : (place : ℕ) (places : List ℕ) → ends_with_place place places ≡ false → with_place place places ≡ places ++ place ∷ []
with_new place places apart = ap (λ b. cond b places (places ++ place ∷ [])) apart

with_old : (place : ℕ) (places : List ℕ) → ends_with_place place places ≡ true → with_place place places ≡ places
with_old place places same = ap (λ b. cond b places (places ++ place ∷ [])) same

pub with_pushed : (place : ℕ) (places : List ℕ) → with_place place (places ++ place ∷ []) ≡ places ++ place ∷ []
with_pushed place places = with_old place (places ++ place ∷ []) (ends_pushed places place place ∙ eq-eqb place place refl)

-- it is added once
pub again : (place : ℕ) (places : List ℕ) → with_place place (with_place place places) ≡ with_place place places
again place places =
    ⊎_elim
    (λ yes. ap (with_place place) (with_old place places yes))
    (λ no. ap (with_place place) (with_new place places no) ∙ with_pushed place places ∙ sym (with_new place places no))
    (cases_Bool (ends_with_place place places))

-- ---- one step after another

abbrev pub May : ℕ → List ℕ → List ℕ → Type 0
May place old new = (new ≡ old) ⊎ (new ≡ with_place place old)

-- where it was added, or nothing has changed
pub may_of : {T E : Type 0} (place : ℕ) (old new : List ℕ) (r : Result T E) → OnOk r (new ≡ with_place place old) → OnErr r (new ≡ old) → May place old new
may_of place old new (Ok x) ok err = inr ok
may_of place old new (Err e) ok err = inl err

pub then_ok : {T E : Type 0} (r : Result T E) (P Q : Type 0) → OnOk r P → (P → Q) → OnOk r Q
then_ok (Ok x) P Q p f = f p
then_ok (Err e) P Q p f = tt

pub some_of : {A : Type 0} (o : Option A) (a : A) → o ≡ Some a → IsSome o
some_of o a e = subst (λ x. IsSome x) (sym e) refl

pub then_may : (place : ℕ) (old mid new : List ℕ) → May place old mid → May place mid new → May place old new
then_may place old mid new first next =
    ⊎_elim
    (λ same. ⊎_elim (λ stays. inl (stays ∙ same)) (λ more. inr (more ∙ ap (with_place place) same)) next)
    (λ had. ⊎_elim (λ stays. inr (stays ∙ had)) (λ more. inr (more ∙ ap (with_place place) had ∙ again place old)) next)
    first

pub then_kept : (place : ℕ) (old mid new : List ℕ) → mid ≡ with_place place old → May place mid new → new ≡ with_place place old
then_kept place old mid new had next =
    ⊎_elim (λ stays. stays ∙ had) (λ more. more ∙ ap (with_place place) had ∙ again place old) next

pub then_added : (place : ℕ) (old mid new : List ℕ) → May place old mid → new ≡ with_place place mid → new ≡ with_place place old
then_added place old mid new first more =
    ⊎_elim (λ same. more ∙ ap (with_place place) same) (λ had. more ∙ ap (with_place place) had ∙ again place old) first

module _ (place : ℕ) (old mid new : Index) where
  pub both_may : MayAdd place old mid → MayAdd place mid new → MayAdd place old new
  both_may first next f v = then_may place (places_of old f v) (places_of mid f v) (places_of new f v) (first f v) (next f v)

  pub still_added : (f : List ℕ) (v : Scalar) → HasAdded place f v old mid → MayAdd place mid new → HasAdded place f v old new
  still_added f v had next = then_kept place (places_of old f v) (places_of mid f v) (places_of new f v) had (next f v)

  pub added_later : (f : List ℕ) (v : Scalar) → MayAdd place old mid → HasAdded place f v mid new → HasAdded place f v old new
  added_later f v first more = then_added place (places_of old f v) (places_of mid f v) (places_of new f v) (first f v) more

  -- what was still to be added is, or is among the later ones
  pub still_left : (f : List ℕ) (v : Scalar) (here later : Bool) → HasAdded place f v old mid ⊎ (here || later ≡ true) → MayAdd place old mid → MayAdd place mid new → (here ≡ true → HasAdded place f v mid new)
      → HasAdded place f v old new ⊎ (later ≡ true)
  still_left f v here later left first next must =
      ⊎_elim
      (λ had. inl (still_added f v had next))
      (λ some. ⊎_elim (λ now. inl (added_later f v first (must now))) (λ then'. inr (sym (ap (λ b. b || later) then') ∙ some)) (cases_Bool here))
      left

-- ---- the places of rows

-- a place that is not below all is not the last
pub not_last : (test : ℕ → Bool) (n : ℕ) (places : List ℕ) → HasPlaces test n places → (place : ℕ) → n ≤ place → ends_with_place place places ≡ false
not_last test zero places empty place h = ap (ends_with_place place) empty
not_last test (suc n) places (before, has, top) place h =
    ⊎_elim
    (λ here. ap (ends_with_place place) here ∙ ends_pushed before place n ∙ ne_eqb n place (λ e. omega arith))
    (λ gone. ap (ends_with_place place) gone.0 ∙ not_last test n before has place (omega arith))
    top

abbrev Top : (ℕ → Bool) → ℕ → List ℕ → List ℕ → Type 0
Top test n before places = (places ≡ before ++ n ∷ []) ⊎ ((places ≡ before) × (test n ≡ false))

-- the next place is the last once it is added
with_next : (test : ℕ → Bool) (n : ℕ) (before places : List ℕ) → HasPlaces test n before → Top test n before places → with_place n places ≡ before ++ n ∷ []
with_next test n before places has top =
    ⊎_elim
    (λ here. ap (with_place n) here ∙ with_pushed n before)
    (λ gone. ap (with_place n) gone.0 ∙ with_new n before (not_last test n before has n (omega arith)))
    top

same_below : (test other : ℕ → Bool) (n : ℕ) (places : List ℕ) → ((i : ℕ) → i < n → test i ≡ other i) → HasPlaces test n places → HasPlaces other n places
same_below test other zero places same has = has
same_below test other (suc n) places same (before, has, top) =
    (before, same_below test other n before (λ i h. same i (omega arith)) has, ⊎_elim (λ here. inl here) (λ gone. inr (gone.0, sym (same n (omega arith)) ∙ gone.1)) top)

-- where the next row did not come
pub after_failure : (test : ℕ → Bool) (n : ℕ) (old new : List ℕ) → test n ≡ false → HasPlaces test (suc n) old → May n old new → HasPlaces test (suc n) new
after_failure test n old new free (before, has, top) may = (
  before,
  has,
  ⊎_elim
      (λ same. ⊎_elim (λ here. inl (same ∙ here)) (λ gone. inr (same ∙ gone.0, free)) top)
      (λ more. inl (more ∙ with_next test n before old has top))
      may,
)

-- where it came
pub after_row : (test more : ℕ → Bool) (n : ℕ) (old new : List ℕ) → ((i : ℕ) → i < n → test i ≡ more i) → more (suc n) ≡ false → HasPlaces test (suc n) old → May n old new
    → (more n ≡ true → new ≡ with_place n old) → HasPlaces more (suc (suc n)) new
after_row test more n old new same past (before, has, top) may must =
    let next = with_next test n before old has top in
    let now : Top more n before new =
    ⊎_elim
    (λ yes. inl (must yes ∙ next))
    (λ no. ⊎_elim (λ stays. ⊎_elim (λ here. inl (stays ∙ here)) (λ gone. inr (stays ∙ gone.0, no)) top) (λ added. inl (added ∙ next)) may)
    (cases_Bool (more n)) in
    (new, (before, same_below test more n before same has, now), inr (refl, past))
