-- Where as many letters were taken as were sent, each sender's letters were all taken.
use Rattle.std.proofs.Common.{◌≡◌, ◌≢◌, ◌⊎◌, ℕ, zero, suc, ◌+◌, ◌<◌, ◌≤◌, ◌==◌, Bool, true, false, List, [], ◌∷◌, ◌++◌, length, Some, sym, refl, inl, inr, ap, ◌∙◌, subst, ⊎_elim, append-nil, length-append, eq-eqb, ne_eqb, arith}
use Rattle.std.specs.Prelude.{slice_get}
use Rattle.node_link.specs.declared.rule.Tagged.{Tagged}
use Rattle.node_link.specs.Rule.{kept, of, total}
use Rattle.std.proofs.lemmas.Bool.Decides.{eqb_tells}

-- f i and the next ones, n numbers in all, added up
abbrev pub added : (ℕ → ℕ) → ℕ → ℕ → ℕ
added f i zero = 0
added f i (suc n) = f i + added f (suc i) n

added_same : (f g : ℕ → ℕ) (i n : ℕ) → ((k : ℕ) → i ≤ k → g k ≡ f k) → added g i n ≡ added f i n
added_same f g i zero same = refl
added_same f g i (suc n) same = let a = same i (omega arith) in let b = added_same f g (suc i) n (λ k le. same k (omega arith)) in omega arith

added_zero : (f : ℕ → ℕ) (i n : ℕ) → ((k : ℕ) → f k ≡ 0) → added f i n ≡ 0
added_zero f i zero none = refl
added_zero f i (suc n) none = let a = none i in let b = added_zero f (suc i) n none in omega arith

added_one : (f g : ℕ → ℕ) (m i n : ℕ) → g m ≡ suc (f m) → ((k : ℕ) → k ≢ m → g k ≡ f k) → i ≤ m → m < i + n → added g i n ≡ suc (added f i n)
added_one f g m i zero one same low high = absurd (omega arith)
added_one f g m i (suc n) one same low high =
    elim (eqb_tells i m) [
      | inl t ↦ (let e = t.1 in let a : g i ≡ suc (f i) = subst (λ (j : ℕ). g j ≡ suc (f j)) (sym e) one in let b = added_same f g (suc i) n (λ k le. same k (λ h. omega arith)) in omega arith)
      | inr t ↦ (let a = same i t.1 in let b = added_one f g m (suc i) n one same (omega arith) (omega arith) in omega arith)
    ]

pub Some_injective : {E : Type 0} (x y : E) → Some x ≡ Some y → x ≡ y
Some_injective x y e = cc

module _ {L : Type 0} where
  kept_nil : (b : Bool) (x : L) (xs : List L) → kept b x xs ≡ [] → xs ≡ []
  kept_nil true x xs e = absurd (cc)
  kept_nil false x xs e = e

  kept_true : (b : Bool) (x : L) (xs : List L) → b ≡ true → length (kept b x xs) ≡ suc (length xs)
  kept_true b x xs e = ap (λ c. length (kept c x xs)) e

  kept_false : (b : Bool) (x : L) (xs : List L) → b ≡ false → length (kept b x xs) ≡ length xs
  kept_false b x xs e = ap (λ c. length (kept c x xs)) e

  -- each letter comes from one of n senders
  pub counts : (n : ℕ) (xs : List (Tagged L)) → ((p : ℕ) → n ≤ p → of p xs ≡ []) → added (λ k. length (of k xs)) 0 n ≡ length xs
  counts n [] none = added_zero (λ k. 0) 0 n (λ k. refl)
  counts n (x ∷ xs) none =
      let m = x.from in
      let out : n ≤ m → ⊥ = λ le. let l = kept_true (m == m) x.letter (of m xs) (eq-eqb m m refl) in let z = ap length (none m le) in omega arith in
      let there : m < n = omega arith in
      let rest = counts n xs (λ p le. kept_nil (m == p) x.letter (of p xs) (none p le)) in
      added_one (λ k. length (of k xs)) (λ k. length (of k (x ∷ xs))) m 0 n
      (kept_true (m == m) x.letter (of m xs) (eq-eqb m m refl))
      (λ k ne. kept_false (m == k) x.letter (of k xs) (ne_eqb m k (λ e. ne (sym e))))
      (omega arith) (omega arith) ∙ ap suc rest

  -- a list that goes on by nothing
  ends_there : (xs rest : List L) → length rest ≡ 0 → xs ++ rest ≡ xs
  ends_there xs [] e = append-nil xs
  ends_there xs (y ∷ rest) e = absurd (omega arith)

  module _ {E : Type 0} (f : E → List L) (r : List (Tagged L)) where
    abbrev pub Each : ℕ → List E → Type 0
    Each i ends = (k : ℕ) (e : E) → slice_get ends k ≡ Some e → (rest : List L) × (f e ≡ of (i + k) r ++ rest)

    pub all_or_less : (i : ℕ) (ends : List E) → Each i ends
        → (added (λ k. length (of k r)) i (length ends) ≤ total (λ e. length (f e)) ends)
        × (added (λ k. length (of k r)) i (length ends) ≡ total (λ e. length (f e)) ends → (k : ℕ) (e : E) → slice_get ends k ≡ Some e → of (i + k) r ≡ f e)
    all_or_less i [] each = (omega arith, λ _ k e is. absurd (cc))
    all_or_less i (x ∷ xs) each =
        let h = each zero x refl in
        let place : i + 0 ≡ i = omega arith in
        let mine : f x ≡ of i r ++ h.0 = h.1 ∙ ap (λ j. of j r ++ h.0) place in
        let long : length (f x) ≡ length (of i r) + length h.0 = ap length mine ∙ length-append (of i r) h.0 in
        let later : Each (suc i) xs = λ k e is. let t = each (suc k) e is in let p : i + suc k ≡ suc i + k = omega arith in (t.0, t.1 ∙ ap (λ j. of j r ++ t.0) p) in
        let rest = all_or_less (suc i) xs later in
        let low = rest.0 in
        (omega arith, whole h.0 mine long rest low)
      where
        whole : (more : List L) → f x ≡ of i r ++ more → length (f x) ≡ length (of i r) + length more
            → (added (λ k. length (of k r)) (suc i) (length xs) ≤ total (λ e. length (f e)) xs)
            × (added (λ k. length (of k r)) (suc i) (length xs) ≡ total (λ e. length (f e)) xs → (k : ℕ) (e : E) → slice_get xs k ≡ Some e → of (suc i + k) r ≡ f e)
            → added (λ k. length (of k r)) (suc i) (length xs) ≤ total (λ e. length (f e)) xs
            → added (λ k. length (of k r)) i (length (x ∷ xs)) ≡ total (λ e. length (f e)) (x ∷ xs)
            → (k : ℕ) (e : E) → slice_get (x ∷ xs) k ≡ Some e → of (i + k) r ≡ f e
        whole more mine long rest low same zero e is =
            let none : length more ≡ 0 = omega arith in
            let place : i + 0 ≡ i = omega arith in
            ap (λ j. of j r) place ∙ sym (ends_there (of i r) more none) ∙ sym mine ∙ ap f (Some_injective x e is)
        whole more mine long rest low same (suc k) e is =
            let all : added (λ k. length (of k r)) (suc i) (length xs) ≡ total (λ e. length (f e)) xs = omega arith in
            let place : i + suc k ≡ suc i + k = omega arith in
            ap (λ j. of j r) place ∙ rest.1 all k e is

pub get_new : {E : Type 0} (xs : List E) (y : E) (k : ℕ) (s : E) → slice_get (xs ++ y ∷ []) k ≡ Some s → (slice_get xs k ≡ Some s) ⊎ ((k ≡ length xs) × (y ≡ s))
get_new [] y zero s e = inr (refl, Some_injective y s e)
get_new [] y (suc k) s e = absurd (cc)
get_new (x ∷ xs) y zero s e = inl e
get_new (x ∷ xs) y (suc k) s e = ⊎_elim (λ t. inl t) (λ t. inr (ap suc t.0, t.1)) (get_new xs y k s e)

-- what holds of each element, and of one more
pub each_more : {E : Type 0} (P : ℕ → E → Type 0) (xs : List E) (y : E) → ((k : ℕ) (s : E) → slice_get xs k ≡ Some s → P k s) → P (length xs) y → (k : ℕ) (s : E) → slice_get (xs ++ y ∷ []) k ≡ Some s → P k s
each_more {E = E} P xs y old new k s e =
    ⊎_elim
    (λ (t : slice_get xs k ≡ Some s). old k s t)
    (λ (t : (k ≡ length xs) × (y ≡ s)). subst (λ (p : ℕ × E). P p.0 p.1) (λ i. (sym t.0 i, t.1 i)) new)
    (get_new xs y k s e)

pub get_at : {E : Type 0} (xs : List E) (y : E) (ys : List E) → slice_get (xs ++ y ∷ ys) (length xs) ≡ Some y
get_at [] y ys = refl
get_at (x ∷ xs) y ys = get_at xs y ys

pub total_append : {E : Type 0} (f : E → ℕ) (xs : List E) (y : E) → total f (xs ++ y ∷ []) ≡ total f xs + f y
total_append f [] y = omega arith
total_append f (x ∷ xs) y = let h = total_append f xs y in omega arith

pub no_more : {E : Type 0} (xs ys zs : List E) → xs ++ ys ≡ zs → length ys ≡ 0 → xs ≡ zs
no_more xs [] zs e n = sym (append-nil xs) ∙ e
no_more xs (y ∷ ys) zs e n = absurd (omega arith)
