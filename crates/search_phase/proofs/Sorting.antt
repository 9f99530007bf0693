-- Insertion sort in any total order.
use Rattle.std.specs.Prelude.{◌≡◌, ℕ, zero, suc, ◌&&◌, length, List, [], ◌∷◌, ◌++◌, Bool, true, false, cond, take, refl}
use Rattle.std.proofs.Common.{sym, ◌∙◌, ap, arith}
use Rattle.std.proofs.lemmas.List.{take-take}
use Rattle.std.specs.List.{flat_map, list_all}

-- a total order of values that are equal where they tie
pub record IsLinear {X : Type 0} (le : X → X → Bool) : Type 0 where
  pub turn : (a b : X) → le a b ≡ false → le b a ≡ true
  pub trans : (a b c : X) → le a b ≡ true → le b c ≡ true → le a c ≡ true
  pub same : (a b : X) → le a b ≡ true → le b a ≡ true → a ≡ b

-- the value put where it stands
abbrev pub put : {X : Type 0} → (X → X → Bool) → X → List X → List X
put le a [] = a ∷ []
put le a (x ∷ xs) = cond (le a x) (a ∷ x ∷ xs) (x ∷ put le a xs)

abbrev pub put_all : {X : Type 0} → (X → X → Bool) → List X → List X → List X
put_all le [] xs = xs
put_all le (a ∷ as') xs = put le a (put_all le as' xs)

-- a test passes, or it does not
pub by_test : {P : Type 0} (b : Bool) → (b ≡ true → P) → (b ≡ false → P) → P
by_test true f g = f refl
by_test false f g = g refl

module _ {X : Type 0} {le : X → X → Bool} (o : IsLinear le) where
  not_before : (a b x : X) → le a x ≡ true → le b x ≡ false → le b a ≡ false
  not_before a b x ax bx = by_test (le b a) (λ ba. absurd (let e : le b x ≡ true = o.trans b a x ba ax in cc)) (λ ba. ba)

  -- two that stand first
  swap_first : (a b : X) (l : List X) → cond (le a b) (a ∷ b ∷ l) (b ∷ a ∷ l) ≡ cond (le b a) (b ∷ a ∷ l) (a ∷ b ∷ l)
  swap_first a b l =
      by_test (le a b)
      (λ ab. by_test (le b a) (λ ba. let e : a ≡ b = o.same a b ab ba in rw (ab, ba) (cc)) (λ ba. rw (ab, ba) refl))
      (λ ab. let ba : le b a ≡ true = o.turn a b ab in rw (ab, ba) refl)

  pub put_comm : (a b : X) (l : List X) → put le a (put le b l) ≡ put le b (put le a l)
  put_comm a b [] = swap_first a b []
  put_comm a b (x ∷ l) =
      by_test (le a x)
      (λ ax. by_test (le b x)
      (λ bx. simp (ax, bx) (swap_first a b (x ∷ l)))
      (λ bx. let ba : le b a ≡ false = not_before a b x ax bx in simp (ax, bx, ba) refl))
      (λ ax. by_test (le b x)
      (λ bx. let ab : le a b ≡ false = not_before b a x bx ax in simp (ax, bx, ab) refl)
      (λ bx. simp (ax, bx) (ap (λ (l : List X). x ∷ l) (put_comm a b l))))

  -- ---- a cut list

  cut_twice : (n : ℕ) (x : X) (l : List X) → take n (x ∷ take n l) ≡ take n (x ∷ l)
  cut_twice zero x l = refl
  cut_twice (suc n) x l = ap (λ (l : List X). x ∷ l) (take-take n (suc n) l (omega arith))

  pub take-put : (n : ℕ) (a : X) (l : List X) → take n (put le a (take n l)) ≡ take n (put le a l)
  take-put zero a l = refl
  take-put (suc n) a [] = refl
  take-put (suc n) a (x ∷ l) =
      by_test (le a x)
      (λ ax. rw ax (ap (λ (l : List X). a ∷ l) (cut_twice n x l)))
      (λ ax. rw ax (ap (λ (l : List X). x ∷ l) (take-put n a l)))

  pub take-put_all : (n : ℕ) (xs l : List X) → take n (put_all le xs (take n l)) ≡ take n (put_all le xs l)
  take-put_all n [] l = take-take n n l (omega arith)
  take-put_all n (x ∷ xs) l =
      sym (take-put n x (put_all le xs (take n l))) ∙ ap (λ (l : List X). take n (put le x l)) (take-put_all n xs l) ∙ take-put n x (put_all le xs l)

  -- ---- in any order

  pub put_all-append : (xs ys l : List X) → put_all le (xs ++ ys) l ≡ put_all le xs (put_all le ys l)
  put_all-append [] ys l = refl
  put_all-append (x ∷ xs) ys l = ap (put le x) (put_all-append xs ys l)

  pub put_all-put : (xs : List X) (b : X) (l : List X) → put_all le xs (put le b l) ≡ put le b (put_all le xs l)
  put_all-put [] b l = refl
  put_all-put (x ∷ xs) b l = ap (put le x) (put_all-put xs b l) ∙ put_comm x b (put_all le xs l)

  pub put_all_comm : (xs ys l : List X) → put_all le xs (put_all le ys l) ≡ put_all le ys (put_all le xs l)
  put_all_comm xs [] l = refl
  put_all_comm xs (y ∷ ys) l = put_all-put xs y (put_all le ys l) ∙ ap (put le y) (put_all_comm xs ys l)

  -- ---- lists that rise

  abbrev leads : X → List X → Bool
  leads x [] = true
  leads x (y ∷ l) = le x y

  abbrev IsRising : List X → Type 0
  IsRising [] = Unit {0}
  IsRising (x ∷ l) = (leads x l ≡ true) × IsRising l

  put_leading : (x : X) (l : List X) → leads x l ≡ true → put le x l ≡ x ∷ l
  put_leading x [] h = refl
  put_leading x (y ∷ l) h = rw h refl

  leads-take : (n : ℕ) (x : X) (l : List X) → leads x l ≡ true → leads x (take n l) ≡ true
  leads-take zero x l h = refl
  leads-take (suc n) x [] h = refl
  leads-take (suc n) x (y ∷ l) h = h

  IsRising-take : (n : ℕ) (l : List X) → IsRising l → IsRising (take n l)
  IsRising-take zero l h = tt
  IsRising-take (suc n) [] h = tt
  IsRising-take (suc n) (x ∷ l) h = (leads-take n x l h.0, IsRising-take n l h.1)

  leads-put : (x a : X) (l : List X) → le x a ≡ true → leads x l ≡ true → leads x (put le a l) ≡ true
  leads-put x a [] h k = h
  leads-put x a (y ∷ l) h k = by_test (le a y) (λ ay. rw ay h) (λ ay. rw ay k)

  IsRising-put : (a : X) (l : List X) → IsRising l → IsRising (put le a l)
  IsRising-put a [] h = (refl, tt)
  IsRising-put a (x ∷ l) h =
      by_test (le a x)
      (λ ax. rw ax (ax, h))
      (λ ax. rw ax (leads-put x a l (o.turn a x ax) h.0, IsRising-put a l h.1))

  IsRising-sorted : (xs : List X) → IsRising (put_all le xs [])
  IsRising-sorted [] = tt
  IsRising-sorted (x ∷ xs) = IsRising-put x (put_all le xs []) (IsRising-sorted xs)

  sorted_rising : (l : List X) → IsRising l → put_all le l [] ≡ l
  sorted_rising [] h = refl
  sorted_rising (x ∷ l) h = ap (put le x) (sorted_rising l h.1) ∙ put_leading x l h.0

  -- ---- cutting each list before they are merged

  cut_before : (n : ℕ) (xs rest : List X) → take n (put_all le (take n (put_all le xs [])) (put_all le rest [])) ≡ take n (put_all le xs (put_all le rest []))
  cut_before n xs rest =
      let first : List X = take n (put_all le xs []) in
      ap (take n) (put_all_comm first rest [])
      ∙ ap (λ (l : List X). take n (put_all le rest l)) (sorted_rising first (IsRising-take n (put_all le xs []) (IsRising-sorted xs)))
      ∙ take-put_all n rest (put_all le xs [])
      ∙ ap (take n) (put_all_comm rest xs [])

  pub cut_each : {S : Type 0} (n : ℕ) (f : S → List X) (ss : List S) → take n (put_all le (flat_map (λ s. take n (put_all le (f s) [])) ss) []) ≡ take n (put_all le (flat_map f ss) [])
  cut_each n f [] = refl
  cut_each n f (s ∷ ss) =
      let cut : List X = flat_map (λ s. take n (put_all le (f s) [])) ss in
      let rest : List X = flat_map f ss in
      ap (take n) (put_all-append (take n (put_all le (f s) [])) cut [])
      ∙ cut_before n (f s) cut
      ∙ sym (take-put_all n (f s) (put_all le cut []))
      ∙ ap (λ (l : List X). take n (put_all le (f s) l)) (cut_each n f ss)
      ∙ take-put_all n (f s) (put_all le rest [])
      ∙ sym (ap (take n) (put_all-append (f s) rest []))

  -- ---- the same values

  length-put : (a : X) (l : List X) → length (put le a l) ≡ suc (length l)
  length-put a [] = refl
  length-put a (x ∷ l) = by_test (le a x) (λ ax. rw ax refl) (λ ax. rw ax (ap suc (length-put a l)))

  pub length-put_all : (xs : List X) → length (put_all le xs []) ≡ length xs
  length-put_all [] = refl
  length-put_all (x ∷ xs) = length-put x (put_all le xs []) ∙ ap suc (length-put_all xs)

  list_all-put : (p : X → Bool) (a : X) (l : List X) → list_all p (a ∷ l) ≡ true → list_all p (put le a l) ≡ true
  list_all-put p a [] h = h
  list_all-put p a (x ∷ l) h = by_test (le a x) (λ ax. rw ax h) (λ ax. rw ax (both_of (p a) (p x) (list_all p l) (list_all p (put le a l)) h (list_all-put p a l)))
    where
      both_of : (a x l m : Bool) → (a && (x && l)) ≡ true → (a && l ≡ true → m ≡ true) → (x && m) ≡ true
      both_of true true true m h f = f refl
      both_of true true false m h f = absurd cc
      both_of true false l m h f = absurd cc
      both_of false x l m h f = absurd cc

  pub list_all-put_all : (p : X → Bool) (xs : List X) → list_all p xs ≡ true → list_all p (put_all le xs []) ≡ true
  list_all-put_all p [] h = refl
  list_all-put_all p (x ∷ xs) h = list_all-put p x (put_all le xs []) (both_of (p x) (list_all p xs) (list_all p (put_all le xs [])) h (list_all-put_all p xs))
    where
      both_of : (a l m : Bool) → (a && l) ≡ true → (l ≡ true → m ≡ true) → (a && m) ≡ true
      both_of true l m h f = f h
      both_of false l m h f = absurd cc
