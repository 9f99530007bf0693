-- What is found in lists that were filtered, mapped and cut.
use Rattle.std.specs.Prelude.{◌≡◌, ℕ, zero, suc, ◌+◌, ◌<◌, ◌⊎◌, List, [], ◌∷◌, ◌++◌, Bool, true, false, ◌||◌, cond, Option, Some, None, is_some, option_map, map, filter, filter_map, find, zip, take, drop, length, slice_get, refl}
use Rattle.std.proofs.Common.{sym, ◌∙◌, ap, subst, arith, inl, inr, add-zero, add-suc}
use Rattle.std.specs.List.{list_any, list_all, flat_map, AllByRecursion}
use Rattle.std.specs.Map.{lookup}
use Rattle.search_phase.proofs.Sorting.{by_test}

-- ---- elements

abbrev pub IsIn : {X : Type 0} → X → List X → Type 0
IsIn x [] = ⊥
IsIn x (y ∷ ys) = (x ≡ y) ⊎ IsIn x ys

pub each_in : {X : Type 0} (P : X → Type 0) (xs : List X) → ((x : X) → IsIn x xs → P x) → AllByRecursion P xs
each_in P [] f = tt
each_in P (x ∷ xs) f = (f x (inl refl), each_in P xs (λ y h. f y (inr h)))

pub at_each : {X : Type 0} (P : X → Type 0) (x : X) (xs : List X) → AllByRecursion P xs → IsIn x xs → P x
at_each P x [] f h = absurd h
at_each P x (y ∷ ys) f (inl same) = subst P (sym same) f.0
at_each P x (y ∷ ys) f (inr later) = at_each P x ys f.1 later

pub list_any-in : {X : Type 0} (p : X → Bool) (x : X) (xs : List X) → IsIn x xs → p x ≡ true → list_any p xs ≡ true
list_any-in p x [] h e = absurd h
list_any-in p x (y ∷ ys) (inl same) e = let f : p y ≡ true = sym (ap p same) ∙ e in rw f refl
list_any-in p x (y ∷ ys) (inr later) e = let f : list_any p ys ≡ true = list_any-in p x ys later e in by_test (p y) (λ yes. rw yes refl) (λ no. rw no f)

pub list_all-in : {X : Type 0} (p : X → Bool) (x : X) (xs : List X) → list_all p xs ≡ true → IsIn x xs → p x ≡ true
list_all-in p x [] e h = absurd h
list_all-in p x (y ∷ ys) e (inl same) = ap p same ∙ by_test (p y) (λ yes. yes) (λ no. absurd (let f : false ≡ true = rw no at e in cc))
list_all-in p x (y ∷ ys) e (inr later) = by_test (p y) (λ yes. list_all-in p x ys (rw yes at e) later) (λ no. absurd (let f : false ≡ true = rw no at e in cc))

pub list_all-weaker : {X : Type 0} (p q : X → Bool) (xs : List X) → ((x : X) → p x ≡ true → q x ≡ true) → list_all p xs ≡ true → list_all q xs ≡ true
list_all-weaker p q [] h e = refl
list_all-weaker p q (x ∷ xs) h e = by_test (p x) (λ yes. let f : q x ≡ true = h x yes in rw f (list_all-weaker p q xs h (rw yes at e))) (λ not_so. absurd (let f : false ≡ true = rw not_so at e in cc))

pub IsIn-filter : {X : Type 0} (p : X → Bool) (x : X) (xs : List X) → IsIn x xs → p x ≡ true → IsIn x (filter p xs)
IsIn-filter p x [] h e = h
IsIn-filter p x (y ∷ ys) (inl same) e = let f : p y ≡ true = sym (ap p same) ∙ e in rw f (inl same)
IsIn-filter p x (y ∷ ys) (inr later) e = by_test (p y) (λ yes. rw yes (inr (IsIn-filter p x ys later e))) (λ no. rw no (IsIn-filter p x ys later e))

pub list_any-map : {X Y : Type 0} (p : Y → Bool) (f : X → Y) (xs : List X) → list_any p (map f xs) ≡ list_any (λ x. p (f x)) xs
list_any-map p f [] = refl
list_any-map p f (x ∷ xs) = ap (λ b. p (f x) || b) (list_any-map p f xs)

pub list_all-take : {X : Type 0} (p : X → Bool) (n : ℕ) (xs : List X) → list_all p xs ≡ true → list_all p (take n xs) ≡ true
list_all-take p zero xs e = refl
list_all-take p (suc n) [] e = refl
list_all-take p (suc n) (x ∷ xs) e = by_test (p x) (λ yes. rw yes (list_all-take p n xs (rw yes at e))) (λ no. absurd (let f : false ≡ true = rw no at e in cc))

pub list_all-drop : {X : Type 0} (p : X → Bool) (n : ℕ) (xs : List X) → list_all p xs ≡ true → list_all p (drop n xs) ≡ true
list_all-drop p zero xs e = e
list_all-drop p (suc n) [] e = refl
list_all-drop p (suc n) (x ∷ xs) e = by_test (p x) (λ yes. list_all-drop p n xs (rw yes at e)) (λ no. absurd (let f : false ≡ true = rw no at e in cc))

pub list_all-append : {X : Type 0} (p : X → Bool) (xs ys : List X) → list_all p xs ≡ true → list_all p ys ≡ true → list_all p (xs ++ ys) ≡ true
list_all-append p [] ys e f = f
list_all-append p (x ∷ xs) ys e f = by_test (p x) (λ yes. rw yes (list_all-append p xs ys (rw yes at e) f)) (λ no. absurd (let f : false ≡ true = rw no at e in cc))

pub list_all-flat_map : {X Y : Type 0} (p : Y → Bool) (f : X → List Y) (xs : List X) → ((x : X) → IsIn x xs → list_all p (f x) ≡ true) → list_all p (flat_map f xs) ≡ true
list_all-flat_map p f [] h = refl
list_all-flat_map p f (x ∷ xs) h = list_all-append p (f x) (flat_map f xs) (h x (inl refl)) (list_all-flat_map p f xs (λ y k. h y (inr k)))

pub list_all-filter : {X : Type 0} (p q : X → Bool) (xs : List X) → list_all p xs ≡ true → list_all p (filter q xs) ≡ true
list_all-filter p q [] e = refl
list_all-filter p q (x ∷ xs) e =
    by_test (p x)
    (λ yes. let later : list_all p (filter q xs) ≡ true = list_all-filter p q xs (rw yes at e) in by_test (q x) (λ kept. rw (kept, yes) later) (λ passed. rw passed later))
    (λ no. absurd (let f : false ≡ true = rw no at e in cc))

-- ---- maps

pub filter_map_where : {X Y : Type 0} (f g : X → Option Y) (p : X → Bool) (xs : List X) → AllByRecursion (λ x. f x ≡ cond (p x) (g x) None) xs → filter_map f xs ≡ filter_map g (filter p xs)
filter_map_where f g p [] h = refl
filter_map_where f g p (x ∷ xs) h =
    by_test (p x)
    (λ yes. let here : f x ≡ g x = rw yes at h.0 in rw (here, yes, filter_map_where f g p xs h.1) refl)
    (λ no. let here : f x ≡ None = rw no at h.0 in rw (here, no, filter_map_where f g p xs h.1) refl)

-- ---- finds

pub find-filter : {X : Type 0} (p q : X → Bool) (xs : List X) → ((x : X) → p x ≡ true → q x ≡ true) → find p (filter q xs) ≡ find p xs
find-filter p q [] h = refl
find-filter p q (x ∷ xs) h =
    by_test (q x)
    (λ yes. rw (yes, find-filter p q xs h) refl)
    (λ no. by_test (p x)
    (λ found. absurd (let f : q x ≡ true = h x found in cc))
    (λ other. rw (no, other) (find-filter p q xs h)))

pub find_passes : {X : Type 0} (p : X → Bool) (xs : List X) (x : X) → find p xs ≡ Some x → p x ≡ true
find_passes p [] x e = absurd cc
find_passes p (y ∷ ys) x e =
    by_test (p y)
    (λ yes. let f : Some y ≡ Some x = rw yes at e in let g : y ≡ x = cc in sym (ap p g) ∙ yes)
    (λ no. find_passes p ys x (rw no at e))

pub is_some-find : {X : Type 0} (p : X → Bool) (xs : List X) → is_some (find p xs) ≡ list_any p xs
is_some-find p [] = refl
is_some-find p (x ∷ xs) = by_test (p x) (λ yes. rw yes refl) (λ no. rw no (is_some-find p xs))

pub lookup-map : {X K V : Type 0} (test : K → Bool) (k : X → K) (v : X → V) (xs : List X) → lookup test (map (λ x. (k x, v x)) xs) ≡ option_map v (find (λ x. test (k x)) xs)
lookup-map test k v [] = refl
lookup-map test k v (x ∷ xs) = by_test (test (k x)) (λ yes. rw yes refl) (λ no. rw no (lookup-map test k v xs))

-- each element of two lists beside each other
abbrev pub Paired : {X Y : Type 0} → (X → Y → Type 0) → List X → List Y → Type 0
Paired Q [] ys = Unit {0}
Paired Q (x ∷ xs) [] = ⊥
Paired Q (x ∷ xs) (y ∷ ys) = Q x y × Paired Q xs ys

pub lookup-paired : {X Y K : Type 0} (Q : X → Y → Type 0) (test : K → Bool) (k : X → K) (xs : List X) (ys : List Y) (x : X) → Paired Q xs ys → find (λ x. test (k x)) xs ≡ Some x
    → (y : Y) × (lookup test (zip (map k xs) ys) ≡ Some y) × Q x y
lookup-paired Q test k [] ys x h e = absurd cc
lookup-paired Q test k (x' ∷ xs) [] x h e = absurd h
lookup-paired {X} {Y} Q test k (x' ∷ xs) (y ∷ ys) x h e =
    by_test (test (k x'))
    (λ yes. let f : Some x' ≡ Some x = rw yes at e in let g : x' ≡ x = cc in rw yes (y, refl, let P : X → Type 0 = λ z. Q z y in subst P g h.0))
    (λ no. rw no (lookup-paired Q test k xs ys x h.1 (rw no at e)))

pub paired_by_place : {X Y : Type 0} (Q : X → Y → Type 0) (xs : List X) (ys : List Y) → length xs ≡ length ys → ((i : ℕ) (x : X) (y : Y) → slice_get xs i ≡ Some x → slice_get ys i ≡ Some y → Q x y) → Paired Q xs ys
paired_by_place Q [] ys e f = tt
paired_by_place Q (x ∷ xs) [] e f = absurd (omega arith)
paired_by_place Q (x ∷ xs) (y ∷ ys) e f = (f zero x y refl refl, paired_by_place Q xs ys (omega arith) (λ i x y. f (suc i) x y))

-- each element of two lists beside each other, as far as both go
abbrev pub Beside : {X Y : Type 0} → (X → Y → Type 0) → List X → List Y → Type 0
Beside Q [] ys = Unit {0}
Beside Q (x ∷ xs) [] = Unit {0}
Beside Q (x ∷ xs) (y ∷ ys) = Q x y × Beside Q xs ys

pub beside_by_place : {X Y : Type 0} (Q : X → Y → Type 0) (xs : List X) (ys : List Y) → ((i : ℕ) (x : X) (y : Y) → slice_get xs i ≡ Some x → slice_get ys i ≡ Some y → Q x y) → Beside Q xs ys
beside_by_place Q [] ys f = tt
beside_by_place Q (x ∷ xs) [] f = tt
beside_by_place Q (x ∷ xs) (y ∷ ys) f = (f zero x y refl refl, beside_by_place Q xs ys (λ i x y. f (suc i) x y))

-- ---- places

pub slice_get-drop : {X : Type 0} (n i : ℕ) (xs : List X) → slice_get (drop n xs) i ≡ slice_get xs (i + n)
slice_get-drop zero i xs = rw (add-zero i) refl
slice_get-drop (suc n) i [] = refl
slice_get-drop (suc n) i (x ∷ xs) = rw (add-suc i n) (slice_get-drop n i xs)

pub slice_get-take : {X : Type 0} (n i : ℕ) (xs : List X) (x : X) → slice_get (take n xs) i ≡ Some x → (slice_get xs i ≡ Some x) × (i < n)
slice_get-take zero i xs x e = absurd cc
slice_get-take (suc n) i [] x e = absurd cc
slice_get-take (suc n) zero (y ∷ ys) x e = (e, omega arith)
slice_get-take (suc n) (suc i) (y ∷ ys) x e = let r : (slice_get ys i ≡ Some x) × (i < n) = slice_get-take n i ys x e in (r.0, omega arith)
