-- Lists whose things go together, place by place.
use Rattle.std.proofs.Common.{◌≡◌, ℕ, zero, suc, ◌<◌, List, [], ◌∷◌, ◌++◌, length, Some, sym, refl, ap, ◌∙◌, subst, append_assoc, append-nil, length-append, reverse, arith}
use Rattle.std.specs.Prelude.{slice_get, Option, option_to_list}
use Rattle.std.proofs.lemmas.List.{reverse-append, reverse-reverse, length-reverse}
use Rattle.node_link.proofs.Counts.{get_at}
use Rattle.run_inboxes.specs.Pairs.{Pairwise, Threewise}

module _ {A B : Type 0} (is : A → B → Type 0) where
  pub pairs_length : (xs : List A) (ys : List B) → Pairwise is xs ys → length ys ≡ length xs
  pairs_length [] [] p = refl
  pairs_length [] (y ∷ ys) p = absurd p
  pairs_length (x ∷ xs) [] p = absurd p
  pairs_length (x ∷ xs) (y ∷ ys) p = ap suc (pairs_length xs ys p.1)

  pub pairs_get : (xs : List A) (ys : List B) → Pairwise is xs ys → (i : ℕ) (x : A) (y : B) → slice_get xs i ≡ Some x → slice_get ys i ≡ Some y → is x y
  pairs_get [] ys p i x y at there = absurd (cc)
  pairs_get (z ∷ xs) [] p i x y at there = absurd p
  pairs_get (z ∷ xs) (w ∷ ys) p zero x y at there = let e : z ≡ x = cc in let f : w ≡ y = cc in subst (λ v. is v y) e (subst (λ v. is z v) f p.0)
  pairs_get (z ∷ xs) (w ∷ ys) p (suc i) x y at there = pairs_get xs ys p.1 i x y at there

  -- what goes with a thing of the first list
  pub pairs_right : (xs : List A) (ys : List B) → Pairwise is xs ys → (i : ℕ) (x : A) → slice_get xs i ≡ Some x → (y : B) × (slice_get ys i ≡ Some y) × is x y
  pairs_right [] ys p i x at = absurd (cc)
  pairs_right (z ∷ xs) [] p i x at = absurd p
  pairs_right (z ∷ xs) (w ∷ ys) p zero x at = let e : z ≡ x = cc in (w, refl, subst (λ v. is v w) e p.0)
  pairs_right (z ∷ xs) (w ∷ ys) p (suc i) x at = pairs_right xs ys p.1 i x at

  pub pairs_left : (xs : List A) (ys : List B) → Pairwise is xs ys → (i : ℕ) (y : B) → slice_get ys i ≡ Some y → (x : A) × (slice_get xs i ≡ Some x) × is x y
  pairs_left xs [] p i y at = absurd (cc)
  pairs_left [] (w ∷ ys) p i y at = absurd p
  pairs_left (z ∷ xs) (w ∷ ys) p zero y at = let e : w ≡ y = cc in (z, refl, subst (λ v. is z v) e p.0)
  pairs_left (z ∷ xs) (w ∷ ys) p (suc i) y at = pairs_left xs ys p.1 i y at

  pub pairs_push : (xs : List A) (ys : List B) (x : A) (y : B) → Pairwise is xs ys → is x y → Pairwise is (xs ++ x ∷ []) (ys ++ y ∷ [])
  pairs_push [] [] x y p q = (q, tt)
  pairs_push [] (w ∷ ys) x y p q = absurd p
  pairs_push (z ∷ xs) [] x y p q = absurd p
  pairs_push (z ∷ xs) (w ∷ ys) x y p q = (p.0, pairs_push xs ys x y p.1 q)

  -- of as many things, each two at one place
  pub pairs_from : (xs : List A) (ys : List B) → length ys ≡ length xs → ((i : ℕ) (x : A) (y : B) → slice_get xs i ≡ Some x → slice_get ys i ≡ Some y → is x y) → Pairwise is xs ys
  pairs_from [] [] n each = tt
  pairs_from [] (y ∷ ys) n each = absurd (omega arith)
  pairs_from (x ∷ xs) [] n each = absurd (omega arith)
  pairs_from (x ∷ xs) (y ∷ ys) n each = (each zero x y refl refl, pairs_from xs ys (omega arith) (λ i a b at there. each (suc i) a b at there))

module _ {A B C : Type 0} (is : A → B → C → Type 0) where
  pub threes_push : (xs : List A) (ys : List B) (zs : List C) (x : A) (y : B) (z : C) → Threewise is xs ys zs → is x y z → Threewise is (xs ++ x ∷ []) (ys ++ y ∷ []) (zs ++ z ∷ [])
  threes_push [] [] [] x y z p q = (q, tt)
  threes_push [] [] (c ∷ zs) x y z p q = absurd p
  threes_push [] (b ∷ ys) zs x y z p q = absurd p
  threes_push (a ∷ xs) [] zs x y z p q = absurd p
  threes_push (a ∷ xs) (b ∷ ys) [] x y z p q = absurd p
  threes_push (a ∷ xs) (b ∷ ys) (c ∷ zs) x y z p q = (p.0, threes_push xs ys zs x y z p.1 q)

  pub threes_length : (xs : List A) (ys : List B) (zs : List C) → Threewise is xs ys zs → length zs ≡ length xs
  threes_length [] [] [] p = refl
  threes_length [] [] (c ∷ zs) p = absurd p
  threes_length [] (b ∷ ys) zs p = absurd p
  threes_length (a ∷ xs) [] zs p = absurd p
  threes_length (a ∷ xs) (b ∷ ys) [] p = absurd p
  threes_length (a ∷ xs) (b ∷ ys) (c ∷ zs) p = ap suc (threes_length xs ys zs p.1)

  pub threes_middle : (xs : List A) (ys : List B) (zs : List C) → Threewise is xs ys zs → length ys ≡ length xs
  threes_middle [] [] [] p = refl
  threes_middle [] [] (c ∷ zs) p = absurd p
  threes_middle [] (b ∷ ys) zs p = absurd p
  threes_middle (a ∷ xs) [] zs p = absurd p
  threes_middle (a ∷ xs) (b ∷ ys) [] p = absurd p
  threes_middle (a ∷ xs) (b ∷ ys) (c ∷ zs) p = ap suc (threes_middle xs ys zs p.1)

  -- what goes with a thing of the third list
  pub threes_at : (xs : List A) (ys : List B) (zs : List C) → Threewise is xs ys zs → (i : ℕ) (x : A) (z : C) → slice_get xs i ≡ Some x → slice_get zs i ≡ Some z → (y : B) × (slice_get ys i ≡ Some y) × is x y z
  threes_at [] [] zs p i x z at there = absurd (cc)
  threes_at [] (b ∷ ys) zs p i x z at there = absurd p
  threes_at (a ∷ xs) [] zs p i x z at there = absurd p
  threes_at (a ∷ xs) (b ∷ ys) [] p i x z at there = absurd p
  threes_at (a ∷ xs) (b ∷ ys) (c ∷ zs) p zero x z at there = let e : a ≡ x = cc in let f : c ≡ z = cc in (b, refl, subst (λ v. is v b z) e (subst (λ v. is a b v) f p.0))
  threes_at (a ∷ xs) (b ∷ ys) (c ∷ zs) p (suc i) x z at there = threes_at xs ys zs p.1 i x z at there

module _ {A : Type 0} where
  -- the last of those that are left, in reverse, is the next
  pub taken_off : (before left rest all : List A) (x : A) → before ++ reverse left ≡ all → left ≡ rest ++ x ∷ [] → (before ++ x ∷ []) ++ reverse rest ≡ all
  taken_off before left rest all x sum is =
      append_assoc before (x ∷ []) (reverse rest) ∙ ap (λ l. before ++ l) (sym (ap reverse is ∙ reverse-append rest (x ∷ []))) ∙ sum

  pub begun : (left all : List A) → left ≡ reverse all → [] ++ reverse left ≡ all
  begun left all is = ap reverse is ∙ reverse-reverse all

  pub none_left : (before left all : List A) → before ++ reverse left ≡ all → length left ≡ 0 → before ≡ all
  none_left before [] all sum n = sym (append-nil before) ∙ sum
  none_left before (x ∷ left) all sum n = absurd (omega arith)

  -- what a list ends with is the next of those that are left in reverse
  pub next_there : (before left rest all : List A) (x : A) → before ++ reverse left ≡ all → left ≡ rest ++ x ∷ [] → slice_get all (length before) ≡ Some x
  next_there before left rest all x sum is =
      subst (λ l. slice_get l (length before) ≡ Some x) (ap (λ l. before ++ l) (sym (ap reverse is ∙ reverse-append rest (x ∷ []))) ∙ sum) (get_at before x (reverse rest))

  pub there : (before rest all : List A) (x : A) → before ++ x ∷ rest ≡ all → slice_get all (length before) ≡ Some x
  there before rest all x sum = subst (λ l. slice_get l (length before) ≡ Some x) sum (get_at before x rest)

  pub pop_is : (old new : List A) (r : Option A) (x : A) → old ≡ new ++ option_to_list r → r ≡ Some x → old ≡ new ++ x ∷ []
  pop_is old new r x is some = is ∙ ap (λ o. new ++ option_to_list o) some

  -- one is left
  pub more_left : {B : Type 0} (before left all : List A) (done rest whole : List B) (y : B) → before ++ reverse left ≡ all → done ++ y ∷ rest ≡ whole → length before ≡ length done → length all ≡ length whole → 0 < length left
  more_left before left all done rest whole y sum goes same long =
      let a = ap length sum in
      let b = length-append before (reverse left) in
      let d = length-reverse left in
      let e = ap length goes in
      let f = length-append done (y ∷ rest) in
      omega arith

  pub within : (before rest all : List A) (x : A) → before ++ x ∷ rest ≡ all → length before < length all
  within before rest all x sum = let a = ap length sum in let b = length-append before (x ∷ rest) in omega arith

  -- none is left
  pub none_more : {B : Type 0} (before left all : List A) (done : List B) → before ++ reverse left ≡ all → length before ≡ length done → length all ≡ length done → length left ≡ 0
  none_more before left all done sum same long =
      let a = ap length sum in
      let b = length-append before (reverse left) in
      let d = length-reverse left in
      omega arith
