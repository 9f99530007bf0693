-- Several fields, as contracts see them.
use Rattle.std.proofs.Common.{◌≡◌, Result, Ok, Err, refl, sym, ap, ◌∙◌}
use Rattle.task_ids.specs.declared.cause.Cause.{Cause}
use Rattle.shard_docs.specs.Fault.{and_then}
use Rattle.script_lang.specs.Fields.{both, seen}

-- a value that is seen as itself
pub seen_same : {A : Type 0} (a : Result A Cause) → seen (λ x. x) a ≡ a
seen_same (Ok x) = refl
seen_same (Err cause) = refl

-- two fields are seen as each of them is
pub seen_both : {A B X Y : Type 0} (f : A → X) (g : B → Y) (a : Result A Cause) (b : Result B Cause) → seen (λ p. (f p.0, g p.1)) (both a b) ≡ both (seen f a) (seen g b)
seen_both f g (Ok x) (Ok y) = refl
seen_both f g (Ok x) (Err b) = refl
seen_both f g (Err a) (Ok y) = refl
seen_both f g (Err a) (Err b) = refl

-- two fields are seen as they are found
pub seen_pair : {A B X Y : Type 0} (f : A → X) (g : B → Y) (a : Result A Cause) (b : Result B Cause) (x : Result X Cause) (y : Result Y Cause)
    → seen f a ≡ x → seen g b ≡ y → seen (λ p. (f p.0, g p.1)) (both a b) ≡ both x y
seen_pair f g a b x y e e' = seen_both f g a b ∙ ap (λ r. both r (seen g b)) e ∙ ap (both x) e'

-- three fields, four, and five
pub seen_three : {A B C X Y Z : Type 0} (f : A → X) (g : B → Y) (h : C → Z) (a : Result A Cause) (b : Result B Cause) (c : Result C Cause) (x : Result X Cause) (y : Result Y Cause) (z : Result Z Cause)
    → seen f a ≡ x → seen g b ≡ y → seen h c ≡ z → seen (λ p. (f p.0, (g p.1.0, h p.1.1))) (both a (both b c)) ≡ both x (both y z)
seen_three f g h a b c x y z e e' e'' = seen_pair f (λ p. (g p.0, h p.1)) a (both b c) x (both y z) e (seen_pair g h b c y z e' e'')

pub seen_four : {A B C D X Y Z W : Type 0} (f : A → X) (g : B → Y) (h : C → Z) (k : D → W)
    (a : Result A Cause) (b : Result B Cause) (c : Result C Cause) (d : Result D Cause) (x : Result X Cause) (y : Result Y Cause) (z : Result Z Cause) (w : Result W Cause)
    → seen f a ≡ x → seen g b ≡ y → seen h c ≡ z → seen k d ≡ w → seen (λ p. (f p.0, (g p.1.0, (h p.1.1.0, k p.1.1.1)))) (both a (both b (both c d))) ≡ both x (both y (both z w))
seen_four f g h k a b c d x y z w e e' e'' e''' =
    seen_pair f (λ p. (g p.0, (h p.1.0, k p.1.1))) a (both b (both c d)) x (both y (both z w)) e (seen_three g h k b c d y z w e' e'' e''')

pub seen_five : {A B C D E X Y Z W V : Type 0} (f : A → X) (g : B → Y) (h : C → Z) (k : D → W) (l : E → V)
    (a : Result A Cause) (b : Result B Cause) (c : Result C Cause) (d : Result D Cause) (s : Result E Cause) (x : Result X Cause) (y : Result Y Cause) (z : Result Z Cause) (w : Result W Cause) (v : Result V Cause)
    → seen f a ≡ x → seen g b ≡ y → seen h c ≡ z → seen k d ≡ w → seen l s ≡ v
    → seen (λ p. (f p.0, (g p.1.0, (h p.1.1.0, (k p.1.1.1.0, l p.1.1.1.1))))) (both a (both b (both c (both d s)))) ≡ both x (both y (both z (both w v)))
seen_five f g h k l a b c d s x y z w v e e' e'' e''' e'''' =
    seen_pair f (λ p. (g p.0, (h p.1.0, (k p.1.1.0, l p.1.1.1)))) a (both b (both c (both d s))) x (both y (both z (both w v))) e (seen_four g h k l b c d s y z w v e' e'' e''' e'''')

-- what is made of a value, as it is seen
pub seen_ok : {A X Y : Type 0} (f : A → X) (h : X → Y) (a : Result A Cause) (x : Result X Cause) (v : A) → seen f a ≡ x → a ≡ Ok v → Ok (h (f v)) ≡ and_then x (λ u. Ok (h u))
seen_ok f h a x v e is = ap (λ r. and_then (seen f r) (λ u. Ok (h u))) (sym is) ∙ ap (λ r. and_then r (λ u. Ok (h u))) e

pub seen_err : {A X Y : Type 0} (f : A → X) (h : X → Y) (a : Result A Cause) (x : Result X Cause) (cause : Cause) → seen f a ≡ x → a ≡ Err cause → Err cause ≡ and_then x (λ u. Ok (h u))
seen_err f h a x cause e is = ap (λ r. and_then (seen f r) (λ u. Ok (h u))) (sym is) ∙ ap (λ r. and_then r (λ u. Ok (h u))) e

-- where both fields are good, each is
pub both_first : {A B : Type 0} (a : Result A Cause) (b : Result B Cause) (p : A × B) → both a b ≡ Ok p → a ≡ Ok p.0
both_first {A = A} {B = B} (Ok x) (Ok y) p e = let same : ◌≡◌ {A = A × B} (x, y) p = cc in ap (λ q. Ok q.0) same
both_first (Ok x) (Err b) p e = cc
both_first (Err a) (Ok y) p e = cc
both_first (Err a) (Err b) p e = cc

pub both_second : {A B : Type 0} (a : Result A Cause) (b : Result B Cause) (p : A × B) → both a b ≡ Ok p → b ≡ Ok p.1
both_second {A = A} {B = B} (Ok x) (Ok y) p e = let same : ◌≡◌ {A = A × B} (x, y) p = cc in ap (λ q. Ok q.1) same
both_second (Ok x) (Err b) p e = cc
both_second (Err a) (Ok y) p e = cc
both_second (Err a) (Err b) p e = cc

-- where two steps go well, the first does
pub first_ok : {A B E : Type 0} (a : Result A E) (f : A → Result B E) (y : B) → and_then a f ≡ Ok y → (x : A) × (a ≡ Ok x) × (f x ≡ Ok y)
first_ok (Ok x) f y e = (x, refl, e)
first_ok (Err cause) f y e = cc
