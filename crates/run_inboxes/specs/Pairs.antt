-- Lists whose things go together, place by place.
use Rattle.std.specs.Prelude.{List, [], ◌∷◌}

-- as many things are in both, and each two in order are so related
abbrev pub Pairwise : {A B : Type 0} → (A → B → Type 0) → List A → List B → Type 0
Pairwise is [] [] = Unit {0}
Pairwise is [] (y ∷ ys) = ⊥
Pairwise is (x ∷ xs) [] = ⊥
Pairwise is (x ∷ xs) (y ∷ ys) = is x y × Pairwise is xs ys

-- the same of three lists
abbrev pub Threewise : {A B C : Type 0} → (A → B → C → Type 0) → List A → List B → List C → Type 0
Threewise is [] [] [] = Unit {0}
Threewise is [] [] (z ∷ zs) = ⊥
Threewise is [] (y ∷ ys) zs = ⊥
Threewise is (x ∷ xs) [] zs = ⊥
Threewise is (x ∷ xs) (y ∷ ys) [] = ⊥
Threewise is (x ∷ xs) (y ∷ ys) (z ∷ zs) = is x y z × Threewise is xs ys zs
