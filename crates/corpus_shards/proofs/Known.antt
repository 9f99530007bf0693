-- The indices that are there from the start, one more at a time.
use Rattle.std.proofs.Common.{◌≡◌, ℕ, ◌+◌, ◌<◌, Bool, true, false, ◌||◌, List, [], ◌∷◌, ◌++◌, take, length, get_or, refl, sym, ap, ◌∙◌}
use Rattle.std.specs.Cmp.Lexicographic.{nat_list_eq_equiv}
use Rattle.std.specs.List.{list_any}
use Rattle.std.specs.Str.{bytes_eq}
use Rattle.std.proofs.lemmas.List.{take_more}
use Rattle.std.proofs.lemmas.List.Folds.{list_any-append}

pub none_more : (there : Bool) → there ≡ there || false
none_more true = refl
none_more false = refl

or_last : (b old some : Bool) → b || (old || some) ≡ old || (some || (b || false))
or_last true true some = refl
or_last true false true = refl
or_last true false false = refl
or_last false true some = refl
or_last false false true = refl
or_last false false false = refl

pub one_more : (indices : List (List ℕ)) (i : ℕ) (index q key : List ℕ) (old between new : Bool) → i < length indices → index ≡ get_or indices i index → key ≡ index
    → new ≡ bytes_eq key q || between → between ≡ old || list_any (bytes_eq q) (take i indices) → new ≡ old || list_any (bytes_eq q) (take (i + 1) indices)
one_more indices i index q key old between new here is k n b =
    n ∙ ap (λ same. same || between) (nat_list_eq_equiv.symm key q ∙ ap (bytes_eq q) k)
    ∙ ap (λ had. bytes_eq q index || had) b
    ∙ or_last (bytes_eq q index) old (list_any (bytes_eq q) (take i indices))
    ∙ sym (ap (λ xs. old || list_any (bytes_eq q) xs) (take_more indices i index here ∙ ap (λ x. take i indices ++ x ∷ []) (sym is)) ∙ ap (λ some. old || some) (list_any-append (bytes_eq q) (take i indices) (index ∷ [])))
