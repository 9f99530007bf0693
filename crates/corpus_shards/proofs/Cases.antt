-- What follows where something is found, where a call succeeds, where it fails, and where two names are one or differ.
use Rattle.std.proofs.Common.{◌≡◌, ℕ, ◌⊎◌, true, false, List, subst}
use Rattle.std.specs.Str.{bytes_eq}
use Rattle.std.specs.Prelude.{Result, Ok, Err, OnOk, OnErr}
pub use Rattle.shard_docs.proofs.Adding.{some_of, then_ok}

pub both_ok : {T E : Type 0} (r : Result T E) (P Q R : Type 0) → OnOk r P → OnOk r Q → (P → Q → R) → OnOk r R
both_ok (Ok x) P Q R p q f = f p q
both_ok (Err e) P Q R p q f = tt

pub then_err : {T E : Type 0} (r : Result T E) (P Q : Type 0) → OnErr r P → (P → Q) → OnErr r Q
then_err (Ok x) P Q p f = tt
then_err (Err e) P Q p f = f p

pub on_err : {T E : Type 0} (r : Result T E) (P : Type 0) → P → OnErr r P
on_err (Ok x) P p = tt
on_err (Err e) P p = p

pub of_err : {T E : Type 0} (r : Result T E) (e : E) (P : Type 0) → r ≡ Err e → OnErr r P → P
of_err r e P is p = subst (λ x. OnErr x P) is p

-- two names are one, or both tests between them fail
abbrev pub AreSameOrOther : List ℕ → List ℕ → Type 0
AreSameOrOther a b = ((bytes_eq a b ≡ true) × (bytes_eq b a ≡ true) × (a ≡ b)) ⊎ ((bytes_eq a b ≡ false) × (bytes_eq b a ≡ false))
