-- Lists by their places.
use Rattle.std.proofs.Common.{◌≡◌, ◌≢◌, ℕ, zero, suc, cond, List, [], ◌∷◌, ◌++◌, length, reverse, Option, Some, refl, sym, ap, ◌∙◌, map, arith}
use Rattle.std.specs.Prelude.{◌==◌, slice_get, slice_set, remove}
use Rattle.std.specs.List.{AllByRecursion}
use Rattle.std.proofs.lemmas.List.{reverse-append, length-reverse}
use Rattle.std.proofs.lemmas.Bool.Decides.{nat_tests}
use Rattle.task_events.specs.declared.event.Event.{Event}
use Rattle.world_moves.specs.Flights.{event_at}

pub set_same : {X : Type 0} (xs : List X) (i : ℕ) (x v : X) → slice_get xs i ≡ Some x → slice_get (slice_set xs i v) i ≡ Some v
set_same [] i x v e = absurd (cc)
set_same (y ∷ xs) zero x v e = refl
set_same (y ∷ xs) (suc i) x v e = set_same xs i x v e

pub set_other : {X : Type 0} (xs : List X) (i j : ℕ) (v : X) → i ≢ j → slice_get (slice_set xs i v) j ≡ slice_get xs j
set_other [] i j v ne = refl
set_other (y ∷ xs) zero zero v ne = absurd (ne refl)
set_other (y ∷ xs) zero (suc j) v ne = refl
set_other (y ∷ xs) (suc i) zero v ne = refl
set_other (y ∷ xs) (suc i) (suc j) v ne = set_other xs i j v (λ e. ne (ap suc e))

pub push_at : {X : Type 0} (xs : List X) (x : X) (i : ℕ) → slice_get (xs ++ x ∷ []) i ≡ cond (i == length xs) (Some x) (slice_get xs i)
push_at [] x zero = refl
push_at [] x (suc i) = grind (arith, nat_tests)
push_at (y ∷ xs) x zero = grind (arith, nat_tests)
push_at (y ∷ xs) x (suc i) = let rest = push_at xs x i in grind (arith, nat_tests)

-- the event at a place, from the oldest on
pub event_from_oldest : (at : ℕ) (h : List Event) → event_at at h ≡ slice_get (reverse h) at
event_from_oldest at [] = refl
event_from_oldest at (e ∷ h) =
    ap (λ o. cond (at == length h) (Some e) o) (event_from_oldest at h)
    ∙ ap (λ n. cond (at == n) (Some e) (slice_get (reverse h) at)) (sym (length-reverse h))
    ∙ sym (ap (λ xs. slice_get xs at) (reverse-append (e ∷ []) h) ∙ push_at (reverse h) e at)

-- of two lists side by side, the elements at a place, and what is left without them
pub pair_at : {A B : Type 0} (f : A → Option B) (xs : List A) (ys : List B) (i : ℕ) (x : A) → map f xs ≡ map Some ys → slice_get xs i ≡ Some x → (y : B) × (slice_get ys i ≡ Some y) × (f x ≡ Some y)
pair_at f [] ys i x e g = absurd (cc)
pair_at f (a ∷ xs) [] i x e g = absurd (cc)
pair_at f (a ∷ xs) (b ∷ ys) zero x e g = (b, refl, (cc))
pair_at f (a ∷ xs) (b ∷ ys) (suc i) x e g = pair_at f xs ys i x (cc) g

pub pairs_left : {A B : Type 0} (f : A → Option B) (xs : List A) (ys : List B) (i : ℕ) → map f xs ≡ map Some ys → map f (remove xs i) ≡ map Some (remove ys i)
pairs_left f [] [] zero e = e
pairs_left f [] [] (suc i) e = e
pairs_left f [] (b ∷ ys) i e = absurd (cc)
pairs_left f (a ∷ xs) [] i e = absurd (cc)
pairs_left f (a ∷ xs) (b ∷ ys) zero e = cc
pairs_left f (a ∷ xs) (b ∷ ys) (suc i) e = let rest = pairs_left f xs ys i (cc) in cc

pub all_left : {X : Type 0} (P : X → Type 0) (xs : List X) (i : ℕ) → AllByRecursion P xs → AllByRecursion P (remove xs i)
all_left P [] zero a = a
all_left P [] (suc i) a = a
all_left P (x ∷ xs) zero a = a.1
all_left P (x ∷ xs) (suc i) a = (a.0, all_left P xs i a.1)

pub all_push : {X : Type 0} (P : X → Type 0) (xs : List X) (x : X) → AllByRecursion P xs → P x → AllByRecursion P (xs ++ x ∷ [])
all_push P [] x a p = (p, tt)
all_push P (y ∷ xs) x a p = (a.0, all_push P xs x a.1 p)
